-- The restriction by a basis of n variables, as the functions above it meet it: its points are what the lead mask keeps, they rise and have as many
-- variables as are left; and the basis of a completed table is such a basis.
use mathlib.Core.Path.{◌≡◌, ap, ◌∙◌, subst}
use mathlib.Core.Bool.{Bool, false}
use mathlib.Core.List.{List}
use Prim.Native.Nat.{ℕ, ◌+◌, ◌-◌, ◌^◌, ◌≤◌, ◌<◌}
use native.Mathlib.Omega.{arith}
use lib.ListN.{length}
use Rattle.gf2.specs.Limits.{max_variables}
use Rattle.gf2.specs.Finite.{Mem}
use Rattle.gf2.specs.Basis.{lead_mask}
use Rattle.basis.specs.declared.Basis.{Basis}
use Rattle.basis.specs.Reduced.{vectors_of, BasisWithin}
use Rattle.basis.proofs.Values.{basis-len, vectors-back}
use Rattle.table.specs.Table.{outside, unordered}
use Rattle.table.proofs.Table.{not-outside, not-unordered}
use Rattle.space.specs.declared.Completed.{Completed}
use Rattle.space.specs.Closure.{linear_space}
use Rattle.space.specs.Witness.{flagged}
use Rattle.space.specs.Completion.{completed, IsCompleted}
use Rattle.space.specs.Restriction.{equations, restriction}
use Rattle.space.proofs.Closure.{linear-below}
use Rattle.space.proofs.Restriction.{equations-length, restriction-below, restriction-length, restriction-rising, restriction-ext}
use Rattle.projection.specs.Masks.{kept}
use Rattle.projection.proofs.Masks.{kept-restriction}

-- ---- a basis of n variables

module _ {n : ℕ} {b : Basis} (s : BasisWithin n b) where
  left_over : length (equations n (vectors_of b)) + b.len ≡ n
  left_over = omega (arith, basis-len b s.basis, equations-length n (vectors_of b) s.basis.reduced s.below)

  pub spans-few : b.len ≤ n
  spans-few = omega (arith, left_over)

  -- As many variables are left as there are equations.
  variables-left : length (equations n (vectors_of b)) ≡ n - b.len
  variables-left = omega (arith, left_over)

  module _ (f : ℕ → Bool) where
    abbrev points : List ℕ
    points = restriction n (vectors_of b) f

    pub points_kept : (leads : ℕ) → leads ≡ lead_mask (vectors_of b) → kept n leads f ≡ points
    points_kept leads e = ap (λ (m : ℕ). kept n m f) e ∙ kept-restriction n (vectors_of b) s.basis.reduced f

    pub points-few : length points ≤ 2 ^ (n - b.len)
    points-few = subst (λ (k : ℕ). length points ≤ 2 ^ k) variables-left (restriction-length n (vectors_of b) f)

    pub points-inside : outside (n - b.len) points ≡ false
    points-inside = not-outside (n - b.len) points (λ y m. subst (λ (k : ℕ). y < 2 ^ k) variables-left (restriction-below n (vectors_of b) f y m))

    pub points-rise : unordered points ≡ false
    points-rise = not-unordered points (restriction-rising n (vectors_of b) f)

-- ---- a completed table

module _ {n : ℕ} {on free : List ℕ} {r : Completed} (k : IsCompleted n on free r) where
  abbrev f : ℕ → Bool
  f = completed n on free

  pub completed-vectors : vectors_of r.basis ≡ linear_space n f
  completed-vectors = ap vectors_of k.basis.value ∙ vectors-back (linear_space n f)

  pub completed-len : r.basis.len ≡ length (linear_space n f)
  completed-len = ap (λ (b : Basis). b.len) k.basis.value

  pub completed-spans : n ≤ max_variables → BasisWithin n r.basis
  completed-spans h = record { few = h; basis = k.basis.basis; below = λ c m. linear-below n f c (subst (Mem c) completed-vectors m) }

  pub completed-restriction : restriction n (vectors_of r.basis) (flagged r.flags) ≡ restriction n (linear_space n f) f
  completed-restriction =
      ap (λ (bs : List ℕ). restriction n bs (flagged r.flags)) completed-vectors ∙ restriction-ext n (linear_space n f) (flagged r.flags) f k.flags

  -- What its lead mask keeps is its restriction.
  pub completed-kept : (leads : ℕ) → leads ≡ lead_mask (vectors_of r.basis) → kept n leads (flagged r.flags) ≡ restriction n (linear_space n f) f
  completed-kept leads e =
      ap (λ (m : ℕ). kept n m (flagged r.flags)) e ∙ kept-restriction n (vectors_of r.basis) k.basis.basis.reduced (flagged r.flags) ∙ completed-restriction
