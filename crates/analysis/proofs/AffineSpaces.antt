-- The answer of `affine`, from the directions of the on points.
use mathlib.Core.Path.{◌≡◌, refl, sym, ap, ap₂, ◌∙◌}
use mathlib.Core.Bool.{true, false}
use mathlib.Core.Logic.{◌≢◌}
use mathlib.Core.List.{List, [], ◌∷◌}
use Prim.Native.Nat.{ℕ, ◌<◌}
use lib.Dec.{eqb}
use lib.ListN.{length, get_or, length-map}
use Rattle.gf2.specs.Finite.{holds}
use Rattle.gf2.specs.Basis.{Reduced, reduce, lead_mask, canonical_places}
use Rattle.basis.specs.declared.Basis.{Basis}
use Rattle.basis.specs.Reduced.{vectors_of, basis_of}
use Rattle.basis.proofs.Values.{vectors-back}
use Rattle.table.specs.Refusal.{test, first_fault, Numbered, affine_fault}
use Rattle.table.specs.Table.{table_tests, table_fault}
use Rattle.table.proofs.FirstFault.{numbered}
use Rattle.table.proofs.Table.{table-numbered}
use Rattle.table.proofs.Decide.{table-refused, then-applies, then-none, Ways, ways}
use Rattle.space.specs.Restriction.{project}
use Rattle.space.specs.Affine.{directions, projection}
use Rattle.projection.specs.Masks.{projected as by_mask}
use Rattle.projection.proofs.Masks.{projected-projection}
use Rattle.projection.proofs.Affine.{least-reduced}
use Rattle.analysis.specs.declared.AffineSpace.{AffineSpace}
use Rattle.analysis.specs.Affine.{affine_projection, on_tests, affine_accepted, affine_refused, affine_answer, affine_after}

-- ---- refusals before the room's

module _ (n : ℕ) (on : List ℕ) where
  pub on-refused : (k : ℕ) → k ≡ table_fault n on [] → k ≢ 0 → k ≡ first_fault (on_tests n on)
  unfolding table_fault
  on-refused k e z = sym (table-refused (table_tests n on []) (test affine_fault (eqb (length on) 0) ∷ []) k (sym e) z)

  pub on-empty : table_fault n on [] ≡ 0 → eqb (length on) 0 ≡ true → affine_fault ≡ first_fault (on_tests n on)
  unfolding table_fault
  on-empty e z = sym (then-applies (table_tests n on []) (table-numbered n on []) e affine_fault (eqb (length on) 0) z)

  pub on-passed : table_fault n on [] ≡ 0 → eqb (length on) 0 ≡ false → first_fault (on_tests n on) ≡ 0
  unfolding table_fault
  on-passed e z = then-none (table_tests n on []) (table-numbered n on []) e affine_fault (eqb (length on) 0) z

  -- Every point is projected.
  pub projected-all : length (affine_projection n on) ≡ length on
  unfolding projection
  projected-all = length-map on (project (canonical_places n (directions on)))

  pub on-numbered : Numbered (on_tests n on)
  unfolding holds table_tests
  on-numbered = numbered (on_tests n on) refl

-- ---- the numbers and the room

module _ (n : ℕ) (on : List ℕ) (b : Basis) (value : b ≡ basis_of (directions on)) where
  pub affine-numbers : 0 < length on → (least : ℕ) → least ≡ reduce (vectors_of b) (get_or on 0 0)
      → ◌≡◌ {A = AffineSpace} (record { refusal = 0; least = least; dimension = b.len; basis = b; count = length on }) (affine_accepted n on)
  affine-numbers some least e =
      ap (λ (x : Basis). record { refusal = 0; least = least; dimension = x.len; basis = x; count = length on }) value
      ∙ ap₂ (λ (x y : ℕ). record { refusal = 0; least = x; dimension = length (directions on); basis = basis_of (directions on); count = y })
      (e ∙ least-reduced on b some value) (sym (projected-all n on))

  pub affine-projected : Reduced (vectors_of b) → (m : ℕ) → m ≡ lead_mask (vectors_of b) → by_mask n m on ≡ affine_projection n on
  affine-projected r m e =
      ap (λ (x : ℕ). by_mask n x on) e ∙ projected-projection n (vectors_of b) r on
      ∙ ap (λ bs. projection n bs on) (ap vectors_of value ∙ vectors-back (directions on))

-- ---- the three ways out of a call

pub affine-ways : (n : ℕ) (on room : List ℕ) → Ways (first_fault (on_tests n on)) (affine_projection n on) room (affine_accepted n on) affine_refused (affine_answer n on room) (affine_after n on room)
unfolding affine_answer affine_after
affine-ways n on room = ways (on_tests n on) (affine_projection n on) room (affine_accepted n on) affine_refused (on-numbered n on)
