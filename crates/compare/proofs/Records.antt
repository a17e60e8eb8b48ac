-- Laws about the records of differing points: their bytes in all, one more record, and that only the marks of the points matter. Read next: Stopping.
use mathlib.Core.Path.{◌≡◌, refl}
use mathlib.Core.Logic.{inl, inr}
use mathlib.Core.List.{List, [], ◌∷◌, ◌++◌, flat_map}
use Prim.Native.Nat.{ℕ, ◌*◌}
use native.Mathlib.Omega.{arith}
use lib.ListN.{length}
use Rattle.gf2.specs.Finite.{Mem}
use Rattle.gf2.proofs.Finite.{flat_map-append}
use Rattle.compare.specs.Differences.{difference_length, difference_of, differences_of}

module _ (left right : ℕ → ℕ) where
  pub differences-length : (ps : List ℕ) → length (differences_of left right ps) ≡ difference_length * length ps
  unfolding differences_of flat_map
  differences-length [] = refl
  differences-length (p ∷ ps) = omega (arith, differences-length ps)

  pub differences-append : (ps qs : List ℕ) → differences_of left right (ps ++ qs) ≡ differences_of left right ps ++ differences_of left right qs
  unfolding differences_of
  differences-append ps qs = flat_map-append (difference_of left right) ps qs

  pub differences-one : (p : ℕ) → differences_of left right (p ∷ []) ≡ difference_of left right p
  unfolding differences_of flat_map
  differences-one p = refl

-- Tables that mark the points alike have the same records.
pub differences-ext : (left right left₁ right₁ : ℕ → ℕ) (ps : List ℕ) → ((p : ℕ) → Mem p ps → (left p ≡ left₁ p) × (right p ≡ right₁ p))
    → differences_of left right ps ≡ differences_of left₁ right₁ ps
unfolding differences_of flat_map
differences-ext left right left₁ right₁ [] e = refl
differences-ext left right left₁ right₁ (p ∷ ps) e =
    rw ((e p (inl refl)).0, (e p (inl refl)).1, differences-ext left right left₁ right₁ ps (λ q m. e q (inr m)))
