-- The tests of the layout give what the walk found: its number and its place, where that number is among those that are tested. Read next: Results.
use mathlib.Core.Path.{◌≡◌, refl, sym, ◌∙◌}
use mathlib.Core.Bool.{Bool, true, false, cond, not}
use mathlib.Core.Logic.{inl, inr, ◌≢◌}
use mathlib.Core.List.{List, [], ◌∷◌}
use Prim.Native.Nat.{ℕ}
use lib.Dec.{eqb}
use borrow.Author.Tests.{eqb-true, eqb-false, eq-eqb, ne_eqb}
use Rattle.gf2.specs.Finite.{Mem, holds}
use Rattle.gf2.proofs.Logic.{clash}
use Rattle.gf2.proofs.Finite.{holds-mem}
use Rattle.table.specs.Refusal.{first_fault, first_place}
use Rattle.records.specs.Walks.{fault_number, fault_place, is_fault, layout_tests}
use Rattle.table.specs.declared.BytesFault.TheVariants.{WrongKind, Missing, WrongVariables, WrongFactor, NotCanonical, WrongCount, After, TooMany}
use Rattle.records.specs.Walks.{Walk}
use Rattle.std.specs.Prelude.{Ok, Err}

-- A walk that met no fault found what was asked for, and has no number and no place.
pub no_number : (found : Walk) → is_fault found ≡ false → fault_number found ≡ 0
no_number found e = go (eqb (fault_number found) 0) refl e
  where
    go : (t : Bool) → eqb (fault_number found) 0 ≡ t → not t ≡ false → fault_number found ≡ 0
    go true q e = eqb-true (fault_number found) 0 q
    go false q e = clash refl e

pub some_number : (found : Walk) → is_fault found ≡ true → fault_number found ≢ 0
some_number found e z = clash e (rw (eq-eqb (fault_number found) 0 z))

pub is-fault : (found : Walk) → fault_number found ≢ 0 → is_fault found ≡ true
is-fault found n = rw (ne_eqb (fault_number found) 0 n)

pub none-fault : (found : Walk) → fault_number found ≡ 0 → is_fault found ≡ false
none-fault found e = rw (eq-eqb (fault_number found) 0 e)

pub no_place : (found : Walk) → is_fault found ≡ false → fault_place found ≡ 0
no_place (Ok count) e = refl
no_place (Err (WrongKind place)) e = clash refl e
no_place (Err (Missing place)) e = clash refl e
no_place (Err (WrongVariables place)) e = clash refl e
no_place (Err (WrongFactor place)) e = clash refl e
no_place (Err (NotCanonical place)) e = clash refl e
no_place (Err (WrongCount place)) e = clash refl e
no_place (Err (After place)) e = clash refl e
no_place (Err (TooMany place)) e = clash refl e

-- The tests give the number and the place of a fault that they know.
module _ (found : Walk) where
  layout-told : (numbers : List ℕ) → Mem (fault_number found) numbers
      → (first_fault (layout_tests numbers found) ≡ fault_number found) × (first_place (layout_tests numbers found) ≡ fault_place found)
  unfolding first_fault first_place
  layout-told [] h = elim h [ ]
  layout-told (number ∷ numbers) m = go (eqb (fault_number found) number) refl m (layout-told numbers)
    where
      go : (t : Bool) → eqb (fault_number found) number ≡ t → Mem (fault_number found) (number ∷ numbers)
          → (Mem (fault_number found) numbers → (first_fault (layout_tests numbers found) ≡ fault_number found) × (first_place (layout_tests numbers found) ≡ fault_place found))
          → (cond t number (first_fault (layout_tests numbers found)) ≡ fault_number found) × (cond t (fault_place found) (first_place (layout_tests numbers found)) ≡ fault_place found)
      go true q m next = (sym (eqb-true (fault_number found) number q), refl)
      go false q (inl e) next = absurd (eqb-false (fault_number found) number q e)
      go false q (inr k) next = next k

  -- And nothing where they know none.
  layout-silent : (numbers : List ℕ) → (Mem (fault_number found) numbers → ⊥)
      → (first_fault (layout_tests numbers found) ≡ 0) × (first_place (layout_tests numbers found) ≡ 0)
  unfolding first_fault first_place
  layout-silent [] n = (refl, refl)
  layout-silent (number ∷ numbers) n = go (eqb (fault_number found) number) refl (layout-silent numbers (λ m. n (inr m)))
    where
      go : (t : Bool) → eqb (fault_number found) number ≡ t → (first_fault (layout_tests numbers found) ≡ 0) × (first_place (layout_tests numbers found) ≡ 0)
          → (cond t number (first_fault (layout_tests numbers found)) ≡ 0) × (cond t (fault_place found) (first_place (layout_tests numbers found)) ≡ 0)
      go true q next = absurd (n (inl (eqb-true (fault_number found) number q)))
      go false q next = next

  -- So they give what the walk found, where it is 0 or one of their numbers, and 0 is none of them.
  pub layout-found : (numbers : List ℕ) → holds numbers 0 ≡ false → (is_fault found ≡ true → Mem (fault_number found) numbers)
      → (first_fault (layout_tests numbers found) ≡ fault_number found) × (first_place (layout_tests numbers found) ≡ fault_place found)
  layout-found numbers z known = go (is_fault found) refl
    where
      go : (t : Bool) → is_fault found ≡ t → (first_fault (layout_tests numbers found) ≡ fault_number found) × (first_place (layout_tests numbers found) ≡ fault_place found)
      go true e = layout-told numbers (known e)
      go false e =
          let none = no_number found e in
          let silent = layout-silent numbers (λ m. clash ((holds-mem numbers 0).1 (rw none at m)) z) in
          (silent.0 ∙ sym none, silent.1 ∙ sym (no_place found e))
