-- A list changed in place, as a loop over it has it: one element in each turn, from the first on; and how far the two loops go. Read next: Lists.
use mathlib.Core.Path.{◌≡◌, refl, ap}
use mathlib.Core.Bool.{Bool, true, false, cond}
use mathlib.Core.List.{List, [], ◌∷◌}
use Prim.Native.Nat.{ℕ, zero, suc, ◌+◌, ◌<◌, ◌≤◌, ◌^◌}
use native.Mathlib.Nat.{not-suc-le-zero, le_of_suc-le-suc, le_refl, lt_of_lt_of_le}
use native.Mathlib.Numerals.{add-one}
use native.Mathlib.Omega.{arith}
use lib.Dec.{eqb, ltb}
use lib.Pow.{pow_mono}
use lib.ListN.{length, get_or, set, take}
use borrow.Author.Tests.{ltb-true, ltb-false, eqb-true}
use Rattle.gf2.specs.Limits.{max_variables}
use Rattle.gf2.specs.Finite.{all}
use Rattle.table.specs.Decision.{front}
use Rattle.form.specs.Decoding.{form_variables}
use Rattle.form.specs.Refusal.{form_fault}
use Rattle.form.proofs.Accepting.{accepted-form, form-begins}
use Rattle.index.specs.declared.PointRecord.{PointRecord}
use Rattle.index.specs.declared.Indexed.{Indexed}
use Rattle.index.specs.Records.{no_record, agrees_upto, HasPoint, still_of, lesser, bound_of}
use Rattle.index.specs.Changes.{map_first, reach_of}

-- ---- one turn

module _ {A : Type 0} where
  -- Before the first turn nothing is changed.
  pub first-none : (f : ℕ → A → A) (l : List A) → map_first f 0 l ≡ l
  unfolding map_first
  first-none f l = refl

  -- The list stays as long as it was, and no turn before i changed its element i.
  pub first-length : (f : ℕ → A → A) (i : ℕ) (l : List A) → length (map_first f i l) ≡ length l
  unfolding map_first
  first-length f zero l = refl
  first-length f (suc i) [] = refl
  first-length f (suc i) (x ∷ l) = ap suc (first-length (λ w. f (suc w)) i l)

  pub first-at : (f : ℕ → A → A) (i : ℕ) (l : List A) (d : A) → get_or (map_first f i l) i d ≡ get_or l i d
  unfolding map_first
  first-at f zero l d = refl
  first-at f (suc i) [] d = refl
  first-at f (suc i) (x ∷ l) d = first-at (λ w. f (suc w)) i l d

  first_more : (f : ℕ → A → A) (i : ℕ) (l : List A) (d : A) → i < length l → set (map_first f i l) i (f i (get_or l i d)) ≡ map_first f (suc i) l
  unfolding map_first
  first_more f i [] d h = absurd (not-suc-le-zero h)
  first_more f zero (x ∷ l) d h = refl
  first_more f (suc i) (x ∷ l) d h = ap (λ (t : List A). f 0 x ∷ t) (first_more (λ w. f (suc w)) i l d (le_of_suc-le-suc h))

  -- The element changed and put back makes what the list is after one turn more.
  pub first_next : (f : ℕ → A → A) (i : ℕ) (l : List A) (d : A) → i < length l → set (map_first f i l) i (f i (get_or l i d)) ≡ map_first f (i + 1) l
  first_next f i l d h = rw (add-one) (first_more f i l d h)

-- ---- a list that is changed

module _ {A : Type 0} where
  -- Each of the first elements is changed by its place and what it was.
  pub first-changed : (f : ℕ → A → A) (k : ℕ) (l : List A) (w : ℕ) (d : A) → w < k → k ≤ length l → get_or (map_first f k l) w d ≡ f w (get_or l w d)
  unfolding map_first
  first-changed f zero l w d h m = absurd (not-suc-le-zero h)
  first-changed f (suc k) [] w d h m = absurd (not-suc-le-zero m)
  first-changed f (suc k) (x ∷ l) zero d h m = refl
  first-changed f (suc k) (x ∷ l) (suc w) d h m = first-changed (λ v. f (suc v)) k l w d (le_of_suc-le-suc h) (le_of_suc-le-suc m)

  -- It has the changed elements at its front, and the rest is as it was.
  pub first-front : (f : ℕ → A → A) (k : ℕ) (l : List A) → map_first f k l ≡ front (take k (map_first f k l)) l
  unfolding map_first
  first-front f zero l = refl
  first-front f (suc k) [] = refl
  first-front f (suc k) (x ∷ l) = ap (λ (t : List A). f 0 x ∷ t) (first-front (λ w. f (suc w)) k l)

-- ---- how far the loops go

lesser-left : (a b : ℕ) → lesser a b ≤ a
lesser-left a b = go (ltb a b) refl
  where
    go : (t : Bool) → ltb a b ≡ t → cond t a b ≤ a
    go true e = le_refl a
    go false e = ltb-false a b e

lesser-right : (a b : ℕ) → lesser a b ≤ b
lesser-right a b = go (ltb a b) refl
  where
    go : (t : Bool) → ltb a b ≡ t → cond t a b ≤ b
    go true e = omega (arith, ltb-true a b e)
    go false e = le_refl b

-- Where a test fails, there is nothing to go over.
tested : (t : Bool) (k i : ℕ) → i < cond t k 0 → (t ≡ true) × (i < k)
tested true k i h = (refl, h)
tested false k i h = absurd (not-suc-le-zero h)

pub bound-le : (form : List ℕ) (records : ℕ) → bound_of form records ≤ records
unfolding bound_of
bound-le form records = go (eqb (form_fault form) 0)
  where
    go : (t : Bool) → cond t (lesser records (2 ^ form_variables form)) 0 ≤ records
    go true = lesser-left records (2 ^ form_variables form)
    go false = omega arith

-- Every record that is looked at belongs to a point of the form, and every one that is changed to an accepted answer.
pub bound-point : (form : List ℕ) (records i : ℕ) → i < bound_of form records → HasPoint form i
unfolding bound_of
bound-point form records i h =
    let r = tested (eqb (form_fault form) 0) (lesser records (2 ^ form_variables form)) i h in
    ((accepted-form form).0 (eqb-true (form_fault form) 0 r.0), omega (arith, r.1, lesser-right records (2 ^ form_variables form)))

-- So it is small.
pub point-small : (form : List ℕ) (w : ℕ) → HasPoint form w → w < 2 ^ max_variables
point-small form w h = lt_of_lt_of_le h.1 (pow_mono (form-begins form h.0).1)

pub reach-le : (answer : Indexed) (records : ℕ) → reach_of answer records ≤ records
unfolding reach_of
reach-le answer records = go (eqb answer.refusal 0)
  where
    go : (t : Bool) → cond t (lesser records (2 ^ answer.variables)) 0 ≤ records
    go true = lesser-left records (2 ^ answer.variables)
    go false = omega arith

pub reach-point : (answer : Indexed) (records i : ℕ) → i < reach_of answer records → (answer.refusal ≡ 0) × (i < 2 ^ answer.variables)
unfolding reach_of
reach-point answer records i h =
    let r = tested (eqb answer.refusal 0) (lesser records (2 ^ answer.variables)) i h in
    (eqb-true answer.refusal 0 r.0, omega (arith, r.1, lesser-right records (2 ^ answer.variables)))

-- ---- whether the records so far are right

pub agrees-none : (form : List ℕ) (list : List PointRecord) → true ≡ agrees_upto form list 0
unfolding agrees_upto all
agrees-none form list = refl

pub agrees-next : (form : List ℕ) (list : List PointRecord) (i : ℕ) → still_of form i (agrees_upto form list i) (get_or list i no_record) ≡ agrees_upto form list (i + 1)
unfolding agrees_upto all
agrees-next form list i = rw (add-one i)
