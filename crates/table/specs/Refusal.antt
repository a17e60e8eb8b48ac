-- Refusal numbers and the order of tests (document 01, "Refusal numbers"; document 02 adds the numbers from 10 on). Read next: Decision.
use Rattle.std.specs.Prelude.{◌≡◌, Bool, true, false, cond, ◌&&◌, ◌≢◌, ◌↔◌, List, [], ◌∷◌, ◌++◌, ℕ, leb}
use Rattle.gf2.specs.Finite.{Mem}

-- ---- the numbers, each with what is at fault; 0 is none of them

-- n is 0 or above the largest number of variables.
abbrev pub variables_fault : ℕ
variables_fault = 1

-- A point of either list is 2 ^ n or more.
abbrev pub point_fault : ℕ
point_fault = 2

-- A point isn't greater than the one before it in its list.
abbrev pub order_fault : ℕ
order_fault = 3

-- A point stands in both lists.
abbrev pub shared_fault : ℕ
shared_fault = 4

-- A listing, or a form's restriction, of too many variables.
abbrev pub size_fault : ℕ
size_fault = 5

-- The smallest affine space of an empty on set.
abbrev pub affine_fault : ℕ
affine_fault = 6

-- An answer is longer than its lent room.
abbrev pub room_fault : ℕ
room_fault = 7

-- A listing place above the number of candidates.
abbrev pub place_fault : ℕ
place_fault = 9

-- Two tables have different numbers of variables (document 02, No. 1).
abbrev pub counts_fault : ℕ
counts_fault = 10

-- The first point of a comparison is above 2 ^ n (document 02, No. 1).
abbrev pub first_point_fault : ℕ
first_point_fault = 11

-- The last product is to be taken from a form that has none (document 02, No. 5).
abbrev pub empty_form_fault : ℕ
empty_form_fault = 12

-- A list of records isn't the index of the form (document 02, No. 5).
abbrev pub records_fault : ℕ
records_fault = 17

-- ---- the numbers of what is wrong with bytes (document 02, No. 3), which are given with a byte place; 8 was the one number for all of them and stays unused

-- A kind is unknown, or stands where it can't.
abbrev pub wrong_kind_fault : ℕ
wrong_kind_fault = 20

-- Bytes are missing.
abbrev pub bytes_missing_fault : ℕ
bytes_missing_fault = 21

-- A form's n is 0 or above the largest number of variables.
abbrev pub wrong_variables_fault : ℕ
wrong_variables_fault = 22

-- A factor's constant is neither 0 nor 1, or its mask is 0 or 2 ^ n or more.
abbrev pub wrong_factor_fault : ℕ
wrong_factor_fault = 23

-- A factor doesn't agree with those before it, so that its product isn't canonical.
abbrev pub not_canonical_fault : ℕ
not_canonical_fault = 24

-- The end record gives another number than that of the points or products before it.
abbrev pub wrong_count_fault : ℕ
wrong_count_fault = 25

-- Bytes stand after the end.
abbrev pub bytes_after_fault : ℕ
bytes_after_fault = 26

-- A product begins after the most products of a form.
abbrev pub too_many_products_fault : ℕ
too_many_products_fault = 27

-- A number has a byte place.
unfoldable pub has_place : ℕ → Bool
has_place number = leb wrong_kind_fault number && leb number too_many_products_fault

-- ---- tests in their order

-- One test of an input: the refusal number it gives, the byte place that goes with the number, and whether it applies.
pub record Test : Type 0 where
  pub number : ℕ
  pub place : ℕ
  pub applies : Bool

-- The test that gives this number with this place where this applies.
abbrev pub test_at : ℕ → ℕ → Bool → Test
test_at number place applies = record { number = number; place = place; applies = applies }

-- One of a number that has no place: there 0 goes with it (document 02, No. 3).
abbrev pub test : ℕ → Bool → Test
test number applies = test_at number 0 applies

-- The number of the first test that applies; 0 where none does.
unfoldable pub first_fault : List Test → ℕ
first_fault [] = 0
first_fault (t ∷ ts) = cond t.applies t.number (first_fault ts)

-- The place of that test; 0 where none applies.
unfoldable pub first_place : List Test → ℕ
first_place [] = 0
first_place (t ∷ ts) = cond t.applies t.place (first_place ts)

-- A number and a place as one value.
pub record Fault : Type 0 where
  pub number : ℕ
  pub place : ℕ

abbrev pub fault_at : ℕ → ℕ → Fault
fault_at number place = record { number = number; place = place }

-- What these tests give.
abbrev pub fault_of : List Test → Fault
fault_of ts = fault_at (first_fault ts) (first_place ts)

-- No test of the list gives 0, so that 0 says that none applies.
abbrev pub Numbered : List Test → Type 0
Numbered ts = (t : Test) → Mem t ts → t.number ≢ 0

-- No test of the list applies.
abbrev pub NoneApplies : List Test → Type 0
NoneApplies ts = (t : Test) → Mem t ts → t.applies ≡ false

-- A test of number r applies, and none before it in the list does. That the number is given exactly then is `fault-first`.
pub record First (ts : List Test) (r : ℕ) : Type 0 where
  pub before : List Test
  pub found : Test
  pub after : List Test
  pub order : ts ≡ before ++ (found ∷ after)
  pub passed : NoneApplies before
  pub applies : found.applies ≡ true
  pub number : found.number ≡ r

-- A number is the refusal of these tests: r is given exactly when a test of number r applies and none before it does, and 0 exactly when
-- none applies.
pub record Exact (ts : List Test) (number : ℕ) : Type 0 where
  pub refused : (r : ℕ) → r ≢ 0 → (number ≡ r) ↔ First ts r
  pub accepted : (number ≡ 0) ↔ NoneApplies ts
