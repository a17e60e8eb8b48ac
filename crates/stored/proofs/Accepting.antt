-- A stored table that is not refused is a valid one (`stored-valid`), and so a table that is not refused: its points as one rising list give
-- rising lists of on and of free points with none in both (`stored-accepted`). Read next: Rooms.
use mathlib.Core.Path.{◌≡◌, refl, sym, ap, ◌∙◌}
use mathlib.Core.Bool.{Bool, true, false}
use mathlib.Core.Logic.{◌≢◌, inl, inr}
use mathlib.Core.List.{List, [], ◌∷◌, map}
use Prim.Native.Nat.{ℕ, ◌≤◌, ◌<◌, ◌^◌}
use native.Mathlib.Decide.{ℕ_discrete}
use native.Mathlib.Omega.{arith}
use Rattle.gf2.specs.Finite.{Mem, holds}
use Rattle.gf2.proofs.Finite.{map-mem, mem-map}
use Rattle.table.specs.Refusal.{Fault}
use Rattle.table.specs.Refusal.{Test, test, variables_fault, point_fault, order_fault, first_fault, first_place, fault_at, fault_of, Numbered, NoneApplies}
use Rattle.table.specs.Table.{bad_count, outside, unordered, Accepted}
use Rattle.table.proofs.FirstFault.{no-fault, numbered, fault-append, fault-before, place_none, place-append, place-before}
use Rattle.table.proofs.Table.{good-count, inside, rising}
use Rattle.records.specs.Walks.{fault_number, fault_place, fault_found, is_fault, layout_tests}
use Rattle.records.proofs.Numbers.{some_number, layout-found}
use Rattle.stored.specs.Layout.{walked, longest_table}
use Rattle.stored.specs.Marks.{Mark, marks, marked_points, stored_variables, stored_points, stored_on, stored_free}
use Rattle.stored.specs.Encoding.{ValidTable}
use Rattle.stored.specs.Stored.{LaidOut, table_faults, point_tests, stored_tests, stored_fault, stored_place}
use Rattle.stored.proofs.Ruling.{table-number}
use Rattle.stored.proofs.Bounds.{table-inside}
use Rattle.stored.proofs.Points.{points-mem, points-rising, points-apart}

pub stored-numbered : (bytes : List ℕ) → Numbered (stored_tests bytes)
unfolding holds
stored-numbered bytes = numbered (stored_tests bytes) refl

-- The tests of the layout give what the walk found.
layout-told : (bytes : List ℕ)
    → (first_fault (layout_tests table_faults (walked bytes)) ≡ fault_number (walked bytes)) × (first_place (layout_tests table_faults (walked bytes)) ≡ fault_place (walked bytes))
unfolding holds
layout-told bytes = layout-found (walked bytes) table_faults refl (table-number bytes)

layout-numbered : (bytes : List ℕ) → Numbered (layout_tests table_faults (walked bytes))
unfolding holds
layout-numbered bytes = numbered (layout_tests table_faults (walked bytes)) refl

-- A fault of the layout is the refusal, with its place.
pub stored-layout : (bytes : List ℕ) → fault_number (walked bytes) ≢ 0 → fault_of (stored_tests bytes) ≡ fault_found (walked bytes)
stored-layout bytes nz =
    let told = layout-told bytes in
    let found : first_fault (layout_tests table_faults (walked bytes)) ≢ 0 = λ z. nz (sym told.0 ∙ z) in
    let number = fault-before (layout_tests table_faults (walked bytes)) (point_tests bytes) found ∙ told.0 in
    let place = place-before (layout_tests table_faults (walked bytes)) (point_tests bytes) found ∙ told.1 in
    cc (number, place)

-- Without one the bytes are laid out, and the tests of n and the points decide.
pub stored-later : (bytes : List ℕ) → fault_number (walked bytes) ≡ 0 → fault_of (stored_tests bytes) ≡ fault_of (point_tests bytes)
stored-later bytes e =
    let passed = (layout-told bytes).0 ∙ e in
    let number = fault-append (layout_tests table_faults (walked bytes)) (point_tests bytes) (layout-numbered bytes) passed in
    let place = place-append (layout_tests table_faults (walked bytes)) (point_tests bytes) (layout-numbered bytes) passed in
    cc (number, place)

-- The place of those is 0.
pub stored-points : (bytes : List ℕ) → fault_number (walked bytes) ≡ 0 → fault_of (stored_tests bytes) ≡ fault_at (first_fault (point_tests bytes)) 0
unfolding first_place
stored-points bytes e =
    stored-later bytes e ∙ ap (λ (p : ℕ). fault_at (first_fault (point_tests bytes)) p) (zeros (bad_count (stored_variables bytes)) (outside (stored_variables bytes) (stored_points bytes)) (unordered (stored_points bytes)))
  where
    zeros : (a b c : Bool) → first_place (test variables_fault a ∷ test point_fault b ∷ test order_fault c ∷ []) ≡ 0
    zeros true b c = refl
    zeros false true c = refl
    zeros false false true = refl
    zeros false false false = refl

pub none-stored : (bytes : List ℕ) → stored_fault bytes ≡ 0 → NoneApplies (stored_tests bytes)
unfolding stored_fault
none-stored bytes e = (no-fault (stored_tests bytes) (stored-numbered bytes)).0 e

pub stored-laid : (bytes : List ℕ) → stored_fault bytes ≡ 0 → LaidOut bytes
unfolding stored_fault
stored-laid bytes e = go (is_fault (walked bytes)) refl
  where
    go : (t : Bool) → is_fault (walked bytes) ≡ t → t ≡ false
    go false q = refl
    go true q =
        let n = some_number (walked bytes) q in
        absurd (n (sym (ap (λ (f : Fault). f.number) (stored-layout bytes n)) ∙ e))

-- An accepted table has no place.
pub stored-zero : (bytes : List ℕ) → stored_fault bytes ≡ 0 → stored_place bytes ≡ 0
unfolding stored_fault stored_place
stored-zero bytes e = place_none (stored_tests bytes) (stored-numbered bytes) e

-- No place is beyond the end of the longest table.
pub stored-inside : (bytes : List ℕ) → stored_place bytes ≤ longest_table
unfolding stored_place
stored-inside bytes = go (ℕ_discrete (fault_number (walked bytes)) 0)
  where
    go : Dec (fault_number (walked bytes) ≡ 0) → first_place (stored_tests bytes) ≤ longest_table
    go (yes e) = omega (arith, ap (λ (f : Fault). f.place) (stored-points bytes e))
    go (no n) = omega (arith, ap (λ (f : Fault). f.place) (stored-layout bytes n), (table-inside bytes).placed)

-- ---- what is read of it is a valid table

pub stored-valid : (bytes : List ℕ) → stored_fault bytes ≡ 0 → ValidTable (stored_variables bytes) (marks bytes)
stored-valid bytes e =
    let none = none-stored bytes e in
    let n = stored_variables bytes in
    let later : (t : Test) → Mem t (point_tests bytes) → t.applies ≡ false = λ t m. none t (inr (inr (inr (inr m)))) in
    let count = (good-count n).0 (later _ (inl refl)) in
    let below = inside n (stored_points bytes) (later _ (inr (inl refl))) in
    record {
      some = count.0;
      few = count.1;
      below = λ m k. below m.point (mem-map (λ x. x.point) (marks bytes) m k);
      rises = rising (stored_points bytes) (later _ (inr (inr (inl refl))));
    }

-- ---- the lists of a valid table are those of an accepted table

module _ {n : ℕ} {ms : List Mark} (v : ValidTable n ms) where
  pub points-below : (p : ℕ) → Mem p (map (λ m. m.point) ms) → p < 2 ^ n
  points-below p k = let h = map-mem (λ m. m.point) ms p k in rw h.2 (v.below h.0 h.1)

  pub valid-accepted : Accepted n (marked_points true ms) (marked_points false ms)
  valid-accepted =
      record {
        some = v.some;
        few = v.few;
        on_below = λ p k. points-below p (points-mem true ms p k);
        free-below = λ p k. points-below p (points-mem false ms p k);
        on-rising = points-rising true ms v.rises;
        free-rising = points-rising false ms v.rises;
        apart = points-apart ms v.rises;
      }

pub stored-accepted : (bytes : List ℕ) → stored_fault bytes ≡ 0 → Accepted (stored_variables bytes) (stored_on bytes) (stored_free bytes)
stored-accepted bytes e = valid-accepted (stored-valid bytes e)
