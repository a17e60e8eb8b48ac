-- Two tables side by side (document 02, No. 1): the records handed over by any list of calls that goes on at the point returned are those of the points
-- at which the tables differ, and the total is their number. A single claim about two accepted tables of one number of variables and the whole list of
-- calls.
--
-- It is a claim about the running call. The contract of `glospruma_compare` (crates/glospruma/src/lib.rt) says that the numbers it returns are
-- `compare_answer` of its arguments and that its room holds `compare_after` of them, which are all that is spoken of here. A table is accepted exactly
-- where `glospruma_read_table` reads it into rooms that are long enough, and `stored_on` and `stored_free` are the lists that it hands over
-- (`read-exactly`). Read next: Faults.
use Rattle.std.specs.Prelude.{◌≡◌, Bool, true, cond, ◌&&◌, ◌⊎◌, ◌≢◌, ◌↔◌, ℕ, suc, ◌*◌, ◌/◌, ◌%◌, ◌≤◌, ◌<◌, length, take, drop, eqb, leb}
use mathlib.Core.List.{List, [], ◌∷◌, flat_map}
use Rattle.gf2.specs.Finite.{Mem, Ordered, Rising}
use Rattle.stored.specs.Marks.{stored_on, stored_free}
use Rattle.cubes.specs.Lists.{keep}
use Rattle.point_marks.specs.Marks.{stored_mark}
use Rattle.compare.specs.declared.Comparison.{Comparison}
use Rattle.compare.specs.Differences.{difference_length, difference_of, differences_of, differing_from}
use Rattle.compare.specs.Answer.{table_size, compare_differing, compare_answer, compare_after}
use Rattle.claims.specs.Demand3.{sum_of}

-- ---- one call

-- A call takes a left and a right table, a first point and room.
pub record Comparing : Type 0 where
  pub left : List ℕ
  pub right : List ℕ
  pub first : ℕ
  pub room : List ℕ

-- The numbers that it returns, the room as it returns, and what it hands over: the records at the front of the room, as many as it says.
abbrev pub returned : Comparing → Comparison
returned c = compare_answer c.left c.right c.first c.room

abbrev pub room_returned : Comparing → List ℕ
room_returned c = compare_after c.left c.right c.first c.room

unfoldable pub handed_records : Comparing → List ℕ
handed_records c = take (difference_length * (returned c).records) (room_returned c)

-- The same call with the tables exchanged, and records with their marks exchanged.
abbrev pub exchanged : Comparing → Comparing
exchanged c = record { left = c.right; right = c.left; first = c.first; room = c.room }

unfoldable pub exchanged_marks : List ℕ → List ℕ
exchanged_marks [] = []
exchanged_marks (low ∷ []) = low ∷ []
exchanged_marks (low ∷ high ∷ []) = low ∷ high ∷ []
exchanged_marks (low ∷ high ∷ left ∷ []) = low ∷ high ∷ left ∷ []
exchanged_marks (low ∷ high ∷ left ∷ right ∷ rest) = low ∷ high ∷ right ∷ left ∷ exchanged_marks rest

-- The mark of a point says which list of the table has it: 1 the on points, 2 the free points, 0 neither.
pub record MarkedAs (bytes : List ℕ) (p : ℕ) : Type 0 where
  pub on : (stored_mark bytes p ≡ 1) ↔ Mem p (stored_on bytes)
  pub free : (stored_mark bytes p ≡ 2) ↔ Mem p (stored_free bytes)
  pub off : (stored_mark bytes p ≡ 0) ↔ ((Mem p (stored_on bytes) → ⊥) × (Mem p (stored_free bytes) → ⊥))

-- ---- lists of calls

-- The point to go on from: the one that an accepted call returned. A refused one leaves it as it was.
abbrev pub point_after : ℕ → Comparing → ℕ
point_after point c = cond (eqb (returned c).refusal 0) (returned c).next point

-- Every accepted call is for the two tables, the first one from this point on, and each later one from the point that the accepted one before it
-- returned. A refused one is any call at all. Nothing is asked of rooms.
abbrev pub GoesOn : List ℕ → List ℕ → ℕ → List Comparing → Type 0
GoesOn left right point [] = Unit {0}
GoesOn left right point (c ∷ cs) =
    ((returned c).refusal ≡ 0 → (c.left ≡ left) × (c.right ≡ right) × (c.first ≡ point)) × GoesOn left right (point_after point c) cs

-- The point that the last accepted call returned.
unfoldable pub point_reached : ℕ → List Comparing → ℕ
point_reached point [] = point
point_reached point (c ∷ cs) = point_reached (point_after point c) cs

-- An accepted call with room for a record.
abbrev pub has_room : Comparing → Bool
has_room c = eqb (returned c).refusal 0 && leb difference_length (length c.room)

-- ---- the claim

-- The points at which the two tables differ, from a first point on and below a bound. All of them are `compare_differing`.
abbrev pub between : List ℕ → List ℕ → ℕ → ℕ → List ℕ
between left right first bound = differing_from (stored_mark left) (stored_mark right) first bound

-- The record of a point that differs.
abbrev pub record_of_point : List ℕ → List ℕ → ℕ → List ℕ
record_of_point left right p = difference_of (stored_mark left) (stored_mark right) p

-- An accepted call: its records fit, and it stops at 2 ^ n or before a differing point that doesn't fit.
pub record StopsBefore (left right : List ℕ) (c : Comparing) : Type 0 where
  pub fits : difference_length * (returned c).records ≤ length c.room
  pub at : ((returned c).next ≡ table_size left)
      ⊎ (((returned c).next < table_size left) × (stored_mark left (returned c).next ≢ stored_mark right (returned c).next) × (length c.room < difference_length * suc (returned c).records))
  pub rest : drop (difference_length * (returned c).records) (room_returned c) ≡ drop (difference_length * (returned c).records) c.room

-- A call for one table beside itself: it is done at once, without a record, and the total is 0.
pub record DiffersNowhere (bytes : List ℕ) (c : Comparing) : Type 0 where
  pub numbers : returned c ≡ record { refusal = 0; place = 0; records = 0; next = table_size bytes; total = 0 }
  pub room : room_returned c ≡ c.room

-- Exchanging the tables exchanges the marks in every record and nothing else.
pub record ExchangesMarks (c : Comparing) : Type 0 where
  pub numbers : returned (exchanged c) ≡ returned c
  pub records : handed_records (exchanged c) ≡ exchanged_marks (handed_records c)
  pub rest : drop (difference_length * (returned c).records) (room_returned (exchanged c)) ≡ drop (difference_length * (returned c).records) (room_returned c)

-- Of two accepted tables of one number of variables, a first point of at most 2 ^ n, and a list of calls that goes on from there.
-- `point_reached first calls` is the point returned so far.
pub record Compared (left right : List ℕ) (first : ℕ) (calls : List Comparing) : Type 0 where
  -- A call for the two tables is accepted exactly where its first point is at most 2 ^ n; a refused call hands over nothing.
  pub accepts : (c : Comparing) → c.left ≡ left → c.right ≡ right → ((returned c).refusal ≡ 0) ↔ (c.first ≤ table_size left)
  pub refused : (c : Comparing) → (returned c).refusal ≢ 0 → handed_records c ≡ []
  -- What was handed over, joined: a record for each differing point from the first point on up to the point returned, rising, each once. A record is the
  -- point, low byte first, then the left and the right mark.
  pub handed : flat_map handed_records calls ≡ differences_of (stored_mark left) (stored_mark right) (between left right first (point_reached first calls))
  pub number : sum_of (λ c. (returned c).records) calls ≡ length (between left right first (point_reached first calls))
  pub exact : (p : ℕ) → Mem p (between left right first (point_reached first calls))
      ↔ ((first ≤ p) × (p < point_reached first calls) × (stored_mark left p ≢ stored_mark right p))
  pub rising : Rising (between left right first (point_reached first calls))
  pub once : Ordered (λ p q. record_of_point left right p ≢ record_of_point left right q) (between left right first (point_reached first calls))
  pub layout : (p : ℕ) → record_of_point left right p ≡ p % 256 ∷ p / 256 ∷ stored_mark left p ∷ stored_mark right p ∷ []
  -- Both marks are as the two tables have them.
  pub left-marks : (p : ℕ) → MarkedAs left p
  pub right-marks : (p : ℕ) → MarkedAs right p
  -- It goes up, to 2 ^ n at the most; there all from the first point on are handed over.
  pub low : first ≤ point_reached first calls
  pub high : point_reached first calls ≤ table_size left
  pub whole : point_reached first calls ≡ table_size left → (p : ℕ) → first ≤ p → p < table_size left → stored_mark left p ≢ stored_mark right p
      → Mem p (between left right first (point_reached first calls))
  pub stops : (c : Comparing) → Mem c calls → (returned c).refusal ≡ 0 → StopsBefore left right c
  -- Room for one record moves forward; as many such calls as differing points from the first point on, and at least one, reach 2 ^ n.
  pub forward : (c : Comparing) → Mem c calls → has_room c ≡ true → c.first < table_size left → c.first < (returned c).next
  pub enough : 0 < length (keep has_room calls) → length (between left right first (table_size left)) ≤ length (keep has_room calls) → point_reached first calls ≡ table_size left
  -- The total is the number of differing points of all 2 ^ n, the same in every call, whatever its first point and its room.
  pub total : (c : Comparing) → c.left ≡ left → c.right ≡ right → (returned c).refusal ≡ 0 → (returned c).total ≡ length (compare_differing left right)
  pub all-exact : (p : ℕ) → Mem p (compare_differing left right) ↔ ((p < table_size left) × (stored_mark left p ≢ stored_mark right p))
  pub all-rising : Rising (compare_differing left right)
  pub itself : (c : Comparing) → c.left ≡ left → c.right ≡ left → c.first ≤ table_size left → DiffersNowhere left c
  pub exchange : (c : Comparing) → c.left ≡ left → c.right ≡ right → (returned c).refusal ≡ 0 → ExchangesMarks c
