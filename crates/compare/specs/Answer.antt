-- The answer of comparing two stored tables from a first point on, and what the lent room holds afterwards (document 02, No. 1).
-- Read next: crate `claims`, which says what any list of such calls hands over.
use Rattle.std.specs.Prelude.{◌≡◌, not, List, [], ◌∷◌, ◌++◌, ℕ, ◌^◌, eqb, ltb, length}
use Rattle.table.specs.Refusal.{Test, test, first_fault, first_place, counts_fault, first_point_fault}
use Rattle.table.specs.declared.Refusal.{Refusal}
use Rattle.table.specs.Answers.{number_of, place_of}
use Rattle.table.specs.Decision.{Decision, answer_of, after_of}
use Rattle.stored.specs.Marks.{stored_variables}
use Rattle.stored.specs.Stored.{stored_tests, stored_fault}
use Rattle.point_marks.specs.Marks.{stored_mark}
use Rattle.compare.specs.declared.Comparison.{Comparison}
use Rattle.compare.specs.Differences.{differing, handed_points, handed_bytes, next_point}

-- The number of points of a stored table.
abbrev pub table_size : List ℕ → ℕ
table_size bytes = 2 ^ stored_variables bytes

-- Two accepted tables of one number of variables.
pub record Comparable (left right : List ℕ) : Type 0 where
  pub left-sound : stored_fault left ≡ 0
  pub right-sound : stored_fault right ≡ 0
  pub counts : stored_variables left ≡ stored_variables right

-- The tests of both tables together: that the variable counts differ, then that the first point is above 2 ^ n.
abbrev pub pair_tests : List ℕ → List ℕ → ℕ → List Test
pair_tests left right first =
    test counts_fault (not (eqb (stored_variables left) (stored_variables right))) ∷
    test first_point_fault (ltb (table_size left) first) ∷
    []

-- The tests in their order: all of the left table's, so that its number is reported where both are refused, then all of the right one's, then those of
-- both together. A room that is short stops the listing and is no fault.
abbrev pub compare_tests : List ℕ → List ℕ → ℕ → List Test
compare_tests left right first = stored_tests left ++ (stored_tests right ++ pair_tests left right first)

-- The refusal of comparing, or 0. That it is 0 exactly for two comparable tables and a first point of at most 2 ^ n is `compare-exactly`.
unfoldable pub compare_fault : List ℕ → List ℕ → ℕ → ℕ
compare_fault left right first = first_fault (compare_tests left right first)

-- The place that goes with it, in the table whose number it is (document 02, No. 3). Which table that is, is not said.
unfoldable pub compare_place : List ℕ → List ℕ → ℕ → ℕ
compare_place left right first = first_place (compare_tests left right first)

-- The differing points, and the points that are handed over into a room with the bytes that are written there.
abbrev pub compare_differing : List ℕ → List ℕ → List ℕ
compare_differing left right = differing (stored_mark left) (stored_mark right) (table_size left)

abbrev pub compare_points : List ℕ → List ℕ → ℕ → List ℕ → List ℕ
compare_points left right first room = handed_points (stored_mark left) (stored_mark right) first (table_size left) (length room)

abbrev pub compare_bytes : List ℕ → List ℕ → ℕ → List ℕ → List ℕ
compare_bytes left right first room = handed_bytes (stored_mark left) (stored_mark right) first (table_size left) (length room)

-- An accepted call returns the number of records, the next point, and the number of differing points of the whole tables.
abbrev pub compare_accepted : List ℕ → List ℕ → ℕ → List ℕ → Comparison
compare_accepted left right first room =
    record {
      refusal = 0;
      place = 0;
      records = length (compare_points left right first room);
      next = next_point (stored_mark left) (stored_mark right) first (table_size left) (length room);
      total = length (compare_differing left right);
    }

-- A refusal returns its number and its place with all other numbers 0.
abbrev pub compare_refused : ℕ → ℕ → Comparison
compare_refused place fault = record { refusal = fault; place = place; records = 0; next = 0; total = 0 }

-- What the call gives for a refusal.
abbrev pub refused_comparison : Refusal → Comparison
refused_comparison refusal = compare_refused (place_of refusal) (number_of refusal)

-- The call, the numbers that it returns, and the room after it.
abbrev pub compare_call : List ℕ → List ℕ → ℕ → List ℕ → Decision Comparison
compare_call left right first room =
    record {
      tests = compare_tests left right first;
      accepted = compare_accepted left right first room;
      refused = compare_refused (compare_place left right first);
    }

unfoldable pub compare_answer : List ℕ → List ℕ → ℕ → List ℕ → Comparison
compare_answer left right first room = answer_of (compare_call left right first room)

unfoldable pub compare_after : List ℕ → List ℕ → ℕ → List ℕ → List ℕ
compare_after left right first room = after_of (compare_call left right first room) (compare_bytes left right first room) room
