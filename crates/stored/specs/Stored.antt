-- When the bytes of a stored table are refused, with which number and which place (document 01, "Refusal numbers"; document 02, No. 3).
-- Read next: Reading.
use Rattle.std.specs.Prelude.{◌≡◌, false, List, [], ◌∷◌, ◌++◌, ℕ}
use Rattle.table.specs.Refusal.{Test, test, first_fault, first_place, variables_fault, point_fault, order_fault, wrong_kind_fault, bytes_missing_fault, wrong_count_fault, bytes_after_fault}
use Rattle.table.specs.Table.{bad_count, outside, unordered}
use Rattle.records.specs.Walks.{is_fault, layout_tests}
use Rattle.stored.specs.Layout.{walked}
use Rattle.stored.specs.Marks.{stored_variables, stored_points}

-- The bytes are laid out as a table.
abbrev pub LaidOut : List ℕ → Type 0
LaidOut bytes = is_fault (walked bytes) ≡ false

-- What can be wrong with the layout of a table (document 02, No. 3).
abbrev pub table_faults : List ℕ
table_faults = wrong_kind_fault ∷ bytes_missing_fault ∷ wrong_count_fault ∷ bytes_after_fault ∷ []

-- The tests of bytes that are laid out: n, then all points, then the order of all of them as one list, so that the same point as on and free is a
-- fault of order (document 01, "Refusal numbers").
abbrev pub point_tests : List ℕ → List Test
point_tests bytes =
    test variables_fault (bad_count (stored_variables bytes)) ∷
    test point_fault (outside (stored_variables bytes) (stored_points bytes)) ∷
    test order_fault (unordered (stored_points bytes)) ∷
    []

-- The tests of a stored table in their order: the layout over the whole length, then those.
abbrev pub stored_tests : List ℕ → List Test
stored_tests bytes = layout_tests table_faults (walked bytes) ++ point_tests bytes

-- The refusal of a stored table, or 0, and the place that goes with it.
unfoldable pub stored_fault : List ℕ → ℕ
stored_fault bytes = first_fault (stored_tests bytes)

unfoldable pub stored_place : List ℕ → ℕ
stored_place bytes = first_place (stored_tests bytes)
