-- Two tables of two inputs side by side, computed from the definitions. Point 0 is on in both; 1 is free in the left one and on in the right one, 2 is
-- off and free, 3 is on and off. Read next: crate `claims`.
use mathlib.Core.Path.{◌≡◌, refl}
use mathlib.Core.List.{List, [], ◌∷◌, flat_map}
use Prim.Native.Nat.{ℕ}
use Rattle.gf2.specs.Finite.{holds, select}
use Rattle.table.specs.Refusal.{first_fault, first_place}
use Rattle.table.specs.Table.{bad_count, outside, not_above, unordered}
use Rattle.records.specs.Kinds.{head_of}
use Rattle.records.specs.Walks.{walk_by}
use Rattle.stored.specs.Layout.{walked}
use Rattle.stored.specs.Marks.{record_marks, marked_points}
use Rattle.point_marks.specs.Marks.{mark_in}
use Rattle.compare.specs.Differences.{differing, differing_from, differences_of, handed_points, next_point}
use Rattle.compare.specs.Answer.{compare_place, compare_answer, compare_after}

left : List ℕ
left = 78 ∷ 2 ∷ 79 ∷ 0 ∷ 0 ∷ 68 ∷ 1 ∷ 0 ∷ 79 ∷ 3 ∷ 0 ∷ 69 ∷ 3 ∷ 0 ∷ []

right : List ℕ
right = 78 ∷ 2 ∷ 79 ∷ 0 ∷ 0 ∷ 79 ∷ 1 ∷ 0 ∷ 68 ∷ 2 ∷ 0 ∷ 69 ∷ 3 ∷ 0 ∷ []

falling : List ℕ
falling = 78 ∷ 2 ∷ 79 ∷ 1 ∷ 0 ∷ 79 ∷ 0 ∷ 0 ∷ 69 ∷ 2 ∷ 0 ∷ []

room : List ℕ
room = 9 ∷ 9 ∷ 9 ∷ 9 ∷ 9 ∷ 9 ∷ 9 ∷ 9 ∷ 9 ∷ []

-- With room for two records and a byte the listing stops before point 3; the call that goes on from there writes the last record and is done, with the
-- same total. A left table whose points fall is refused before a right one that is no table, and a right one with a wrong kind at its byte 2 under 20.
computed :
    (compare_answer left right 0 room ≡ record { refusal = 0; place = 0; records = 2; next = 3; total = 3 })
    × (compare_after left right 0 room ≡ 1 ∷ 0 ∷ 2 ∷ 1 ∷ 2 ∷ 0 ∷ 0 ∷ 2 ∷ 9 ∷ [])
    × (compare_answer left right 3 room ≡ record { refusal = 0; place = 0; records = 1; next = 4; total = 3 })
    × (compare_after left right 3 room ≡ 3 ∷ 0 ∷ 1 ∷ 0 ∷ 9 ∷ 9 ∷ 9 ∷ 9 ∷ 9 ∷ [])
    × (compare_answer falling [] 5 room ≡ record { refusal = 3; place = 0; records = 0; next = 0; total = 0 })
    × (compare_answer left (78 ∷ 2 ∷ 80 ∷ []) 5 room ≡ record { refusal = 20; place = 2; records = 0; next = 0; total = 0 })
unfolding left right falling room compare_answer compare_after compare_place first_fault first_place walked walk_by head_of bad_count outside not_above unordered record_marks marked_points mark_in holds select differing differing_from handed_points next_point differences_of flat_map
computed = (refl, refl, refl, refl, refl, refl)
