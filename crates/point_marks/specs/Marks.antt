-- The mark of a point of a stored table as a number: off, on or free (document 02, No. 1). Read next: crate `compare`.
use Rattle.std.specs.Prelude.{◌≡◌, Bool, cond, List, ℕ, ◌<◌, get_or}
use Rattle.gf2.specs.Finite.{holds}
use Rattle.table.specs.Flags.{max_points}
use Rattle.stored.specs.Marks.{stored_on, stored_free}

-- The three marks.
abbrev pub off_mark : ℕ
off_mark = 0

abbrev pub on_mark : ℕ
on_mark = 1

abbrev pub free_mark : ℕ
free_mark = 2

-- The mark of a record: on, or else free.
abbrev pub record_mark : Bool → ℕ
record_mark is_on = cond is_on on_mark free_mark

-- The mark of a point: on if it is one of the on points, free if it is one of the free points, and off otherwise.
unfoldable pub mark_in : List ℕ → List ℕ → ℕ → ℕ
mark_in on free p = cond (holds on p) on_mark (cond (holds free p) free_mark off_mark)

-- The mark of a point of a stored table. That it is on, free or off exactly as the table's lists have it is `marked-on`, `marked-free` and `marked-off`.
abbrev pub stored_mark : List ℕ → ℕ → ℕ
stored_mark bytes = mark_in (stored_on bytes) (stored_free bytes)

-- The mark that an array has for a point.
abbrev pub mark_at : List ℕ → ℕ → ℕ
mark_at array p = get_or array p off_mark

-- An array that has the mark of every point.
abbrev pub MarksOf : List ℕ → List ℕ → Type 0
MarksOf bytes array = (p : ℕ) → p < max_points → mark_at array p ≡ stored_mark bytes p
