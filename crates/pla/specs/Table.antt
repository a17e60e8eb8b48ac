-- The stored table of on and free points. Read next: Answer.
use Rattle.std.specs.Prelude.{Bool, true, false, cond, Option, List, [], ◌∷◌, ◌++◌, ℕ, zero, suc, ◌^◌, get_or}
use Rattle.stored.specs.Marks.{Mark, mark}
use Rattle.stored.specs.Encoding.{encode_table}
use Rattle.pla_cubes.specs.Cubes.{Row}
use Rattle.pla_cubes.specs.Meaning.{on_at, free_by, free_at}
use Rattle.pla_cubes.specs.Flagging.{unsaid}
use Rattle.pla_cubes.specs.declared.PointFlags.{PointFlags}
use Rattle.pla_text.specs.declared.TableType.{TableType}

-- The mark of a point, if it has one: where it is both on and free, on wins.
unfoldable pub mark_of : Bool → Bool → ℕ → List Mark
mark_of on free p = cond on (mark true p ∷ []) (cond free (mark false p ∷ []) [])

-- The marks of the points below k, rising.
unfoldable pub marks_below : (ℕ → Bool) → (ℕ → Bool) → ℕ → List Mark
marks_below on free zero = []
marks_below on free (suc k) = marks_below on free k ++ mark_of (on k) (free k) k

-- The marks of the points of n variables that rows of a type make on and free.
abbrev pub marks_of : Option TableType → ℕ → List Row → List Mark
marks_of kind n rows = marks_below (on_at rows) (free_at kind rows) (2 ^ n)

-- The bytes of their stored table.
unfoldable pub stored_table : Option TableType → ℕ → List Row → List ℕ
stored_table kind n rows = encode_table n (marks_of kind n rows)

-- What the flags say of a point, and the marks that they give, as the code holds them.
abbrev pub flag_on : List PointFlags → ℕ → Bool
flag_on flags p = (get_or flags p unsaid).one

abbrev pub flag_free : Option TableType → List PointFlags → ℕ → Bool
flag_free kind flags p = free_by kind (get_or flags p unsaid).zero (get_or flags p unsaid).dash

abbrev pub flag_marks : Option TableType → ℕ → List PointFlags → List Mark
flag_marks kind n flags = marks_below (flag_on flags) (flag_free kind flags) (2 ^ n)
