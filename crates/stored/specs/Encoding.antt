-- The bytes of a stored table (document 01, "The written form"). That a list of bytes is laid out as a table exactly if it is one of these
-- is `laid-exactly`, and that it is accepted exactly if it is that of a valid table is `table-exactly`. Read next: Stored.
use Rattle.std.specs.Prelude.{◌≡◌, Bool, true, false, List, [], ◌∷◌, ◌++◌, map, ℕ, ◌≤◌, ◌<◌, ◌^◌, length}
use Rattle.gf2.specs.Limits.{max_variables}
use Rattle.gf2.specs.Finite.{Mem, Rising}
use Rattle.records.specs.Kinds.{variables_kind, on_kind, free_kind, encode_record, encode_end}
use Rattle.table.specs.Flags.{max_points}
use Rattle.stored.specs.Marks.{Mark}

-- The kind byte of a mark.
abbrev pub mark_kind : Bool → ℕ
mark_kind true = on_kind
mark_kind false = free_kind

-- The records of the marks: kind, then the point, low byte first.
unfoldable pub encode_marks : List Mark → List ℕ
encode_marks [] = []
encode_marks (m ∷ rest) = encode_record (mark_kind m.is_on) m.point ++ encode_marks rest

-- A stored table: 4E and n, a record for each mark, 45 and their number.
unfoldable pub encode_table : ℕ → List Mark → List ℕ
encode_table n ms = variables_kind ∷ n ∷ (encode_marks ms ++ encode_end (length ms))

-- The bytes are those of a stored table: n in one byte, each point in two, and no more records than points of the most variables.
pub record Encoded (bytes : List ℕ) : Type 0 where
  pub variables : ℕ
  pub listed : List Mark
  pub one_byte : variables < 256
  pub two_bytes : (m : Mark) → Mem m listed → m.point < 65536
  pub few : length listed ≤ max_points
  pub same : bytes ≡ encode_table variables listed

-- n and the marks of a table that is accepted: n from 1 to the largest number of variables, points below 2 ^ n that rise overall, each on or
-- free (document 01, "Points and spaces" and "The written form").
pub record ValidTable (n : ℕ) (listed : List Mark) : Type 0 where
  pub some : 1 ≤ n
  pub few : n ≤ max_variables
  pub below : (m : Mark) → Mem m listed → m.point < 2 ^ n
  pub rises : Rising (map (λ m. m.point) listed)
