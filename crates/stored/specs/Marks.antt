-- What the bytes of a stored table stand for: n, and for each record of a point the point and its mark, on or free
-- (document 01, "The written form"). Read next: Encoding.
use Rattle.std.specs.Prelude.{Bool, true, false, cond, List, [], ◌∷◌, map, ℕ, eqb, get_or, drop}
use Rattle.std.specs.Bool.{beq}
use Rattle.records.specs.Kinds.{on_kind, free_kind, word_of}
use Rattle.stored.specs.Layout.{first_point}

-- A point with its mark: on, or else free.
pub record Mark : Type 0 where
  pub is_on : Bool
  pub point : ℕ

-- A mark from its parts.
abbrev pub mark : Bool → ℕ → Mark
mark is_on point = record { is_on = is_on; point = point }

-- The mark of no record, which is read past the last one.
abbrev pub no_mark : Mark
no_mark = mark false 0

-- The mark of a record of a point, by its kind byte, before the marks that follow it; any other byte ends them.
abbrev pub mark_before : ℕ → ℕ → List Mark → List Mark
mark_before kind point rest =
    cond (eqb kind on_kind) (mark true point ∷ rest)
    (cond (eqb kind free_kind) (mark false point ∷ rest) [])

-- The marks of records of points, one after the other.
unfoldable pub record_marks : List ℕ → List Mark
record_marks [] = []
record_marks (kind ∷ []) = []
record_marks (kind ∷ low ∷ []) = []
record_marks (kind ∷ low ∷ high ∷ rest) = mark_before kind (word_of low high) (record_marks rest)

-- n is the body of the first record.
abbrev pub stored_variables : List ℕ → ℕ
stored_variables bytes = get_or bytes 1 0

-- The marks of a stored table stand after its first record.
abbrev pub marks : List ℕ → List Mark
marks bytes = record_marks (drop first_point bytes)

-- The points of the marks that are on, or of those that are free.
unfoldable pub marked_points : Bool → List Mark → List ℕ
marked_points is_on [] = []
marked_points is_on (m ∷ rest) = cond (beq is_on m.is_on) (m.point ∷ marked_points is_on rest) (marked_points is_on rest)

-- The points of all records as one list.
abbrev pub stored_points : List ℕ → List ℕ
stored_points bytes = map (λ m. m.point) (marks bytes)

-- The list of on points, and the list of free points.
abbrev pub stored_on : List ℕ → List ℕ
stored_on bytes = marked_points true (marks bytes)

abbrev pub stored_free : List ℕ → List ℕ
stored_free bytes = marked_points false (marks bytes)
