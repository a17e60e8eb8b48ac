-- How the bytes of a stored table are laid out: a walk from the left that reports the first fault that it meets, with its byte place
-- (document 01, "The written form"; the faults and their places are those of document 02, No. 3). Read next: Faults.
use Rattle.std.specs.Prelude.{cond, List, [], ◌∷◌, ℕ, ◌+◌, ◌*◌, eqb}
use Rattle.records.specs.declared.Kind.{Kind}
use Rattle.records.specs.declared.Kind.TheVariants.{Variables, Product, Factor, End, On, Free}
use Rattle.records.specs.Kinds.{head_of, word_record_length}
use Rattle.table.specs.Flags.{max_points}
use Rattle.records.specs.Walks.{head_step, body_step, end_step, go_on, walk_by, bytes_missing}
use Rattle.table.specs.declared.BytesFault.TheVariants.{WrongKind, Missing, After}
use Rattle.records.specs.Walks.{Walk, Step}
use Rattle.std.specs.Prelude.{Err}
use Rattle.std.specs.declared.ops.ControlFlow.TheVariants.{Break}

-- Where the records of points begin: behind 4E and n.
abbrev pub first_point : ℕ
first_point = 2

-- The number of bytes of a stored table: 4E and n, a record for each point, 45 and their number (document 01, "The written form").
abbrev pub table_length : ℕ → ℕ
table_length count = first_point + word_record_length * count + word_record_length

-- The bytes of the longest stored table, with a record for each point of the most variables.
abbrev pub longest_table : ℕ
longest_table = table_length max_points

-- The first record, of a known kind with a body of the given length: it gives n, and any other kind stands wrong.
abbrev pub first_table_kind : Kind → ℕ → List ℕ → Step
first_table_kind Variables l rest = body_step l 0 rest
first_table_kind Product l rest = Break (Err (WrongKind 0))
first_table_kind Factor l rest = Break (Err (WrongKind 0))
first_table_kind End l rest = Break (Err (WrongKind 0))
first_table_kind On l rest = Break (Err (WrongKind 0))
first_table_kind Free l rest = Break (Err (WrongKind 0))

-- The first record, by the decision over its kind byte.
abbrev pub first_table_step : ℕ → List ℕ → Step
first_table_step byte rest = head_step (head_of byte 0) (λ kind l. first_table_kind kind l rest)

-- A later record, of a known kind with a body of the given length: an on point, a free point or the end; any other kind stands wrong.
abbrev pub later_table_kind : Kind → ℕ → ℕ → ℕ → List ℕ → Step
later_table_kind On l count place rest = body_step l place rest
later_table_kind Free l count place rest = body_step l place rest
later_table_kind End l count place rest = end_step (body_step l place rest) count place rest
later_table_kind Variables l count place rest = Break (Err (WrongKind place))
later_table_kind Product l count place rest = Break (Err (WrongKind place))
later_table_kind Factor l count place rest = Break (Err (WrongKind place))

-- A later record, with a number of records behind it, by the decision over its kind byte. A byte at the place after the longest table is a byte after the end, whatever it is
-- (document 02, No. 3).
abbrev pub table_step : ℕ → ℕ → ℕ → List ℕ → Step
table_step count byte place rest =
    cond (eqb place longest_table) (Break (Err (After place))) (head_step (head_of byte place) (λ kind l. later_table_kind kind l count place rest))

-- Once a record is passed, one more lies behind.
abbrev pub count_passed : ℕ → ℕ → List ℕ → ℕ
count_passed count byte rest = count + 1

-- The walk over the bytes from a place on, with the number of records behind it, once the given number of bytes of a body is passed.
abbrev pub walk_table_from : ℕ → ℕ → ℕ → List ℕ → Walk
walk_table_from = walk_by table_step count_passed bytes_missing

-- The walk over a whole input: the first record, the records of points, the end.
unfoldable pub walked : List ℕ → Walk
walked [] = Err (Missing 0)
walked (byte ∷ rest) = go_on (first_table_step byte rest) (λ l. walk_table_from l 0 1 rest)
