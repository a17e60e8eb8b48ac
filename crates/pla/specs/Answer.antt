-- The call: the tests at the end of a text, the answer and the lent room after it. Read next: crate `pla_to_table`, the program.
use Rattle.std.specs.Prelude.{Bool, true, false, cond, not, ◌||◌, Option, None, Some, Result, Ok, Err, List, [], ◌∷◌, ◌++◌, ℕ, eqb, ltb, length}
use Rattle.std.specs.Option.{is_none}
use Rattle.table.specs.Refusal.{Test, test, room_fault}
use Rattle.table.specs.Decision.{decide, room_after, room_test}
use Rattle.pla_lines.specs.declared.Head.{Head}
use Rattle.pla_lines.specs.Lines.{fault_number, variables_of, outputs_of}
use Rattle.pla_lines.specs.Reading.{Gathered, read_text}
use Rattle.pla.specs.declared.PlaRefusal.{PlaRefusal}
use Rattle.pla.specs.declared.PlaRefusal.TheVariants as refusal
use Rattle.pla.specs.Table.{stored_table}

-- ---- at the end of the text

-- The number of inputs or of outputs is missing.
abbrev pub head_fault : ℕ
head_fault = 38

-- The number of cubes that was given isn't theirs.
abbrev pub count_fault : ℕ
count_fault = 39

-- The chosen output, counted from 1, is 0 or above the number of outputs.
abbrev pub output_fault : ℕ
output_fault = 40

-- A number of cubes was given, and it isn't theirs.
abbrev pub miscounted : Head → Bool
miscounted head = differs head.products head.cubes
  where
    differs : Option ℕ → ℕ → Bool
    differs None cubes = false
    differs (Some products) cubes = not (eqb products cubes)

-- The tests at the end in their order.
abbrev pub end_tests : ℕ → Head → List Test
end_tests output head =
    test head_fault (is_none head.variables || is_none head.outputs) ∷
    test count_fault (miscounted head) ∷
    test output_fault (eqb output 0 || ltb (outputs_of head) output) ∷
    []

-- ---- the call

-- The stored table of what was found.
abbrev pub table_found : Gathered → List ℕ
table_found f = stored_table f.head.kind (variables_of f.head) f.rows

-- The tests of a text: where a line is at fault, that fault alone; otherwise those at the end.
unfoldable pub text_tests : ℕ → Gathered → List Test
text_tests output f = cond (eqb f.fault 0) (end_tests output f.head) (test f.fault true ∷ [])

-- All tests of the call; the last is that the stored table is longer than the room.
abbrev pub pla_tests : ℕ → Gathered → List ℕ → List Test
pla_tests output f room = text_tests output f ++ room_test (table_found f) room

-- What the call answers: the refusal number or 0, the line at fault or 0, and how many bytes are written.
pub record PlaRead : Type 0 where
  pub refusal : ℕ
  pub line : ℕ
  pub length : ℕ

-- A refusal returns its number and, where a line is at fault, that line.
abbrev pub refused_pla : Gathered → ℕ → PlaRead
refused_pla f number = record { refusal = number; line = f.line; length = 0 }

-- An accepted text returns the length of its stored table.
abbrev pub accepted_pla : Gathered → PlaRead
accepted_pla f = record { refusal = 0; line = 0; length = length (table_found f) }

-- The number and the line of a refusal, and what a result answers by them.
abbrev pub number_of : PlaRefusal → ℕ
number_of (refusal.Line fault line) = fault_number fault
number_of refusal.Head = head_fault
number_of refusal.Count = count_fault
number_of refusal.Output = output_fault
number_of refusal.Room = room_fault

abbrev pub line_of : PlaRefusal → ℕ
line_of (refusal.Line fault line) = line
line_of refusal.Head = 0
line_of refusal.Count = 0
line_of refusal.Output = 0
line_of refusal.Room = 0

abbrev pub result_number : {A : Type 0} → Result A PlaRefusal → ℕ
result_number (Ok value) = 0
result_number (Err refusal) = number_of refusal

abbrev pub result_line : {A : Type 0} → Result A PlaRefusal → ℕ
result_line (Ok value) = 0
result_line (Err refusal) = line_of refusal

abbrev pub answer_of : Result ℕ PlaRefusal → PlaRead
answer_of (Ok length) = record { refusal = 0; line = 0; length = length }
answer_of (Err refusal) = record { refusal = number_of refusal; line = line_of refusal; length = 0 }

-- The numbers returned.
unfoldable pub pla_answer : List ℕ → ℕ → List ℕ → PlaRead
pla_answer text output room =
    decide (pla_tests output (read_text output text) room) (accepted_pla (read_text output text)) (refused_pla (read_text output text))

-- The room after the call: the stored table at its front and the rest as lent, or all as lent where the call is refused.
unfoldable pub pla_after : List ℕ → ℕ → List ℕ → List ℕ
pla_after text output room = room_after (pla_tests output (read_text output text) room) (table_found (read_text output text)) room
