-- The lines of a table: what is refused at each, and what is known after it. Read next: Reading.
use Rattle.std.specs.Prelude.{Bool, true, false, not, ◌||◌, Option, None, Some, List, [], ◌∷◌, ◌++◌, ℕ, ◌+◌, eqb, ltb}
use Rattle.std.specs.Option.{is_some, is_none, unwrap_or}
use Rattle.table.specs.Refusal.{Test, test, first_fault}
use Rattle.table.specs.Table.{bad_count}
use Rattle.pla_text.specs.declared.Statement.{Statement}
use Rattle.pla_text.specs.declared.Statement.TheVariants.{Empty, Wrong, Inputs, Outputs, Products, Meaning, Names, End, Cube}
use Rattle.pla_cubes.specs.Cubes.{Row, is_cube, row_of, max_outputs}
use Rattle.pla_cubes.specs.Meaning.{contradicts}
use Rattle.pla_lines.specs.declared.Head.{Head}
use Rattle.pla_lines.specs.declared.LineFault.{LineFault}
use Rattle.pla_lines.specs.declared.LineFault.TheVariants as fault

-- ---- the refusal numbers of a line

-- A directive is unknown, or isn't followed by the words that it needs: a number of cubes by a number, a type by one that is known, the end by none.
abbrev pub directive_fault : ℕ
directive_fault = 31

-- The number of inputs isn't 1 to 12.
abbrev pub inputs_fault : ℕ
inputs_fault = 32

-- The number of outputs isn't 1 to 4,096.
abbrev pub outputs_fault : ℕ
outputs_fault = 33

-- A directive is given twice or after the first cube, or a cube stands before the numbers of inputs and outputs.
abbrev pub sequence_fault : ℕ
sequence_fault = 34

-- Something stands after the end.
abbrev pub after_fault : ℕ
after_fault = 35

-- A cube doesn't have one symbol for each input and each output.
abbrev pub cube_fault : ℕ
cube_fault = 36

-- Of type fr, a cube makes a point both on and off.
abbrev pub contradiction_fault : ℕ
contradiction_fault = 37

-- The number of each fault of a line.
abbrev pub fault_number : LineFault → ℕ
fault_number fault.Directive = directive_fault
fault_number fault.Inputs = inputs_fault
fault_number fault.Outputs = outputs_fault
fault_number fault.Sequence = sequence_fault
fault_number fault.AfterEnd = after_fault
fault_number fault.Cube = cube_fault
fault_number fault.Contradiction = contradiction_fault

-- ---- what is known before a line

-- Nothing: no number is given yet, and no type.
abbrev pub no_head : Head
no_head = record { variables = None; outputs = None; kind = None; products = None; cubes = 0; ended = false }

-- The numbers of inputs and outputs, or 0.
abbrev pub variables_of : Head → ℕ
variables_of head = unwrap_or head.variables 0

abbrev pub outputs_of : Head → ℕ
outputs_of head = unwrap_or head.outputs 0

-- ---- what is refused at a line

-- After the end only empty lines may follow.
abbrev pub after_end : Head → Test
after_end head = test after_fault head.ended

-- A directive of the head is given once, and before the first cube.
abbrev pub out_of_turn : Head → Bool → Test
out_of_turn head given = test sequence_fault (given || not (eqb head.cubes 0))

-- The number of inputs is missing, 0 or above the limit.
abbrev pub bad_inputs : Option ℕ → Bool
bad_inputs None = true
bad_inputs (Some count) = bad_count count

-- The number of outputs is missing, 0 or above the limit.
abbrev pub bad_outputs : Option ℕ → Bool
bad_outputs None = true
bad_outputs (Some count) = eqb count 0 || ltb max_outputs count

-- The rows after a cube, the latest first.
abbrev pub rows_with : ℕ → Head → List ℕ → List Row → List Row
rows_with output head symbols rows = row_of (variables_of head) output symbols ∷ rows

-- The tests of a directive in their order.
abbrev pub directive_tests : Head → Statement → List Test
directive_tests head Empty = []
directive_tests head Wrong = after_end head ∷ test directive_fault true ∷ []
directive_tests head (Inputs count) = after_end head ∷ out_of_turn head (is_some head.variables) ∷ test inputs_fault (bad_inputs count) ∷ []
directive_tests head (Outputs count) = after_end head ∷ out_of_turn head (is_some head.outputs) ∷ test outputs_fault (bad_outputs count) ∷ []
directive_tests head (Products count) = after_end head ∷ out_of_turn head (is_some head.products) ∷ test directive_fault (is_none count) ∷ []
directive_tests head (Meaning kind) = after_end head ∷ out_of_turn head (is_some head.kind) ∷ test directive_fault (is_none kind) ∷ []
directive_tests head Names = after_end head ∷ []
directive_tests head End = after_end head ∷ []
directive_tests head Cube = []

-- The tests of a cube by itself.
abbrev pub shape_tests : Head → List ℕ → List Test
shape_tests head symbols =
    after_end head ∷
    test sequence_fault (is_none head.variables || is_none head.outputs) ∷
    test cube_fault (not (is_cube (variables_of head) (outputs_of head) symbols)) ∷
    []

-- The tests of a cube in their order: the last is about the rows before it and its own.
abbrev pub cube_tests : ℕ → Head → List Row → List ℕ → List Test
cube_tests output head rows symbols =
    shape_tests head symbols ++ (test contradiction_fault (contradicts head.kind (variables_of head) (rows_with output head symbols rows)) ∷ [])

-- One thing for a cube, another for every other statement.
abbrev pub for_cube : {A : Type 0} → Statement → A → A → A
for_cube Cube a b = a
for_cube Empty a b = b
for_cube Wrong a b = b
for_cube (Inputs count) a b = b
for_cube (Outputs count) a b = b
for_cube (Products count) a b = b
for_cube (Meaning kind) a b = b
for_cube Names a b = b
for_cube End a b = b

-- The refusal of a line, or 0, by its statement and its symbols.
unfoldable pub line_fault : ℕ → Head → List Row → List ℕ → Statement → ℕ
line_fault output head rows symbols statement = first_fault (for_cube statement (cube_tests output head rows symbols) (directive_tests head statement))

-- ---- what is known after a line

-- The head after a statement that isn't refused.
unfoldable pub head_after : Head → Statement → Head
head_after head Empty = head
head_after head Wrong = head
head_after head (Inputs count) = record { variables = count; outputs = head.outputs; kind = head.kind; products = head.products; cubes = head.cubes; ended = head.ended }
head_after head (Outputs count) = record { variables = head.variables; outputs = count; kind = head.kind; products = head.products; cubes = head.cubes; ended = head.ended }
head_after head (Products count) = record { variables = head.variables; outputs = head.outputs; kind = head.kind; products = count; cubes = head.cubes; ended = head.ended }
head_after head (Meaning kind) = record { variables = head.variables; outputs = head.outputs; kind = kind; products = head.products; cubes = head.cubes; ended = head.ended }
head_after head Names = head
head_after head End = record { variables = head.variables; outputs = head.outputs; kind = head.kind; products = head.products; cubes = head.cubes; ended = true }
head_after head Cube = record { variables = head.variables; outputs = head.outputs; kind = head.kind; products = head.products; cubes = head.cubes + 1; ended = head.ended }

-- A cube adds its row.
abbrev pub rows_after : ℕ → Head → List Row → List ℕ → Statement → List Row
rows_after output head rows symbols statement = for_cube statement (rows_with output head symbols rows) rows
