-- What holds between lines: the numbers of the head are small, and what the code has read is what the definition found. Read next: crate `pla`.
use Rattle.std.specs.Prelude.{◌≡◌, false, is_none, Result, Ok, Err, ℕ, ◌≤◌, ◌<◌}
use Rattle.gf2.specs.Limits.{max_variables}
use Rattle.pla_cubes.specs.Cubes.{max_outputs}
use Rattle.pla_cubes.specs.Flagging.{Flagged}
use Rattle.pla_lines.specs.declared.Head.{Head}
use Rattle.pla_lines.specs.declared.LineFault.{LineFault}
use Rattle.pla_lines.specs.declared.LineRefusal.{LineRefusal}
use Rattle.pla_lines.specs.declared.Reading.{Reading}
use Rattle.pla_lines.specs.Lines.{fault_number, variables_of, outputs_of}
use Rattle.pla_lines.specs.Reading.{Gathered}

-- Before the line of a number: the numbers of inputs and outputs are within their limits, that of inputs isn't 0 where it is given, and there are fewer
-- cubes than that number.
pub record Bounded (head : Head) (number : ℕ) : Type 0 where
  pub inputs : variables_of head ≤ max_variables
  pub given : is_none head.variables ≡ false → 1 ≤ variables_of head
  pub outputs : outputs_of head ≤ max_outputs
  pub cubes : head.cubes < number

-- No text has more cubes than a `usize` counts.
abbrev pub most_cubes : ℕ
most_cubes = 18446744073709551615

-- The refusal number of a line that was judged, or 0, and the line at fault, or 0.
abbrev pub result_number : {A : Type 0} → Result A LineFault → ℕ
result_number (Ok value) = 0
result_number (Err fault) = fault_number fault

abbrev pub line_number : {A : Type 0} → Result A LineFault → ℕ → ℕ
line_number (Ok value) number = 0
line_number (Err fault) number = number

-- The same of a text that was read, and what was read as far as it came.
abbrev pub refusal_number : Result Reading LineRefusal → ℕ
refusal_number (Ok reading) = 0
refusal_number (Err refusal) = fault_number refusal.fault

abbrev pub refusal_line : Result Reading LineRefusal → ℕ
refusal_line (Ok reading) = 0
refusal_line (Err refusal) = refusal.line

abbrev pub reading_of : Result Reading LineRefusal → Reading
reading_of (Ok reading) = reading
reading_of (Err refusal) = refusal.before

-- The code's number, line and reading are those that were found; its flags hold what the rows say.
pub record GatheredBy (number at_line : ℕ) (reading : Reading) (f : Gathered) : Type 0 where
  pub fault : number ≡ f.fault
  pub line : at_line ≡ f.line
  pub head : reading.head ≡ f.head
  pub flagged : Flagged reading.flags f.rows
