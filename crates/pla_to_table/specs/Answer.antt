-- What the program writes for a text of any length, by the first bytes of it that are read. Read next: `main`.
use Rattle.std.specs.Prelude.{◌≡◌, cond, List, [], ℕ, ◌+◌, ltb, length, take}
use Rattle.table.specs.Decision.{decide}
use Rattle.pla_lines.specs.Reading.{Gathered, read_text}
use Rattle.pla.specs.Answer.{table_found, text_tests}
use Rattle.pla_to_table.specs.declared.Lengths.{Lengths}
use Rattle.pla_to_table.specs.Messages.{too_long, refused_message}

-- The bytes of the longest text, and one more, by which a longer one is known.
abbrev pub max_text : ℕ
max_text = 1048576

abbrev pub pla_room : ℕ
pla_room = max_text + 1

-- What goes to standard output, and what to standard error.
pub record Written : Type 0 where
  pub table : List ℕ
  pub message : List ℕ

abbrev pub only_table : List ℕ → Written
only_table table = record { table = table; message = [] }

abbrev pub only_message : List ℕ → Written
only_message message = record { table = []; message = message }

-- The stored table of what was found in a text, or its refusal by the tests of crate `pla`. No test of a room is among them: there always is one.
abbrev pub written_for : ℕ → Gathered → Written
written_for output f = decide (text_tests output f) (only_table (table_found f)) (λ number. only_message (refused_message number f.line))

-- What is written for a text and the chosen output.
unfoldable pub written : List ℕ → ℕ → Written
written text output = cond (ltb max_text (length text)) (only_message too_long) (written_for output (read_text output text))

-- What is written stands at the front of the two rooms, all of it and nothing else, by the two lengths.
pub record Stands (w : Written) (table message : List ℕ) (lengths : Lengths) : Type 0 where
  pub table-length : lengths.table ≡ length w.table
  pub table-bytes : take lengths.table table ≡ w.table
  pub message-length : lengths.message ≡ length w.message
  pub message-bytes : take lengths.message message ≡ w.message
