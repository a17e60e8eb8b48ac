-- Reading a text line by line: the first line at fault, or the head and the rows of all. Read next: Bounds.
use Rattle.std.specs.Prelude.{cond, List, [], ◌∷◌, ℕ, ◌+◌, eqb}
use Rattle.pla_text.specs.declared.Statement.{Statement}
use Rattle.pla_text.specs.Text.{lines_of, content_of, words_of, symbols_of}
use Rattle.pla_text.specs.Statements.{statement_of}
use Rattle.pla_cubes.specs.Cubes.{Row}
use Rattle.pla_lines.specs.declared.Head.{Head}
use Rattle.pla_lines.specs.Lines.{no_head, line_fault, head_after, rows_after}

-- What reading found: the refusal and the line at fault, or 0 and 0; the head and the rows as far as it came.
pub record Gathered : Type 0 where
  pub fault : ℕ
  pub line : ℕ
  pub head : Head
  pub rows : List Row

abbrev pub found : ℕ → ℕ → Head → List Row → Gathered
found fault line head rows = record { fault = fault; line = line; head = head; rows = rows }

-- A line with this statement and these symbols: where it is at fault, its number, and the head and the rows before it.
abbrev pub read_statement : ℕ → ℕ → Head → List Row → List ℕ → Statement → Gathered
read_statement output number head rows symbols statement =
    cond (eqb (line_fault output head rows symbols statement) 0)
    (found 0 0 (head_after head statement) (rows_after output head rows symbols statement))
    (found (line_fault output head rows symbols statement) number head rows)

-- A line with this content.
unfoldable pub read_content : ℕ → ℕ → Head → List Row → List ℕ → Gathered
read_content output number head rows content = read_statement output number head rows (symbols_of content) (statement_of (words_of content))

-- Lines from a number on: the first at fault ends the reading.
unfoldable pub read_from : ℕ → ℕ → Head → List Row → List (List ℕ) → Gathered
read_from output number head rows [] = found 0 0 head rows
read_from output number head rows (line ∷ lines) =
    let f = read_content output number head rows (content_of line) in
    cond (eqb f.fault 0) (read_from output (number + 1) f.head f.rows lines) f

-- A text, its lines counted from 1.
unfoldable pub read_text : ℕ → List ℕ → Gathered
read_text output text = read_from output 1 no_head [] (lines_of text)
