-- `pla_lines::read_line` meets its contract: what stands before the comment is a cube or not. Assumes nothing.
use mathlib.Core.Path.{◌≡◌, sym, ◌∙◌}
use Rattle.pla_text.specs.Text.{content_of, words_of, symbols_of}
use Rattle.pla_text.specs.Statements.{statement_of}
use Rattle.pla_text.specs.declared.Statement.TheVariants.{Cube}
use Rattle.pla_lines.specs.Reading.{read_content}
use Rattle.pla_lines.proofs.read_line.Goals as goal

pub returns-in-Cube : goal.returns-in-Cube
unfolding read_content
returns-in-Cube c = λ number rows f.
    let cut = c.content-content.ensures in
    let s : statement_of (words_of (content_of c.args.line.now)) ≡ Cube = rw (← cut) (sym c.line_statement.ensures ∙ c.in-Cube.is) in
    rw s (rw cut at (c.read_cube.ensures number rows f))

pub returns-in_default : goal.returns-in_default
unfolding read_content
returns-in_default c = λ number rows f.
    let cut = c.content-content.ensures in
    let s : c.line_statement.result ≡ statement_of (words_of (content_of c.args.line.now)) = rw (← cut) c.line_statement.ensures in
    rw s at (c.read_directive.ensures number c.args.output rows (symbols_of (content_of c.args.line.now)) f c.in_default.not-Cube)
