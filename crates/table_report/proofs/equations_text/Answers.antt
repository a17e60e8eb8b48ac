-- `table_report::equations_text` meets its contract: a line for each reduction equation. Assumes nothing.
use mathlib.Core.Path.{sym, ap, ◌∙◌}
use native.Mathlib.Omega.{arith}
use Rattle.basis.specs.Reduced.{vectors_of}
use Rattle.basis.proofs.Values.{short-listed, short-fits}
use Rattle.space.specs.Restriction.{equations}
use Rattle.text.proofs.Writing.{fits-same, wrote-same}
use Rattle.lines.specs.Lines.{equation_lines}
use Rattle.table_report.proofs.equations_text.Goals as goal

pub as_slice-requires : goal.as_slice-requires
as_slice-requires c = omega (arith, short-fits c.equations-equations.result (equations c.args.n (vectors_of c.args.basis)) c.equations-equations.ensures)

pub equation_lines-requires : goal.equation_lines-requires
equation_lines-requires c =
    let a = c.args in
    let q = c.equations-equations in
    record {
      n_le_max_variables = c.requires.basis_within.few;
      fits = fits-same (ap (equation_lines a.n 1) (sym (c.as_slice.ensures ∙ short-listed q.result (equations a.n (vectors_of a.basis)) q.ensures))) c.requires.fits;
    }

pub returns : goal.returns
returns c =
    let a = c.args in
    let q = c.equations-equations in
    wrote-same _ (ap (equation_lines a.n 1) (c.as_slice.ensures ∙ short-listed q.result (equations a.n (vectors_of a.basis)) q.ensures)) c.equation_lines.ensures
