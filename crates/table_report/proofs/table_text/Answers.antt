-- `table_report::table_text` meets its contract: n, the counts, and the lines of the completed function. Assumes nothing.
use mathlib.Core.Path.{sym}
use native.Mathlib.Omega.{arith}
use Rattle.projection.proofs.Restrictions.{completed-spans}
use Rattle.text.proofs.Writing.{fits-first, fits-then, fits-same, wrote-same, parts}
use Rattle.table_report.proofs.Parts.{table-parts, completed-text}
use Rattle.table_report.proofs.table_text.Goals as goal

pub number_line-requires : goal.number_line-requires
number_line-requires c = fits-first _ _ (fits-same (table-parts c.args.n c.args.on.now c.args.free.now) c.requires.fits)

pub counts_line-requires : goal.counts_line-requires
counts_line-requires c = grind (arith, parts, table-parts c.args.n c.args.on.now c.args.free.now)

pub flags_text-requires-clause-basis_within : goal.flags_text-requires-clause-basis_within
flags_text-requires-clause-basis_within c = completed-spans c.complete-completed.ensures c.requires.accepted.few

pub flags_text-requires-clause-fits : goal.flags_text-requires-clause-fits
flags_text-requires-clause-fits c =
    fits-same (completed-text c.complete-completed.ensures c.is_simple-simple.ensures) (rw (c.counts_line.ensures, c.number_line.ensures) (fits-then _ _ (fits-then _ _ (fits-same (table-parts c.args.n c.args.on.now c.args.free.now) c.requires.fits))))

pub returns : goal.returns
returns c =
    let a = c.args in
    wrote-same _ (sym (table-parts a.n a.on.now a.free.now))
    (rw (completed-text c.complete-completed.ensures c.is_simple-simple.ensures) (grind (arith, parts)))
