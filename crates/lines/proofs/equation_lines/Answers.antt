-- `lines::equation_lines` meets its contract: the lines of the masks passed are written. Assumes nothing.
use native.Mathlib.Omega.{arith}
use lib.ListN.{length}
use Rattle.text.proofs.Writing.{with-none, fits-piece, wrote-piece, wrote-pieces}
use Rattle.lines.proofs.Lines.{equation_at, equation-pieces}
use Rattle.lines.proofs.equation_lines.Goals as goal

pub loop-i-init : goal.loop-i-init
loop-i-init c = with-none _

pub equation_line-requires-clause-fits : goal.equation_line-requires-clause-fits
equation_line-requires-clause-fits c =
    let a = c.args in
    fits-piece _ (equation_at a.n 1 a.masks.now) c.loop-i.i c.loop-i.invariant (length a.masks.now) (equation-pieces a.n 1 a.masks.now) c.requires.fits c.loop-i-test.true

pub loop-i-preserved : goal.loop-i-preserved
loop-i-preserved c = wrote-piece _ (equation_at c.args.n 1 c.args.masks.now) c.loop-i.i c.loop-i.invariant c.equation_line.ensures

pub returns : goal.returns
returns c =
    let a = c.args in
    wrote-pieces _ (equation_at a.n 1 a.masks.now) c.loop-i.i c.loop-i.invariant (length a.masks.now) (equation-pieces a.n 1 a.masks.now) (omega arith)
