-- `text::Writer::numbers` meets its contract: the numbers passed are written. Assumes nothing.
use native.Mathlib.Omega.{arith}
use lib.ListN.{length}
use Rattle.text.proofs.Pieces.{spaced_at, spaced-pieces}
use Rattle.text.proofs.Writing.{with-none, fits-piece, wrote-piece, wrote-pieces}
use Rattle.text.proofs.Writer.numbers.Goals as goal

pub loop-number-init : goal.loop-number-init
loop-number-init c = with-none _

pub labelled-requires : goal.labelled-requires
labelled-requires c =
    let ps = c.args.numbers.now in
    fits-piece _ (spaced_at ps) _ c.loop-number.invariant (length ps) (spaced-pieces ps) c.requires c.loop-number-test.true

pub loop-number-preserved : goal.loop-number-preserved
loop-number-preserved c = wrote-piece _ (spaced_at c.args.numbers.now) _ c.loop-number.invariant c.labelled.ensures

pub returns : goal.returns
returns c =
    let ps = c.args.numbers.now in
    wrote-pieces _ (spaced_at ps) c.loop-number.number-index c.loop-number.invariant (length ps) (spaced-pieces ps) (omega arith)
