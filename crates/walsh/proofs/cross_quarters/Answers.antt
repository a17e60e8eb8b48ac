-- `walsh::cross_quarters` meets its contract. The loop's invariant: the places below u and their fellows are crossed, the others as they were. Assumes
-- nothing.
use native.Mathlib.Omega.{arith}
use Rattle.walsh.proofs.Crossing.{quartering-start, quartering-crossable, quartering-next}
use Rattle.walsh.proofs.cross_quarters.Goals as goal

pub loop-u-init : goal.loop-u-init
loop-u-init c = quartering-start c.args.quarter c.args.numbers.now

pub cross_four-requires : goal.cross_four-requires
cross_four-requires c =
    let loop = c.loop-u in
    quartering-crossable c.args.quarter c.args.numbers.now c.requires.numbers_len loop.u loop.numbers c.loop-u-test.true loop.invariant
    c.requires.summable

pub loop-u-preserved : goal.loop-u-preserved
loop-u-preserved c =
    let loop = c.loop-u in
    let next = quartering-next c.args.quarter c.args.numbers.now c.requires.numbers_len loop.u loop.numbers (omega arith) loop.invariant in
    rw c.cross_four.ensures next

pub shape_of-numbers : goal.shape_of-numbers
shape_of-numbers c = c.loop-u.invariant.long

pub returns : goal.returns
returns c =
    let ended = c.loop-u.invariant in
    record { long = ended.long; each = λ u h. ended.done u (omega arith) }
