-- `walsh::pass` meets its contract. The loop's invariant: the blocks before the place `start` are crossed, the numbers from there on are as they were.
-- Assumes nothing.
use Prim.Native.Nat.{◌+◌, ◌*◌}
use native.Mathlib.Omega.{arith}
use Rattle.walsh.proofs.Passing.{passing-room, passing-next, passing-end}
use Rattle.walsh.proofs.pass.Goals as goal

pub slice_bounds-cross_quarters-end : goal.slice_bounds-cross_quarters-end
slice_bounds-cross_quarters-end c =
    passing-room c.args.quarter c.args.numbers.now c.requires c.loop-start.start c.loop-start.numbers (omega (arith, c.loop-start.invariant.long)) c.loop-start.invariant

pub loop-start-preserved : goal.loop-start-preserved
loop-start-preserved c =
    let loop = c.loop-start in
    passing-next c.args.quarter c.args.numbers.now c.requires loop.start loop.numbers (omega (arith, loop.invariant.long)) loop.invariant
    c.cross_quarters.new.numbers c.cross_quarters.ensures

-- Past the last block, or none was there.
pub returns-2 : goal.returns-2
returns-2 c =
    let loop = c.loop-start in
    let q = c.args.quarter in
    let last = passing-next q c.args.numbers.now c.requires loop.start loop.numbers (omega (arith, loop.invariant.long)) loop.invariant
    c.cross_quarters.new.numbers c.cross_quarters.ensures in
    passing-end q c.args.numbers.now (loop.start + 4 * q) _ (omega (arith, last.long)) last

pub returns : goal.returns
returns c =
    let loop = c.loop-start in
    passing-end c.args.quarter c.args.numbers.now loop.start loop.numbers (omega (arith, loop.invariant.long)) loop.invariant
