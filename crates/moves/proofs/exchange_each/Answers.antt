-- `moves::exchange_each` meets its contract: the masks passed are moved, the others stand as they were. Assumes nothing.
use Prim.Native.Nat.{◌^◌}
use native.Mathlib.Omega.{arith}
use Rattle.moves.proofs.Moves.{each_of}
use Rattle.moves.proofs.exchange_each.Goals as goal

pub returns : goal.returns
returns c =
    let l = c.loop-mask in
    each_of (2 ^ c.args.k) l.mask-index c.args.masks.now l.mask-items l.invariant.passed l.invariant.left (omega arith)
