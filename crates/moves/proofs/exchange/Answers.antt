-- `moves::exchange` meets its contract: the bits of the low places and of the others change places. Assumes nothing.
use mathlib.Core.Path.{◌≡◌}
use Prim.Native.Nat.{ℕ, ◌*◌, ◌%◌, ◌^◌, ◌<◌}
use native.Mathlib.Omega.{arith}
use lib.Pow.{pow-lt}
use Rattle.gf2.proofs.Xor.{shifted_one}
use Rattle.moves.proofs.Moves.{exchange-moved}
use Rattle.moves.proofs.exchange.Goals as goal

-- The width of a block.
width : (k : ℕ) → k < 6 → 1 * 2 ^ k % 2 ^ 64 ≡ 2 ^ k
width k h = shifted_one k 64 (omega arith)

pub overflow_shr-result : goal.overflow_shr-result
overflow_shr-result c = rw (width c.args.k c.requires) (pow-lt c.requires)

pub overflow_shl-result : goal.overflow_shl-result
overflow_shl-result c = rw (width c.args.k c.requires) (pow-lt c.requires)

pub returns : goal.returns
returns c = rw (width c.args.k c.requires) (exchange-moved c.args.k c.args.mask c.requires (omega arith))
