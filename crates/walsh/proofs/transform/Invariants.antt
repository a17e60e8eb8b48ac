-- `walsh::transform` meets its contract. The loop's invariant: whatever list the numbers before the loop come from, the numbers now come from it, too, with
-- fewer variables left. Assumes nothing.
use mathlib.Core.List.{List}
use lib.IntN.{ℤ}
use Rattle.walsh.specs.Numbers.{InBlocks}
use Rattle.walsh.proofs.transform.Given as goal

abbrev pub invariant-loop-block : goal.invariant-loop-block
invariant-loop-block l = (xs : List ℤ) → InBlocks l.n xs l.initial.block l.initial.numbers → InBlocks l.n xs l.block l.numbers

abbrev pub decreases-loop-block : goal.decreases-loop-block
decreases-loop-block l = l.block
