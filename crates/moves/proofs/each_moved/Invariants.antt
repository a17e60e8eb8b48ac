-- `moves::each_moved` meets its contract: after k turns each mask is moved by the k lowest bits of v. Assumes nothing.
use Prim.Native.Nat.{◌%◌, ◌^◌}
use Rattle.moves.specs.Moves.{EachMoved}
use Rattle.moves.proofs.each_moved.Given as goal

abbrev pub invariant-loop-k : goal.invariant-loop-k
invariant-loop-k g l = EachMoved (l.v % 2 ^ l.k) l.initial.turned l.turned
