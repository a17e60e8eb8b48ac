-- `choice::choose` meets its contract: the points gone through so far are what `TakenTo` says. Assumes nothing.
use Rattle.choice.proofs.Taking.{TakenTo}
use Rattle.choice.proofs.choose.Given as goal

abbrev pub invariant-loop-x : goal.invariant-loop-x
invariant-loop-x l = TakenTo l.m l.on l.x-index l.flags l.choice
