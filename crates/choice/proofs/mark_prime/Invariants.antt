-- `choice::mark_prime` meets its contract: the points passed so far are marked where the candidate holds them. Assumes nothing.
use Rattle.choice.specs.Search.{candidate_of}
use Rattle.choice.proofs.Taking.{MarkedTo}
use Rattle.choice.proofs.mark_prime.Given as goal

abbrev pub invariant-loop-x : goal.invariant-loop-x
invariant-loop-x l = MarkedTo (candidate_of l.prime) l.initial.flags l.x l.flags
