-- `walsh::cross_quarters` meets its contract. The loop's invariant: the places below u and their fellows are crossed, the others as they were. Assumes
-- nothing.
use Rattle.walsh.proofs.Crossing.{Quartering}
use Rattle.walsh.proofs.cross_quarters.Given as goal

abbrev pub invariant-loop-u : goal.invariant-loop-u
invariant-loop-u l = Quartering l.quarter l.initial.numbers l.u l.numbers
