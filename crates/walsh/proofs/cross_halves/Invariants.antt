-- `walsh::cross_halves` meets its contract. The loop's invariant: the places below u and their fellows are crossed, the others as they were. Assumes
-- nothing.
use Rattle.walsh.proofs.Crossing.{Halving}
use Rattle.walsh.proofs.cross_halves.Given as goal

abbrev pub invariant-loop-u : goal.invariant-loop-u
invariant-loop-u l = Halving l.half l.initial.numbers l.u l.numbers
