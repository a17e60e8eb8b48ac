-- `point_sets::least_from` meets its contract: the set holds none of the numbers passed, and what is left of a word has a lowest bit. Assumes nothing.
use Prim.Native.Nat.{◌*◌}
use Rattle.moves.specs.Moves.{mask_size}
use Rattle.point_sets.proofs.Sets.{NoneFrom}
use Rattle.point_sets.proofs.least_from.Given as goal

abbrev pub invariant-loop-word : goal.invariant-loop-word
invariant-loop-word l = NoneFrom l.set l.from (l.word * mask_size)
