-- `pla_lines::read_lines` meets its contract. The loop's invariant: the lines that are left complete the reading, with the head and the flags so far. Assumes nothing.
use Rattle.std.specs.Slice.Iter.{split_done, split_rest}
use Rattle.pla_lines.proofs.Going.{Going, lines_left}
use Rattle.pla_lines.proofs.read_lines.Given as goal

abbrev pub invariant-loop-index : goal.invariant-loop-index
invariant-loop-index l = Going l.text l.output l.index-iterator.count l.reading (lines_left (split_done l.index-iterator.iter) (split_rest l.index-iterator.iter))
