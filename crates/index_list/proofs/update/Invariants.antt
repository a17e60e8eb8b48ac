-- `index_list::update` meets its contract: the records so far are changed, each by its point and what it was. Assumes nothing.
use mathlib.Core.Path.{◌≡◌}
use Rattle.index.specs.Changes.{changed_of, map_first}
use Rattle.index_list.proofs.update.Given as goal

abbrev pub invariant-loop-point : goal.invariant-loop-point
invariant-loop-point l = l.record-items ≡ map_first (changed_of l.way l.bytes l.answer) l.point l.initial.record-items
