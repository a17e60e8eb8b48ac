-- `index_list::matches` meets its contract: what was said of the records so far is right. Assumes nothing.
use mathlib.Core.Path.{◌≡◌}
use Rattle.index.specs.Records.{agrees_upto}
use Rattle.index_list.proofs.matches.Given as goal

abbrev pub invariant-loop-point : goal.invariant-loop-point
invariant-loop-point l = l.same ≡ agrees_upto l.form l.list l.point
