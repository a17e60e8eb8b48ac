-- `table::shared` meets its contract. The free points are looked up in the flags of the on points, by `flag-known`; the loop's invariant:
-- the free points from this one on decide the answer. Assumes nothing.
use mathlib.Core.Path.{◌≡◌}
use lib.ListN.{drop}
use Rattle.table.specs.Table.{shared}
use Rattle.table.proofs.shared.Given as goal

abbrev pub invariant-loop-point : goal.invariant-loop-point
invariant-loop-point l = shared (drop l.point-index l.free) l.on ≡ shared l.free l.on
