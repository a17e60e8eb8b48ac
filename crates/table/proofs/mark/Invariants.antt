-- `table::mark` meets its contract. The loop's invariant: the points from this one on are what is left to be marked. Assumes nothing.
use mathlib.Core.Path.{◌≡◌}
use lib.ListN.{length, drop}
use Rattle.table.specs.Flags.{max_points, marked}
use Rattle.table.proofs.mark.Given as goal

abbrev pub invariant-loop-point : goal.invariant-loop-point
invariant-loop-point l = (length l.flags ≡ max_points) × (marked (drop l.point-index l.points) l.flags ≡ marked l.points l.initial.flags)
