-- `stored::count_points` meets its contract. The loop's invariant: the points of the records passed are counted. Assumes nothing.
use mathlib.Core.Path.{◌≡◌}
use lib.ListN.{length, take}
use Rattle.stored.specs.Marks.{marks, marked_points}
use Rattle.stored.proofs.count_points.Given as goal

abbrev pub invariant-loop-i : goal.invariant-loop-i
invariant-loop-i l = l.found ≡ length (marked_points l.on (take l.i (marks l.bytes)))
