-- `stored::write_points` meets its contract. The loop's invariant: the points of the records passed are written. Assumes nothing.
use Rattle.stored.specs.Marks.{marks}
use Rattle.stored.proofs.Points.{Written}
use Rattle.stored.proofs.write_points.Given as goal

abbrev pub invariant-loop-i : goal.invariant-loop-i
invariant-loop-i l = Written l.on (marks l.bytes) l.initial.room l.i l.at l.room
