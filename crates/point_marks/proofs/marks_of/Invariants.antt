-- `point_marks::marks_of` meets its contract. The loop's invariant: the records from place i on are what is left to be put in. Assumes nothing.
use mathlib.Core.Path.{◌≡◌}
use lib.ListN.{length, drop, replicate}
use Rattle.table.specs.Flags.{max_points}
use Rattle.stored.specs.Marks.{marks}
use Rattle.point_marks.specs.Marks.{off_mark}
use Rattle.point_marks.proofs.Marks.{put_marks}
use Rattle.point_marks.proofs.marks_of.Given as goal

abbrev pub invariant-loop-i : goal.invariant-loop-i
invariant-loop-i l = (length l.marks ≡ max_points) × (put_marks (drop l.i (marks l.bytes)) l.marks ≡ put_marks (marks l.bytes) (replicate max_points off_mark))
