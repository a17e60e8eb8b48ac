-- `pla::write_marks` meets its contract. The loop's invariant: the records of the points passed are written. Assumes nothing.
use mathlib.Core.Path.{◌≡◌}
use Prim.Native.Nat.{◌+◌}
use lib.ListN.{length}
use lib.Seq.{sets}
use Rattle.stored.specs.Layout.{first_point}
use Rattle.stored.specs.Encoding.{encode_marks}
use Rattle.pla.specs.Table.{marks_below, flag_on, flag_free}
use Rattle.pla.proofs.write_marks.Given as goal

abbrev pub invariant-loop-point : goal.invariant-loop-point
invariant-loop-point l =
    (l.at ≡ first_point + length (encode_marks (marks_below (flag_on l.flags) (flag_free l.kind l.flags) l.point)))
    × (l.room ≡ sets l.initial.room first_point (encode_marks (marks_below (flag_on l.flags) (flag_free l.kind l.flags) l.point)))
