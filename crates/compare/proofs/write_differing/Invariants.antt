-- `compare::write_differing` meets its contract: one law for each way through a turn, over what is passed so far. Assumes nothing.
use Prim.Native.Nat.{◌≤◌}
use Rattle.point_marks.specs.Marks.{mark_at}
use Rattle.compare.proofs.Writing.{Passed}
use Rattle.compare.proofs.write_differing.Given as goal

abbrev pub invariant-loop-p : goal.invariant-loop-p
invariant-loop-p l = (l.records ≤ l.fit) × Passed (mark_at l.left) (mark_at l.right) l.first l.initial.room l.p l.records l.room
