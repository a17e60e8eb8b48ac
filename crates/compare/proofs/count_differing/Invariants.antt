-- `compare::count_differing` meets its contract: the count so far is that of the differing points below p. Assumes nothing.
use mathlib.Core.Path.{◌≡◌}
use lib.ListN.{length}
use Rattle.gf2.specs.Finite.{select}
use Rattle.point_marks.specs.Marks.{mark_at}
use Rattle.compare.specs.Differences.{differs}
use Rattle.compare.proofs.count_differing.Given as goal

abbrev pub invariant-loop-p : goal.invariant-loop-p
invariant-loop-p l = l.count ≡ length (select (differs (mark_at l.left) (mark_at l.right)) l.p)
