-- `walk::walk_degree` meets its contract: the walk has come to the points from the counter on. Assumes nothing.
use Rattle.walk.specs.Places.{of_degree_from}
use Rattle.walk.specs.Walk.{Reaches}
use Rattle.walk.proofs.walk_degree.Given as goal

abbrev pub invariant-loop-p : goal.invariant-loop-p
invariant-loop-p l = Reaches l.n l.on l.free (of_degree_from l.n l.d l.point) (of_degree_from l.n l.d l.p) l.fn.from l.initial.room l.progress l.room
