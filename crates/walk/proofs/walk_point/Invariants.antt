-- `walk::walk_point` meets its contract: the walk has come to the entries from the index on. Assumes nothing.
use Prim.Native.Nat.{◌+◌}
use Rattle.cubes.specs.Candidates.{candidates_at}
use Rattle.bases.specs.Bases.{start}
use Rattle.walk.specs.Walk.{Reaches}
use Rattle.walk.proofs.Stand.{ahead}
use Rattle.walk.proofs.walk_point.Given as goal

abbrev pub invariant-loop-entry : goal.invariant-loop-entry
invariant-loop-entry l = Reaches l.n l.on l.free (candidates_at l.n l.d l.p) (ahead l.n l.d l.p (start l.d + l.entry-index)) l.fn.from l.initial.room l.progress l.room
