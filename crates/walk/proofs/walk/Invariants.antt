-- `walk::walk` meets its contract: the walk has come to the degrees below the counter, of which the highest is from `first` on. Assumes nothing.
use Prim.Native.Nat.{◌^◌, ◌<◌}
use Rattle.walk.specs.Places.{from_point}
use Rattle.walk.specs.Walk.{starting, Reaches}
use Rattle.walk.proofs.Stand.{remaining}
use Rattle.walk.proofs.walk.Given as goal

abbrev pub invariant-loop-d : goal.invariant-loop-d
invariant-loop-d l = Reaches l.n l.on l.free (from_point l.n l.degree l.point) (remaining l.n l.d l.first) (record { skip = l.skip; tally = starting l.allowance }) l.initial.room l.progress l.room
    × (l.first < 2 ^ l.n)
