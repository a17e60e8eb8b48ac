-- `closure_set::spread_points` meets its contract: the vectors not passed yet are what is left to be spread over. Assumes nothing.
use mathlib.Core.Path.{◌≡◌}
use Prim.Native.Nat.{ℕ}
use lib.ListN.{drop}
use Rattle.point_sets.specs.Sets.{member}
use Rattle.cubes.specs.Primes.{some_point}
use Rattle.closure_set.specs.ClosureSet.{spread}
use Rattle.closure_set.proofs.spread_points.Given as goal

abbrev pub invariant-loop-b : goal.invariant-loop-b
invariant-loop-b l = (w : ℕ) → some_point (member l.points) (drop l.b-index l.b-items) w ≡ spread l.on l.b-items w
