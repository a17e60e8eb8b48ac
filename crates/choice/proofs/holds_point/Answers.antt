-- `choice::holds_point` meets its contract: a point is in the coset exactly if what is left of the sum is 0. Assumes nothing.
use mathlib.Core.Path.{ap}
use Prim.Native.Nat.{ℕ}
use lib.Dec.{eqb}
use Rattle.cubes.specs.Cubes.{spans, points_of}
use Rattle.choice.proofs.holds_point.Goals as goal

pub returns : goal.returns
unfolding points_of spans
returns c = ap (λ (z : ℕ). eqb z 0) c.least_point.ensures
