-- `point_sets::set_of` meets its contract: the points not passed yet are what is left to be put in. Assumes nothing.
use mathlib.Core.Path.{◌≡◌}
use mathlib.Core.Bool.{◌||◌}
use Prim.Native.Nat.{ℕ}
use lib.ListN.{length, drop}
use Rattle.gf2.specs.Finite.{holds}
use Rattle.point_sets.specs.Sets.{member}
use Rattle.point_sets.proofs.set_of.Given as goal

abbrev pub invariant-loop-p : goal.invariant-loop-p
invariant-loop-p l = record {
  four : length l.set ≡ 4;
  rest : (x : ℕ) → member l.set x || holds (drop l.p-index l.points) x ≡ holds l.points x;
}
