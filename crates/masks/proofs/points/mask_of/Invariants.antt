-- `masks::points::mask_of` meets its contract: the points from the index on are what is left to be put in. Assumes nothing.
use mathlib.Core.Path.{◌≡◌}
use mathlib.Core.Bool.{◌||◌}
use Prim.Native.Nat.{ℕ}
use lib.ListN.{drop}
use Rattle.gf2.specs.Bits.{bit}
use Rattle.gf2.specs.Finite.{holds}
use Rattle.masks.proofs.points.mask_of.Given as goal

abbrev pub invariant-loop-point : goal.invariant-loop-point
invariant-loop-point l = (x : ℕ) → bit x l.mask || holds (drop l.point-index l.points) x ≡ holds l.points x
