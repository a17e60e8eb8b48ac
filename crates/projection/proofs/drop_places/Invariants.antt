-- `projection::drop_places` meets its contract: the point so far, projected to the places that are clear in the rest of the mask, is the answer.
-- Assumes nothing.
use mathlib.Core.Path.{◌≡◌}
use Prim.Native.Nat.{ℕ, ◌^◌, ◌<◌}
use Rattle.space.specs.Restriction.{project}
use Rattle.projection.specs.Masks.{places_clear}
use Rattle.projection.proofs.drop_places.Given as goal

abbrev pub invariant-loop-left : goal.invariant-loop-left
invariant-loop-left l = (l.left < 2 ^ 16) × ((n : ℕ) → l.w < 2 ^ n → (l.point < 2 ^ n) × (project (places_clear n l.left) l.point ≡ project (places_clear n l.mask) l.w))

abbrev pub decreases-loop-left : goal.decreases-loop-left
decreases-loop-left l = l.left
