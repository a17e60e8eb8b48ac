-- `closure_set::closure_set` meets its contract: the vectors are left that take the on points passed to allowed ones. Assumes nothing.
use mathlib.Core.Path.{◌≡◌}
use Prim.Native.Nat.{ℕ, ◌<◌}
use lib.ListN.{take}
use Rattle.gf2.specs.Bits.{◌⊕◌}
use Rattle.gf2.specs.Finite.{every}
use Rattle.point_sets.specs.Sets.{set_size, member}
use Rattle.closure_set.proofs.closure_set.Given as goal

abbrev pub invariant-loop-w : goal.invariant-loop-w
invariant-loop-w l = (a : ℕ) → a < set_size → member l.closure a ≡ every (λ w. member l.allowed (w ⊕ a)) (take l.w-index l.on)
