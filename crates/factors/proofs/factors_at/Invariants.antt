-- `factors::factors_at` meets its contract: the constants and the masks written are those of the masks passed. Assumes nothing.
use mathlib.Core.Path.{◌≡◌}
use mathlib.Core.List.{map}
use Prim.Native.Nat.{ℕ}
use lib.ListN.{take}
use Rattle.basis.specs.Short.{listed, short}
use Rattle.cover.specs.CanonicalProduct.{constant_at}
use Rattle.cover.specs.Substitution.{substitute_mask}
use Rattle.factors.proofs.factors_at.Given as goal

abbrev pub invariant-loop-mask : goal.invariant-loop-mask
invariant-loop-mask l = (l.constants ≡ short (map (λ (mask : ℕ). constant_at mask l.point) (take l.mask-index (listed l.fn.masks))))
    × (l.written ≡ short (map (substitute_mask (listed l.equations)) (take l.mask-index (listed l.fn.masks))))
