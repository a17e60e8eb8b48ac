-- `projection::drop_place` meets its contract: half the point at the place and above, and the point below it. Assumes nothing.
use mathlib.Core.Path.{◌≡◌}
use Prim.Native.Nat.{ℕ, ◌+◌, ◌*◌, ◌/◌, ◌%◌, ◌^◌, ◌<◌}
use native.Mathlib.Nat.{div-mul-le_self, mod-eq_of_lt}
use native.Mathlib.Omega.{arith}
use Rattle.gf2.proofs.Xor.{shifted_one}
use Rattle.projection.specs.Masks.{drop_place}
use Rattle.projection.proofs.drop_place.Goals as goal

-- Nothing is lost in 16 bits.
computed : (place w : ℕ) → place < 16 → w < 2 ^ 16 → w / 2 / 2 ^ place * 2 ^ place % 2 ^ 16 + w % (1 * 2 ^ place % 2 ^ 16) ≡ drop_place place w
unfolding drop_place
computed place w p h =
    let whole : w / 2 / 2 ^ place * 2 ^ place < 2 ^ 16 = omega (arith, div-mul-le_self (w / 2) (2 ^ place)) in
    rw (shifted_one place 16 p, mod-eq_of_lt whole)

pub returns : goal.returns
returns c = computed c.args.place c.args.w c.requires c.ranges.w.fits
