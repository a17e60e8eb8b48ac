-- The parity of the bits that a mask and a point have in common (document 01, "The written form"). Read next: Span.
use Rattle.std.specs.Prelude.{Bool, false, ◌&&◌, ℕ, zero, suc, ◌/◌}
use Rattle.gf2.specs.Bits.{◌⊻◌, bit}

-- An odd number of the k lowest places is set both in the mask and in the point, the places taken one by one from the lowest.
unfoldable pub odd_in : ℕ → ℕ → ℕ → Bool
odd_in zero mask point = false
odd_in (suc k) mask point = (bit 0 mask && bit 0 point) ⊻ odd_in k (mask / 2) (point / 2)

-- The number of mask bits set in the point is odd. A mask has no bit at or above the place that is its own value, so that many are enough.
unfoldable pub odd : ℕ → ℕ → Bool
odd mask point = odd_in mask mask point
