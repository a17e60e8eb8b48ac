-- The add-and-subtract transform of numbers, one to a point of n variables, by its defining sum, and the correlation under XOR (document 02, No. 7).
-- Read next: Numbers.
use Rattle.std.specs.Prelude.{ℕ, ◌^◌, ℤ, ◌*ℤ◌}
use Rattle.gf2.specs.Bits.{◌⊕◌}
use Rattle.gf2.specs.Parity.{odd}
use Rattle.walsh.specs.Sums.{negated_if, total}

-- The transformed number at u: the sum of the numbers at all points, each negated where the point has an odd number of u's bits.
unfoldable pub walsh : ℕ → (ℕ → ℤ) → ℕ → ℤ
walsh n g u = total (λ w. negated_if (odd u w) (g w)) (2 ^ n)

-- The correlation of g and h at the vector a: the sum over all points w of g at w times h at w XOR a.
unfoldable pub correlation : ℕ → (ℕ → ℤ) → (ℕ → ℤ) → ℕ → ℤ
correlation n g h a = total (λ w. g w *ℤ h (w ⊕ a)) (2 ^ n)
