-- The lowest set bit of a mask, which is the variable of the highest index in it (document 01, "The written form"). Read next: Product.
use Rattle.std.specs.Prelude.{◌≡◌, true, false, ℕ, zero, suc, ◌/◌, ◌<◌}
use Rattle.gf2.specs.Bits.{bit}

-- k is the place of the lowest set bit of m.
pub record Lowest (k m : ℕ) : Type 0 where
  pub set : bit k m ≡ true
  pub below : (j : ℕ) → j < k → bit j m ≡ false

-- How often m can be halved before it is odd, at most k times.
unfoldable pub even_halvings : ℕ → ℕ → ℕ
even_halvings zero m = 0
even_halvings (suc k) m = elim (bit 0 m) [ true ↦ 0 | false ↦ suc (even_halvings k (m / 2)) ]

-- The place of the lowest set bit of a mask that is not 0. That it is so is `lowest-is`.
unfoldable pub lowest : ℕ → ℕ
lowest m = even_halvings m m
