-- Document 01's examples P1, P3 and P5 as points of forms, and products of two factors that are canonical or not, computed.
use mathlib.Core.Path.{◌≡◌, refl}
use mathlib.Core.Bool.{Bool, true, false}
use mathlib.Core.List.{List, [], ◌∷◌}
use Prim.Native.Nat.{ℕ, ◌^◌}
use Rattle.gf2.specs.Bits.{bit}
use Rattle.gf2.specs.Finite.{select}
use Rattle.gf2.specs.Parity.{odd_in, odd}
use Rattle.product.specs.Lowest.{even_halvings, lowest}
use Rattle.product.specs.Product.{Factor, factor, factor_at, product_at, some_product_at, apart_masks, apart, canonical}

-- The points of a form of n variables, rising.
abbrev points : ℕ → List (List Factor) → List ℕ
points n ps = select (some_product_at ps) (2 ^ n)

-- Two factors of the given masks, in this order, are canonical.
abbrev pair : ℕ → ℕ → Bool
pair first second = canonical (factor 0 first ∷ factor 0 second ∷ [])

pub record Examples : Type 0 where
  -- A form without products, and a product without factors.
  pub p1 : points 1 [] ≡ []
  pub p3 : points 1 ([] ∷ []) ≡ 0 ∷ 1 ∷ []
  -- x2 = 1, or x1 + x2 = 1 and x1 + x3 + x4 = 0.
  pub p5 : points 4 ((factor 1 4 ∷ []) ∷ (factor 1 12 ∷ factor 0 11 ∷ []) ∷ []) ≡ 4 ∷ 5 ∷ 6 ∷ 7 ∷ 9 ∷ 10 ∷ 12 ∷ 13 ∷ 14 ∷ 15 ∷ []
  pub p5-masks : pair 12 11 ≡ true
  -- Lowest bits that fall.
  pub falling : pair 8 6 ≡ true
  -- Lowest bits that rise; that stay; that occur in the later mask.
  pub rising : pair 4 8 ≡ false
  pub equal : pair 12 4 ≡ false
  pub shared : pair 8 10 ≡ false

pub examples : Examples
unfolding bit select odd_in odd even_halvings lowest factor_at product_at some_product_at apart_masks apart canonical
examples = record { p1 = refl; p3 = refl; p5 = refl; p5-masks = refl; falling = refl; rising = refl; equal = refl; shared = refl }
