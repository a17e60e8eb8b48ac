-- XOR factors, products of factors, and canonical products (document 01, "The written form"). Read next: crate `form`.
use Rattle.std.specs.Prelude.{◌≡◌, Bool, true, false, not, ◌&&◌, ◌||◌, ◌≢◌, List, [], ◌∷◌, ℕ, suc, ◌^◌, ◌≤◌, ◌<◌, eqb, ltb, leb, length, get_or}
use Rattle.std.specs.Bool.{beq}
use Rattle.gf2.specs.Bits.{bit}
use Rattle.gf2.specs.Finite.{Mem, every}
use Rattle.gf2.specs.Parity.{odd}
use Rattle.product.specs.Lowest.{lowest}

-- A factor is a constant and a mask (document 01, "The written form", kind 58).
pub record Factor : Type 0 where
  pub constant : ℕ
  pub mask : ℕ

-- The factor of a constant and a mask.
abbrev pub factor : ℕ → ℕ → Factor
factor constant mask = record { constant = constant; mask = mask }

-- A factor is true when the number of mask bits set in the point is odd for constant 1, even for constant 0.
unfoldable pub factor_at : Factor → ℕ → Bool
factor_at f w = beq (odd f.mask w) (eqb f.constant 1)

-- A product is true when all its factors are; a product without factors is true everywhere.
unfoldable pub product_at : List Factor → ℕ → Bool
product_at fs w = every (λ f. factor_at f w) fs

-- A form is true when some product of it is; a form without products is true nowhere.
unfoldable pub some_product_at : List (List Factor) → ℕ → Bool
some_product_at [] w = false
some_product_at (p ∷ ps) w = product_at p w || some_product_at ps w

-- A factor of n variables: the constant is 0 or 1, the mask 1 to 2 ^ n - 1.
pub record Fits (n : ℕ) (f : Factor) : Type 0 where
  pub binary : f.constant ≤ 1
  pub some : 1 ≤ f.mask
  pub below : f.mask < 2 ^ n

-- The same as a test. That it is the same is `fits-is`.
unfoldable pub fits : ℕ → Factor → Bool
fits n f = leb f.constant 1 && (leb 1 f.mask && ltb f.mask (2 ^ n))

-- A product of n variables: all its factors are.
abbrev pub AllFit : ℕ → List Factor → Type 0
AllFit n fs = (f : Factor) → Mem f fs → Fits n f

-- The mask of the factor at a place of a product, the first at place 0.
abbrev pub mask_at : List Factor → ℕ → ℕ
mask_at fs i = (get_or fs i (factor 0 0)).mask

-- A product is canonical when the lowest bit of each mask occurs in no other mask of that product and these lowest bits fall from factor
-- to factor (document 01, "The written form").
pub record Canonical (fs : List Factor) : Type 0 where
  pub alone : (i j : ℕ) → i < length fs → j < length fs → i ≢ j → bit (lowest (mask_at fs i)) (mask_at fs j) ≡ false
  pub falls : (i : ℕ) → suc i < length fs → lowest (mask_at fs (suc i)) < lowest (mask_at fs i)

-- The masks of two factors of a canonical product, the first before the second: the lowest bit of the second is below that of the first, and
-- neither lowest bit is set in the other mask.
pub record LowestApart (first second : ℕ) : Type 0 where
  pub falls : lowest second < lowest first
  pub later : bit (lowest first) second ≡ false
  pub earlier : bit (lowest second) first ≡ false

-- The same as a test. That it is the same is `apart-is`.
unfoldable pub apart_masks : ℕ → ℕ → Bool
apart_masks first second = ltb (lowest second) (lowest first) && (not (bit (lowest first) second) && not (bit (lowest second) first))

-- f stands before g in a canonical product.
unfoldable pub apart : Factor → Factor → Bool
apart f g = apart_masks f.mask g.mask

-- A product is canonical, as a test: each factor is apart from all that follow. That it is the same is `canonical-is`.
unfoldable pub canonical : List Factor → Bool
canonical [] = true
canonical (f ∷ fs) = every (apart f) fs && canonical fs

-- The next factor g agrees with those before it: each of them is apart from g. That a product is read so from the left is `canonical-next`.
unfoldable pub agrees : List Factor → Factor → Bool
agrees fs g = every (λ f. apart f g) fs
