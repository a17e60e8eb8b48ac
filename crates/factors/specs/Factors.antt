-- A product by value (document 01, "The written form"): the constants and the masks of its factors. Read next: crate `writing`.
use Rattle.std.specs.Prelude.{◌≡◌, ℕ, ◌≤◌}
use mathlib.Core.List.{List, map, zip_with}
use Rattle.gf2.specs.Finite.{Mem}
use Rattle.basis.specs.Short.{listed, short}
use Rattle.product.specs.Product.{Factor, factor}
use Rattle.cover.specs.CanonicalProduct.{constant_at}
use Rattle.cover.specs.Substitution.{substitute_mask}
use Rattle.factors.specs.declared.FactorList.{FactorList}

-- The constants and the masks of factors, in form order.
abbrev pub constants_of : List Factor → List ℕ
constants_of fs = map (λ f. f.constant) fs

abbrev pub masks_of : List Factor → List ℕ
masks_of fs = map (λ f. f.mask) fs

-- The value that stands for a product.
abbrev pub factors_of : List Factor → FactorList
factors_of fs = record { constants = short (constants_of fs); masks = short (masks_of fs) }

-- The product that a value stands for: its constants and its masks stand side by side.
abbrev pub product_in : FactorList → List Factor
product_in r = zip_with factor (listed r.constants) (listed r.masks)

-- A value that is a product: nothing else is in it, and its constants are 0 or 1.
pub record IsProduct (r : FactorList) : Type 0 where
  pub packed : r ≡ factors_of (product_in r)
  pub binary : (f : Factor) → Mem f (product_in r) → f.constant ≤ 1

-- The factors that masks in the y's have at a point, with the equations put in. That they are those of the canonical product, where the masks
-- and the point are a candidate's, is `factors-product`.
abbrev pub factors_at : List ℕ → List ℕ → ℕ → FactorList
factors_at es masks point = record { constants = short (map (λ mask. constant_at mask point) masks); masks = short (map (substitute_mask es) masks) }
