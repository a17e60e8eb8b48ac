-- The reduction equations put in for the y's of a mask, of a factor and of a product (document 01, "The written form").
-- Read next: Choice.
use Rattle.std.specs.Prelude.{cond, List, [], ◌∷◌, map, ℕ, length}
use Rattle.gf2.specs.Bits.{◌⊕◌, bit}
use Rattle.product.specs.Product.{Factor, factor}

-- The XOR of the equations of those y's that the mask has. The equations are those of y1, y2, .. in index order; y1 is the highest bit of the mask.
unfoldable pub substitute_mask : List ℕ → ℕ → ℕ
substitute_mask [] mask = 0
substitute_mask (e ∷ es) mask = cond (bit (length es) mask) e 0 ⊕ substitute_mask es mask

-- The constant of a factor is unchanged.
unfoldable pub substitute_factor : List ℕ → Factor → Factor
substitute_factor es f = factor f.constant (substitute_mask es f.mask)

unfoldable pub substitute_product : List ℕ → List Factor → List Factor
substitute_product es fs = map (substitute_factor es) fs
