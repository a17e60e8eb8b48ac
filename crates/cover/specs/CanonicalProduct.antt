-- The canonical product of a pseudocube that is written as least point and reduced basis (document 01, "The written form"). That it is
-- canonical and true exactly at the points of the pseudocube is `product-canonical` and `product-points`; so it is the only one. Read next: Substitution.
use Rattle.std.specs.Prelude.{cond, List, map, ℕ}
use Rattle.gf2.specs.Parity.{odd}
use Rattle.gf2.specs.Basis.{noncanonical_places}
use Rattle.space.specs.Restriction.{equation}
use Rattle.product.specs.Product.{Factor, factor}
use Rattle.cubes.specs.Cubes.{Candidate}

-- The constant of the factor that a mask has at a point: 1 where the number of mask bits set in the point is odd, 0 where it is even.
abbrev pub constant_at : ℕ → ℕ → ℕ
constant_at mask point = cond (odd mask point) 1 0

-- The factor of the noncanonical variable at place k: its mask is that variable and the leads of the vectors that have it set, its constant
-- the parity of the mask at the least point.
unfoldable pub place_factor : Candidate → ℕ → Factor
place_factor c k = factor (constant_at (equation c.vectors k) c.point) (equation c.vectors k)

-- The canonical product of a pseudocube of m variables: one factor for each noncanonical variable in index order.
unfoldable pub canonical_product : ℕ → Candidate → List Factor
canonical_product m c = map (place_factor c) (noncanonical_places m c.vectors)
