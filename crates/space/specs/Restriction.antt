-- The reduction equations of a reduced basis and the restriction of a function (document 01, "Points and spaces"). Read next: Affine.
use Rattle.std.specs.Prelude.{Bool, true, not, cond, ◌&&◌, List, [], ◌∷◌, map, ℕ, ◌+◌, ◌^◌, length}
use Rattle.gf2.specs.Bits.{◌⊕◌, bit, lead, has_lead}
use Rattle.gf2.specs.Finite.{select}
use Rattle.gf2.specs.Parity.{odd}
use Rattle.gf2.specs.Basis.{noncanonical_places}

-- The mask of the equation of the variable at place k: that variable XOR the canonical variables whose basis vector has it set.
unfoldable pub equation : List ℕ → ℕ → ℕ
equation [] k = 2 ^ k
equation (b ∷ bs) k = cond (bit k b) (2 ^ lead b) 0 ⊕ equation bs k

-- The reduction equations y1 .. y(n-k): one for each noncanonical variable in index order.
unfoldable pub equations : ℕ → List ℕ → List ℕ
equations n bs = map (equation bs) (noncanonical_places n bs)

-- The number with the given bits, the highest first.
unfoldable pub number : List Bool → ℕ
number [] = 0
number (t ∷ ts) = cond t (2 ^ length ts) 0 + number ts

-- The point w with only the bits at the given places kept, in the order of the places.
unfoldable pub project : List ℕ → ℕ → ℕ
project ks w = number (map (λ k. bit k w) ks)

-- The values of y1, y2, .. at the point w as one point, y1 its highest bit: each the XOR of the variables of its mask.
unfoldable pub values : List ℕ → ℕ → ℕ
values ms w = number (map (λ m. odd m w) ms)

-- All canonical variables of the point w are 0.
unfoldable pub clean : List ℕ → ℕ → Bool
clean [] w = true
clean (b ∷ bs) w = not (has_lead b w) && clean bs w

-- The restriction: the points of the function with all canonical variables 0, those bits dropped, order of the others kept.
unfoldable pub restriction : ℕ → List ℕ → (ℕ → Bool) → List ℕ
restriction n bs f = map (project (noncanonical_places n bs)) (select (λ w. f w && clean bs w) (2 ^ n))
