-- The smallest affine space of a non-empty on set (document 01, "Points and spaces"): its least point, the reduced basis of its directions,
-- and the projection of the on points. What is claimed of the three is `Smallest`. Read next: crate `projection`.
use Rattle.std.specs.Prelude.{◌≡◌, Bool, ◌↔◌, List, [], ◌∷◌, map, ℕ, ◌^◌, ◌<◌, length}
use Rattle.gf2.specs.Bits.{◌⊕◌}
use Rattle.gf2.specs.Finite.{Mem, holds, Rising, In}
use Rattle.gf2.specs.Span.{Coset, Least, Pseudocube}
use Rattle.gf2.specs.Basis.{Reduced, reduce, inserts, canonical_places}
use Rattle.space.specs.Restriction.{project}

-- The reduced basis of the directions: the first point XOR each other point, put in one at a time.
unfoldable pub directions : List ℕ → List ℕ
directions [] = []
directions (p ∷ ps) = inserts [] (map (λ q. q ⊕ p) ps)

-- The least point of the space: one of its points, reduced by the directions.
unfoldable pub least_point : List ℕ → ℕ
least_point [] = 0
least_point (p ∷ ps) = reduce (directions (p ∷ ps)) p

-- The projection of the points: the noncanonical bits of the space dropped.
unfoldable pub projection : ℕ → List ℕ → List ℕ → List ℕ
projection n bs ps = map (project (canonical_places n bs)) ps

-- p, bs and qs are least point, reduced basis and projection of the smallest affine space of n variables that holds the points ps.
pub record Smallest (n : ℕ) (ps : List ℕ) (p : ℕ) (bs qs : List ℕ) : Type 0 where
  -- The basis is reduced, and p is the least point of the space.
  pub reduced : Reduced bs
  pub least : Least (Coset p bs) p
  -- The space is an affine space of n variables.
  pub affine : (C : ℕ → Bool) × Pseudocube n C × ((x : ℕ) → In n C x ↔ Coset p bs x)
  -- It holds the points, and lies in every affine space of n variables that holds them.
  pub has : (q : ℕ) → Mem q ps → Coset p bs q
  pub within : (C : ℕ → Bool) → Pseudocube n C → ((q : ℕ) → Mem q ps → In n C q) → (x : ℕ) → Coset p bs x → In n C x
  -- The projection rises, its points have as many variables as the space has dimensions, and of the points of the space it tells the given ones.
  pub rises : Rising qs
  pub below : (y : ℕ) → Mem y qs → y < 2 ^ length bs
  pub through : (x : ℕ) → Coset p bs x → holds qs (project (canonical_places n bs) x) ≡ holds ps x
