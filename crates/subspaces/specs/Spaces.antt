-- The spaces inside a set of vectors in their order, and the first of the largest ones (document 02, No. 4). A set is a rising list of vectors, and a
-- space is written by its reduced basis, as everywhere. Read next: crate `subspace_search`.
use Rattle.std.specs.Prelude.{◌≡◌, ◌⊎◌, List, [], ◌∷◌, ◌++◌, ℕ, zero, suc, ◌≤◌, length, ltb}
use Rattle.gf2.specs.Finite.{Mem, holds}
use Rattle.gf2.specs.Span.{Span}
use Rattle.gf2.specs.Basis.{Reduced}
use Rattle.cubes.specs.Lists.{keep}
use Rattle.cubes.specs.Candidates.{Lexicographic, bases}
use Rattle.cubes.specs.Primes.{every_point}

-- The space lies inside the set.
abbrev pub LiesIn : List ℕ → List ℕ → Type 0
LiesIn set bs = (x : ℕ) → Span bs x → Mem x set

-- The basis bs has at least as many vectors as cs, and if both have as many, it is cs or comes before it, vector by vector in rising order.
abbrev pub NoLater : List ℕ → List ℕ → Type 0
NoLater bs cs = (length cs ≤ length bs) × (length cs ≡ length bs → (bs ≡ cs) ⊎ Lexicographic bs cs)

-- The space is one of the largest dimension inside the set; of several it is the one whose reduced basis, read in rising order, comes first vector by
-- vector. There is at most one such space, which is `largest-one`.
pub record Largest (set bs : List ℕ) : Type 0 where
  pub reduced : Reduced bs
  pub inside : LiesIn set bs
  pub best : (cs : List ℕ) → Reduced cs → LiesIn set cs → NoLater bs cs

-- ---- the same by a list of all spaces

-- The spaces of d dimensions inside the set, in the order of their reduced bases: those bases of its vectors but 0 whose span lies inside.
unfoldable pub spaces_of : List ℕ → ℕ → List (List ℕ)
spaces_of set d = keep (λ bs. every_point (holds set) bs 0) (bases d (keep (ltb 0) set))

-- Those of d dimensions and less, dimension falling.
unfoldable pub spaces_from : List ℕ → ℕ → List (List ℕ)
spaces_from set zero = spaces_of set 0
spaces_from set (suc d) = spaces_of set (suc d) ++ spaces_from set d

-- The first space of a list; bs, if the list is empty.
abbrev pub first_or : List ℕ → List (List ℕ) → List ℕ
first_or bs [] = bs
first_or bs (cs ∷ l) = cs

-- The first of the largest spaces inside a set of vectors of n variables. That it is so, for a set that holds 0, is `largest-is`.
unfoldable pub largest : ℕ → List ℕ → List ℕ
largest n set = first_or [] (spaces_from set n)
