-- The candidates of n variables in their order (document 01, "Primes"). Read next: Primes.
use Rattle.std.specs.Prelude.{◌≡◌, Bool, true, not, ◌&&◌, ◌⊎◌, ℕ, zero, suc, ◌^◌, ◌<◌, length, ltb, eqb}
use mathlib.Core.List.{List, [], ◌∷◌, ◌++◌, map, flat_map}
use Rattle.gf2.specs.Bits.{has_lead}
use Rattle.gf2.specs.Finite.{Mem, Ordered, select}
use Rattle.gf2.specs.Span.{Pseudocube}
use Rattle.gf2.specs.Basis.{reduce}
use Rattle.cubes.specs.Lists.{keep}
use Rattle.cubes.specs.Cubes.{Candidate, candidate, degree, IsCandidate, Only}

-- ---- the order

-- Lists of vectors compared vector by vector, the first ones first.
abbrev pub Lexicographic : List ℕ → List ℕ → Type 0
Lexicographic [] cs = ⊥
Lexicographic (b ∷ bs) [] = ⊥
Lexicographic (b ∷ bs) (c ∷ cs) = (b < c) ⊎ ((b ≡ c) × Lexicographic bs cs)

-- Least point rising, then reduced basis compared vector by vector in rising order.
abbrev pub Earlier : Candidate → Candidate → Type 0
Earlier a b = (a.point < b.point) ⊎ ((a.point ≡ b.point) × Lexicographic a.vectors b.vectors)

-- Degree falling, then least point rising, then reduced basis.
abbrev pub Before : Candidate → Candidate → Type 0
Before a b = (degree b < degree a) ⊎ ((degree a ≡ degree b) × Earlier a b)

-- The list of candidates of n variables: all pseudocubes, each once and by its least point and its reduced basis, in their order.
-- That `candidates n` is such a list, and the only one, is `candidates-listing` and `candidates-only`.
pub record Candidates (n : ℕ) (l : List Candidate) : Type 0 where
  pub each : (c : Candidate) → Mem c l → IsCandidate n c
  pub all : (C : ℕ → Bool) → Pseudocube n C → Only n C l
  pub order : Ordered Before l

-- ---- the list

-- The vectors of a list that may follow b in a reduced basis: those above b that have not its lead bit.
abbrev pub following : ℕ → List ℕ → List ℕ
following b l = keep (λ c. ltb b c && not (has_lead b c)) l

-- The reduced bases of d vectors of a rising list, in their order: a first vector b, then a basis of one vector less of those that may follow b.
unfoldable pub bases : ℕ → List ℕ → List (List ℕ)
bases zero l = [] ∷ []
bases (suc d) l = flat_map (λ b. map (λ bs. b ∷ bs) (bases d (following b l))) l

-- The points of n variables, and the vectors of n variables but 0, rising.
abbrev pub points : ℕ → List ℕ
points n = select (λ p. true) (2 ^ n)

abbrev pub vectors : ℕ → List ℕ
vectors n = select (λ v. ltb 0 v) (2 ^ n)

-- The candidates of degree d with least point p: the bases that do not reduce p.
abbrev pub candidates_at : ℕ → ℕ → ℕ → List Candidate
candidates_at n d p = map (candidate p) (keep (λ bs. eqb (reduce bs p) p) (bases d (vectors n)))

-- The candidates of degree d.
unfoldable pub candidates_of : ℕ → ℕ → List Candidate
candidates_of n d = flat_map (candidates_at n d) (points n)

-- The candidates of degree d and less, degree falling.
unfoldable pub candidates_from : ℕ → ℕ → List Candidate
candidates_from n zero = candidates_of n 0
candidates_from n (suc d) = candidates_of n (suc d) ++ candidates_from n d

-- The candidates of n variables. With no variables there is one, the point 0.
unfoldable pub candidates : ℕ → List Candidate
candidates n = candidates_from n n

-- The number of candidates: 3, 11, 51, 307, 2,451 and 26,387 for n = 1 to 6, and 1 for n = 0.
abbrev pub candidate_count : ℕ → ℕ
candidate_count n = length (candidates n)
