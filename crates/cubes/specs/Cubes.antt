-- Pseudocubes by least point and reduced basis (document 01, "Primes"). What a pseudocube is, as a set, is gf2's `Pseudocube`.
-- Read next: Candidates.
use Rattle.std.specs.Prelude.{◌≡◌, Bool, ◌↔◌, List, ℕ, ◌^◌, ◌<◌, length, eqb}
use Rattle.gf2.specs.Bits.{◌⊕◌}
use Rattle.gf2.specs.Finite.{Mem, select, In}
use Rattle.gf2.specs.Span.{Coset, Least}
use Rattle.gf2.specs.Basis.{Reduced, reduce}

-- Two sets have the same points of n variables; the first lies in the second.
abbrev pub SameSet : ℕ → (ℕ → Bool) → (ℕ → Bool) → Type 0
SameSet n C D = (x : ℕ) → In n C x ↔ In n D x

abbrev pub Within : ℕ → (ℕ → Bool) → (ℕ → Bool) → Type 0
Within n C D = (x : ℕ) → In n C x → In n D x

-- The number of points of n variables in a set.
abbrev pub size : ℕ → (ℕ → Bool) → ℕ
size n C = length (select C (2 ^ n))

-- The degree of a pseudocube is the logarithm to base 2 of its size.
abbrev pub Degree : ℕ → (ℕ → Bool) → ℕ → Type 0
Degree n C d = size n C ≡ 2 ^ d

-- A pseudocube as it is written: its least point, and the reduced basis of its directions.
pub record Candidate : Type 0 where
  pub point : ℕ
  pub vectors : List ℕ

abbrev pub candidate : ℕ → List ℕ → Candidate
candidate p bs = record { point = p; vectors = bs }

-- The degree of what is written: the number of its vectors. That it is the logarithm of the size is `candidate-size`.
abbrev pub degree : Candidate → ℕ
degree c = length c.vectors

-- v is in the span of a reduced basis, as a test. That it is so is `spans-is`.
unfoldable pub spans : List ℕ → ℕ → Bool
spans bs v = eqb (reduce bs v) 0

-- The set of points that is written so: the least point XOR each vector of the span.
unfoldable pub points_of : Candidate → ℕ → Bool
points_of c x = spans c.vectors (x ⊕ c.point)

-- What is written is a pseudocube of n variables, by its least point and its reduced basis.
pub record IsCandidate (n : ℕ) (c : Candidate) : Type 0 where
  pub reduced : Reduced c.vectors
  pub least : Least (Coset c.point c.vectors) c.point
  pub below : (x : ℕ) → Coset c.point c.vectors x → x < 2 ^ n

-- One candidate of the list has the points of the set, and no other does.
pub record Only (n : ℕ) (C : ℕ → Bool) (l : List Candidate) : Type 0 where
  pub which : Candidate
  pub listed : Mem which l
  pub same : SameSet n C (points_of which)
  pub alone : (c : Candidate) → Mem c l → SameSet n C (points_of c) → c ≡ which
