-- The choice of primes for a complete function that is given by its on points (document 01, "The written form"). It is apart from the writing:
-- document 02, No. 11 replaces `chosen` and nothing else. Read next: WrittenForm.
use Rattle.std.specs.Prelude.{◌≡◌, Bool, true, false, cond, ◌||◌, List, [], ◌∷◌, ◌++◌, ℕ}
use Rattle.gf2.specs.Finite.{Mem, holds}
use Rattle.cubes.specs.Lists.{keep}
use Rattle.cubes.specs.Cubes.{Candidate, points_of}
use Rattle.cubes.specs.Candidates.{candidates}
use Rattle.cubes.specs.Primes.{is_prime}

-- The primes of a complete function of m variables in listing order: its on points are given, and no point is free.
unfoldable pub primes_of : ℕ → List ℕ → List Candidate
primes_of m on = keep (is_prime m (holds on) (holds [])) (candidates m)

-- The point is covered: one of the candidates taken holds it.
unfoldable pub covered : List Candidate → ℕ → Bool
covered [] x = false
covered (c ∷ taken) x = points_of c x || covered taken x

-- c is the first of the list that holds the point x.
pub record FirstHolding (l : List Candidate) (x : ℕ) (c : Candidate) : Type 0 where
  pub before : List Candidate
  pub after : List Candidate
  pub order : l ≡ before ++ (c ∷ after)
  pub passed : (d : Candidate) → Mem d before → points_of d x ≡ false
  pub held : points_of c x ≡ true

-- The first of the list that holds the point, as a list of one; no candidate where none holds it. That it is the first is `first-is`.
unfoldable pub first_holding : List Candidate → ℕ → List Candidate
first_holding [] x = []
first_holding (c ∷ cs) x = cond (points_of c x) (c ∷ []) (first_holding cs x)

-- What is taken for the point x: where it isn't covered, the first prime that holds it.
unfoldable pub taken_for : List Candidate → List Candidate → ℕ → List Candidate
taken_for primes taken x = cond (covered taken x) [] (first_holding primes x)

-- What is taken when the points have been gone through, in the order taken: before them, `taken` was.
unfoldable pub taken_through : List Candidate → List Candidate → List ℕ → List Candidate
taken_through primes taken [] = taken
taken_through primes taken (x ∷ xs) = taken_through primes (taken ++ taken_for primes taken x) xs

-- The primes chosen for a complete function of m variables: go through its on points in rising order; for each that isn't covered, take the
-- first prime in listing order that holds it.
unfoldable pub chosen : ℕ → List ℕ → List Candidate
chosen m on = taken_through (primes_of m on) [] on
