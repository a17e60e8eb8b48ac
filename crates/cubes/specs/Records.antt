-- The records of a listing (document 01, "Primes", and document 02, No. 6): a candidate in eight bytes, and then the number of on points in it.
-- `on` tells the on points. Read next: Listing.
use Rattle.std.specs.Prelude.{Bool, ◌&&◌, List, [], ◌∷◌, ◌++◌, ℕ, ◌+◌, ◌-◌, get_or, take, drop, replicate}
use Rattle.cubes.specs.Cubes.{Candidate, candidate, degree, points_of, size}

-- The largest number of variables of a listing (document 01, "Refusal numbers", 5).
abbrev pub max_listed : ℕ
max_listed = 6

-- The number of bytes in which document 01 writes a candidate.
abbrev pub candidate_length : ℕ
candidate_length = 8

-- The number of bytes of a record.
abbrev pub record_length : ℕ
record_length = 9

-- A candidate in bytes: degree, least point, then the basis vectors in rising order, unused bytes 0.
unfoldable pub candidate_bytes : Candidate → List ℕ
candidate_bytes c = degree c ∷ c.point ∷ c.vectors ++ replicate (candidate_length - (2 + degree c)) 0

-- The number of on points in a candidate. Free points don't count.
unfoldable pub on_count : ℕ → (ℕ → Bool) → Candidate → ℕ
on_count n on c = size n (λ x. points_of c x && on x)

-- A record: the bytes of the candidate, then the number of on points in it.
unfoldable pub record_of : ℕ → (ℕ → Bool) → Candidate → List ℕ
record_of n on c = candidate_bytes c ++ (on_count n on c ∷ [])

-- The candidate that the bytes of a record tell. That it is the one they were written for is `record-told`.
abbrev pub candidate_told : List ℕ → Candidate
candidate_told bytes = candidate (get_or bytes 1 0) (take (get_or bytes 0 0) (drop 2 bytes))
