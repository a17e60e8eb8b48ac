-- Where a listing starts in the list of candidates (document 01, "Primes"). Read next: Answers.
use Rattle.std.specs.Prelude.{◌≡◌, ℕ, ◌^◌, ◌≤◌, ◌<◌, drop}
use Rattle.cubes.specs.Candidates.{candidates_from, candidates}
use Rattle.walk.specs.Places.{from_point}
use Rattle.listing.specs.declared.Start.{Start}
use Rattle.listing.specs.declared.FirstPoint.{FirstPoint}

-- Where a listing starts: the candidates from the place on are those of a degree and less, without the first few.
pub record StartsAt (n place : ℕ) (s : Start) : Type 0 where
  pub short : s.degree ≤ n
  pub same : drop place (candidates n) ≡ drop s.skip (candidates_from n s.degree)

-- And in that degree: they are those from a least point on, without the first few.
pub record PointAt (n degree skip : ℕ) (r : FirstPoint) : Type 0 where
  pub below : r.point < 2 ^ n
  pub same : drop skip (candidates_from n degree) ≡ drop r.skip (from_point n degree r.point)
