-- An entry of the table of bases as a candidate. Read next: crate `masks`.
use Rattle.std.specs.Prelude.{◌≡◌, true, ℕ, ◌^◌, ◌≤◌, ◌<◌}
use Rattle.gf2.specs.Finite.{Mem}
use Rattle.cubes.specs.Cubes.{Candidate, candidate}
use Rattle.cubes.specs.Records.{max_listed}
use Rattle.bases.specs.Bases.{entries_of, vectors_of, takes_point}

-- The candidate that an entry of d vectors is with the point p.
abbrev pub candidate_at : ℕ → ℕ → ℕ → Candidate
candidate_at d p e = candidate p (vectors_of d e)

-- The entry is one of d vectors of n variables, and p is a least point of it.
pub record EntryAt (n d p e : ℕ) : Type 0 where
  pub few : n ≤ max_listed
  pub short : d ≤ n
  pub point : p < 2 ^ n
  pub listed : Mem e (entries_of d)
  pub taken : takes_point n p e ≡ true
