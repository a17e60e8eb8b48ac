-- The candidates from a least point on; and places in the table of bases: the entries from a place on.
-- Read next: Walk.
use Rattle.std.specs.Prelude.{ℕ, zero, suc, drop}
use mathlib.Core.List.{List, [], ◌++◌, map, flat_map}
use Rattle.std.proofs.Math.Seq.{slice}
use Rattle.cubes.specs.Lists.{keep}
use Rattle.cubes.specs.Cubes.{Candidate}
use Rattle.cubes.specs.Candidates.{points, candidates_at, candidates_from}
use Rattle.bases.specs.Entries.{entries}
use Rattle.bases.specs.Bases.{stop, takes_point}
use Rattle.bases.specs.Entry.{candidate_at}

-- The candidates of less than degree d.
unfoldable pub lower_degrees : ℕ → ℕ → List Candidate
lower_degrees n zero = []
lower_degrees n (suc d) = candidates_from n d

-- The candidates of degree d whose least point is p or a later one; and those with all of less than degree d behind them.
unfoldable pub of_degree_from : ℕ → ℕ → ℕ → List Candidate
of_degree_from n d p = flat_map (candidates_at n d) (drop p (points n))

unfoldable pub from_point : ℕ → ℕ → ℕ → List Candidate
from_point n d p = flat_map (candidates_at n d) (drop p (points n)) ++ lower_degrees n d

-- The entries of d vectors from place i on that are taken with the point p.
abbrev pub taken_from : ℕ → ℕ → ℕ → ℕ → List ℕ
taken_from n d p i = keep (takes_point n p) (slice i (stop d) entries)

-- Their candidates, with some others behind them.
abbrev pub placed : ℕ → ℕ → ℕ → ℕ → List Candidate → List Candidate
placed n d p i rest = map (candidate_at d p) (taken_from n d p i) ++ rest
