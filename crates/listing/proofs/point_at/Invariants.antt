-- `listing::point_at` meets its contract: the candidates from the place on are those from the points not passed yet. Assumes nothing.
use mathlib.Core.Path.{◌≡◌}
use lib.ListN.{drop}
use Rattle.cubes.specs.Candidates.{candidates_from}
use Rattle.walk.specs.Places.{from_point}
use Rattle.listing.proofs.point_at.Given as goal

abbrev pub invariant-loop-point : goal.invariant-loop-point
invariant-loop-point l = drop l.skip (candidates_from l.n l.degree) ≡ drop l.left (from_point l.n l.degree l.point)
