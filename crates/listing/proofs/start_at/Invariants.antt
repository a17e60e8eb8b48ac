-- `listing::start_at` meets its contract: the candidates from the place on are those from the degrees not passed yet. Assumes nothing.
use mathlib.Core.Path.{◌≡◌}
use Prim.Native.Nat.{◌-◌}
use lib.ListN.{drop}
use Rattle.cubes.specs.Candidates.{candidates_from, candidates}
use Rattle.listing.proofs.start_at.Given as goal

abbrev pub invariant-loop-degree : goal.invariant-loop-degree
invariant-loop-degree l = drop l.place (candidates l.n) ≡ drop l.skip (candidates_from l.n (l.degree - 1))
