-- `choice::first_holding` meets its contract: no prime of a greater degree holds the point. Assumes nothing.
use mathlib.Core.Path.{◌≡◌}
use Rattle.cubes.specs.Lists.{keep}
use Rattle.cubes.specs.Candidates.{candidates}
use Rattle.masks.specs.Points.{prime_by}
use Rattle.cover.specs.Choice.{first_holding}
use Rattle.choice.proofs.First.{lower}
use Rattle.choice.proofs.first_holding.Given as goal

abbrev pub invariant-loop-d : goal.invariant-loop-d
invariant-loop-d l = first_holding (keep (prime_by l.m l.on 0) (lower l.m l.d)) l.x ≡ first_holding (keep (prime_by l.m l.on 0) (candidates l.m)) l.x
