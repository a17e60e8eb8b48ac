-- `projection::count_kept` meets its contract: the count so far is that of the points kept below w. Assumes nothing.
use mathlib.Core.Path.{◌≡◌}
use lib.ListN.{length}
use Rattle.gf2.specs.Finite.{select}
use Rattle.space.specs.Witness.{flagged}
use Rattle.projection.specs.Masks.{is_kept}
use Rattle.projection.proofs.count_kept.Given as goal

abbrev pub invariant-loop-w : goal.invariant-loop-w
invariant-loop-w l = l.count ≡ length (select (is_kept l.leads (flagged l.flags)) l.w)
