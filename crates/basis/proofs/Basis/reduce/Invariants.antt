-- `basis::Basis::reduce` meets its contract: what is left to do at each turn is the reduction by the vectors not passed yet. Assumes nothing.
use mathlib.Core.Path.{◌≡◌}
use lib.ListN.{drop}
use Rattle.gf2.specs.Basis.{reduce}
use Rattle.basis.proofs.Basis.reduce.Given as goal

abbrev pub invariant-loop-b : goal.invariant-loop-b
invariant-loop-b l = reduce (drop l.b-index l.b-items) l.x ≡ reduce l.b-items l.point
