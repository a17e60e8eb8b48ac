-- `basis::Basis::full` meets its contract: after i turns the array holds the i first vectors of one bit. Assumes nothing.
use mathlib.Core.Path.{◌≡◌}
use Rattle.gf2.specs.Basis.{units}
use Rattle.basis.specs.Short.{padded}
use Rattle.basis.proofs.Basis.full.Given as goal

abbrev pub invariant-loop-i : goal.invariant-loop-i
invariant-loop-i l = l.vectors ≡ padded (units l.i)
