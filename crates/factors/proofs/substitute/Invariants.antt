-- `factors::substitute` meets its contract: what is found, then what the equations behind give, is the whole. Assumes nothing.
use mathlib.Core.Path.{◌≡◌}
use lib.ListN.{drop}
use Rattle.gf2.specs.Bits.{◌⊕◌}
use Rattle.basis.specs.Short.{listed}
use Rattle.cover.specs.Substitution.{substitute_mask}
use Rattle.factors.proofs.substitute.Given as goal

abbrev pub invariant-loop-i : goal.invariant-loop-i
invariant-loop-i l = l.found ⊕ substitute_mask (drop l.i (listed l.fn.equations)) l.mask ≡ substitute_mask (listed l.fn.equations) l.mask
