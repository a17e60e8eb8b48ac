-- `basis::Basis::leads` meets its contract: the mask so far, with the leads of the vectors not passed yet, is the whole. Assumes nothing.
use mathlib.Core.Path.{◌≡◌}
use lib.ListN.{drop}
use Rattle.gf2.specs.Bits.{◌⊕◌}
use Rattle.gf2.specs.Basis.{lead_mask}
use Rattle.basis.proofs.Basis.leads.Given as goal

abbrev pub invariant-loop-b : goal.invariant-loop-b
invariant-loop-b l = l.mask ⊕ lead_mask (drop l.b-index l.b-items) ≡ lead_mask l.b-items
