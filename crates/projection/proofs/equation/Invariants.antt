-- `projection::equation` meets its contract: the mask so far is the equation by the vectors passed. Assumes nothing.
use mathlib.Core.Path.{◌≡◌}
use lib.ListN.{take}
use Rattle.space.specs.Restriction.{equation}
use Rattle.projection.proofs.equation.Given as goal

abbrev pub invariant-loop-b : goal.invariant-loop-b
invariant-loop-b l = l.mask ≡ equation (take l.b-index l.b-items) l.place
