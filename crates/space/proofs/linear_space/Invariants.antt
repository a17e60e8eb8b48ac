-- `space::linear_space` meets its contract. The loop's invariant: the basis is that of the vectors below v under which the function is closed,
-- and the mask has its lead bits. Assumes nothing.
use mathlib.Core.Path.{◌≡◌}
use mathlib.Core.List.{[]}
use Rattle.gf2.specs.Finite.{select}
use Rattle.gf2.specs.Basis.{inserts, lead_mask}
use Rattle.basis.specs.Reduced.{vectors_of, basis_of}
use Rattle.space.specs.Closure.{closed}
use Rattle.space.specs.Witness.{flagged}
use Rattle.space.proofs.linear_space.Given as goal

abbrev pub invariant-loop-v : goal.invariant-loop-v
invariant-loop-v l = (l.basis ≡ basis_of (inserts [] (select (closed l.n (flagged l.flags)) l.v))) × (l.leads ≡ lead_mask (vectors_of l.basis))
