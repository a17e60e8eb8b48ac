-- `projection::equations` meets its contract: what is found, then the equations of the places below k, is the whole. Assumes nothing.
use mathlib.Core.Path.{◌≡◌}
use mathlib.Core.List.{◌++◌}
use Prim.Native.Nat.{◌+◌, ◌≤◌}
use Rattle.basis.specs.Short.{listed, short}
use Rattle.basis.specs.Reduced.{vectors_of}
use Rattle.space.specs.Restriction.{equations}
use Rattle.projection.proofs.equations.Given as goal

abbrev pub invariant-loop-k : goal.invariant-loop-k
invariant-loop-k l = record {
  count : l.found.len + l.k ≤ l.n;
  packed : l.found ≡ short (listed l.found);
  whole : listed l.found ++ equations l.k (vectors_of l.basis) ≡ equations l.n (vectors_of l.basis);
}
