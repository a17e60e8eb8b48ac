-- `basis::variables_of` meets its contract: what is found, then the variables of the places below k, is the whole. Assumes nothing.
use mathlib.Core.Path.{◌≡◌}
use mathlib.Core.List.{◌++◌}
use Prim.Native.Nat.{ℕ, ◌+◌, ◌≤◌}
use Rattle.gf2.specs.Bits.{bit}
use Rattle.gf2.specs.Basis.{places_at, variables_at}
use Rattle.basis.specs.Short.{listed, short}
use Rattle.basis.proofs.variables_of.Given as goal

abbrev pub invariant-loop-k : goal.invariant-loop-k
invariant-loop-k l = record {
  few : l.found.len + l.k ≤ l.n;
  packed : l.found ≡ short (listed l.found);
  rest : listed l.found ++ variables_at l.n (places_at l.k (λ (j : ℕ). bit j l.mask)) ≡ variables_at l.n (places_at l.n (λ (j : ℕ). bit j l.mask));
}
