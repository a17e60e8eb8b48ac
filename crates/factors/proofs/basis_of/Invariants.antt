-- `factors::basis_of` meets its contract: the vectors found, then those of what is left of the entry, are the whole. Assumes nothing.
use mathlib.Core.Path.{◌≡◌}
use mathlib.Core.List.{◌++◌}
use Prim.Native.Nat.{◌-◌}
use Rattle.basis.specs.Short.{listed, short}
use Rattle.bases.specs.Bases.{vectors_of}
use Rattle.factors.proofs.basis_of.Given as goal

abbrev pub invariant-loop : goal.invariant-loop
invariant-loop l = (l.vectors.len ≡ l.counter) × (l.vectors ≡ short (listed l.vectors)) × (listed l.vectors ++ vectors_of (l.d - l.counter) l.rest ≡ vectors_of l.d l.entry)
