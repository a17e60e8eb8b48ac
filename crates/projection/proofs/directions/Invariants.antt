-- `projection::directions` meets its contract: the basis so far is that of the points passed, each XOR the first. Assumes nothing.
use mathlib.Core.Path.{◌≡◌}
use mathlib.Core.List.{[], map}
use lib.ListN.{take}
use Rattle.gf2.specs.Bits.{◌⊕◌}
use Rattle.gf2.specs.Basis.{inserts}
use Rattle.basis.specs.Reduced.{basis_of, IsBasis}
use Rattle.projection.proofs.directions.Given as goal

abbrev pub invariant-loop-p : goal.invariant-loop-p
invariant-loop-p l = record {
  basis : IsBasis l.basis;
  value : l.basis ≡ basis_of (inserts [] (map (λ q. q ⊕ l.first) (take l.p-index l.on)));
}
