-- `basis::Basis::join` meets its contract: what is written, then the carried vector placed among those not passed yet, is the whole result.
-- Assumes nothing.
use mathlib.Core.Path.{◌≡◌}
use mathlib.Core.List.{◌++◌, map}
use lib.ListN.{drop}
use Rattle.gf2.specs.Basis.{clear, place}
use Rattle.basis.specs.Short.{listed, short}
use Rattle.basis.proofs.Basis.join.Given as goal

abbrev pub invariant-loop-b : goal.invariant-loop-b
invariant-loop-b l = record {
  count : l.out.len ≡ l.b-index;
  packed : l.out ≡ short (listed l.out);
  rest : listed l.out ++ place l.carried (map (clear l.r) (drop l.b-index l.b-items)) ≡ place l.r (map (clear l.r) l.b-items);
}
