-- `basis::Basis::reduce` meets its contract: what is left to do at each turn is the reduction by the vectors not passed yet. Assumes nothing.
use mathlib.Core.Path.{◌≡◌, ap, ◌∙◌}
use Prim.Native.Nat.{ℕ, ◌+◌, ◌<◌}
use mathlib.Core.List.{List}
use native.Mathlib.Omega.{arith}
use lib.ListN.{length, drop, get_or}
use Rattle.gf2.specs.Basis.{clear, reduce}
use Rattle.basis.proofs.Values.{item-pos, items-next, items-end}
use Rattle.basis.proofs.Basis.reduce.Goals as goal

pub clear_lead-x-requires : goal.clear_lead-x-requires
clear_lead-x-requires c =
    let s = c.as_slice-b-items in
    item-pos c.args.self c.requires s.result.now s.ensures c.loop-b.b-index (omega arith)

-- One vector passed.
passed : (vs : List ℕ) (i x : ℕ) → i < length vs → reduce (drop (i + 1) vs) (clear (get_or vs i 0) x) ≡ reduce (drop i vs) x
unfolding reduce
passed vs i x h = rw (items-next vs i h)

pub loop-b-preserved : goal.loop-b-preserved
loop-b-preserved c =
    let l = c.loop-b in
    rw c.clear_lead-x.ensures (passed c.as_slice-b-items.result.now l.b-index l.x (omega arith) ∙ l.invariant)

pub returns : goal.returns
unfolding reduce
returns c =
    let l = c.loop-b in
    let s = c.as_slice-b-items in
    (rw (items-end s.result.now l.b-index (omega arith)) at l.invariant) ∙ ap (λ (vs : List ℕ). reduce vs c.args.point) s.ensures
