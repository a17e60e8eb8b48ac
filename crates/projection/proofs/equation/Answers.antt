-- `projection::equation` meets its contract: the mask so far is the equation by the vectors passed. Assumes nothing.
use mathlib.Core.Path.{sym, ap, ◌∙◌}
use mathlib.Core.List.{List}
use Prim.Native.Nat.{ℕ}
use native.Mathlib.Numerals.{add-one}
use native.Mathlib.Omega.{arith}
use lib.ListN.{get_or}
use lib.Seq.{take_all}
use Rattle.basis.proofs.Values.{item-mem, item-pos}
use Rattle.space.specs.Restriction.{equation}
use Rattle.space.proofs.Steps.{equation-nil, equation-take}
use Rattle.gf2.proofs.Xor.{shifted_one}
use Rattle.projection.proofs.equation.Goals as goal

pub loop-b-init : goal.loop-b-init
loop-b-init c = shifted_one c.args.place 16 (omega arith) ∙ sym (equation-nil c.args.place)

pub lead_term-mask-requires-clause-b_nonzero : goal.lead_term-mask-requires-clause-b_nonzero
lead_term-mask-requires-clause-b_nonzero c =
    let b = c.args.basis in
    let vs = c.as_slice-b-items.result.now in
    let e = c.as_slice-b-items.ensures in
    let i = c.loop-b.b-index in
    (item-pos b c.requires.basis vs e i (omega arith), c.requires.basis.below (get_or vs i 0) (item-mem b c.requires.basis vs e i (omega arith)))

pub loop-b-preserved : goal.loop-b-preserved
loop-b-preserved c =
    let i = c.loop-b.b-index in
    let vs = c.as_slice-b-items.result.now in
    rw (c.loop-b.invariant, c.lead_term-mask.ensures, add-one) (sym (equation-take vs i c.args.place (omega arith)))

pub returns : goal.returns
returns c =
    let vs = c.as_slice-b-items.result.now in
    c.loop-b.invariant ∙ ap (λ (bs : List ℕ). equation bs c.args.place) (take_all c.loop-b.b-index vs (omega arith) ∙ c.as_slice-b-items.ensures)
