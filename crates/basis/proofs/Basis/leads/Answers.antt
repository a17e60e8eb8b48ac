-- `basis::Basis::leads` meets its contract: the mask so far, with the leads of the vectors not passed yet, is the whole. Assumes nothing.
use mathlib.Core.Path.{◌≡◌, sym, ap, ◌∙◌}
use mathlib.Core.List.{List}
use Prim.Native.Nat.{ℕ, ◌+◌, ◌*◌, ◌%◌, ◌^◌, ◌<◌}
use native.Mathlib.Omega.{arith}
use lib.Bits.{xor_zero_r}
use lib.ListN.{length, drop, get_or}
use Rattle.gf2.specs.Limits.{max_variables}
use Rattle.gf2.specs.Bits.{◌⊕◌, lead}
use Rattle.gf2.specs.Basis.{lead_mask}
use Rattle.gf2.proofs.Xor.{shifted_one, xor_assoc}
use Rattle.basis.proofs.Values.{item-pos, item-lead, items-next, items-end}
use Rattle.basis.proofs.Basis.leads.Goals as goal

pub lead-requires : goal.lead-requires
lead-requires c =
    let s = c.as_slice-b-items in
    item-pos c.args.self c.requires s.result.now s.ensures c.loop-b.b-index (omega arith)

pub overflow_cast-mask : goal.overflow_cast-mask
overflow_cast-mask c =
    let s = c.as_slice-b-items in
    omega (arith, c.lead.ensures, item-lead c.args.self c.requires s.result.now s.ensures c.loop-b.b-index (omega arith))

pub overflow_shl-mask : goal.overflow_shl-mask
overflow_shl-mask c =
    let s = c.as_slice-b-items in
    omega (arith, c.lead.ensures, item-lead c.args.self c.requires s.result.now s.ensures c.loop-b.b-index (omega arith))

-- One vector passed, which adds its lead bit.
passed : (vs : List ℕ) (i m p : ℕ) → i < length vs → lead (get_or vs i 0) < max_variables → p ≡ lead (get_or vs i 0)
    → m ⊕ (1 * 2 ^ p % 65536) ⊕ lead_mask (drop (i + 1) vs) ≡ m ⊕ lead_mask (drop i vs)
unfolding lead_mask
passed vs i m p h low e =
    let x : 1 * 2 ^ p % 65536 ≡ 2 ^ p = shifted_one p 16 (omega arith) in
    rw (x, items-next vs i h, e) (xor_assoc m (2 ^ lead (get_or vs i 0)) (lead_mask (drop (i + 1) vs)))

pub loop-b-preserved : goal.loop-b-preserved
loop-b-preserved c =
    let l = c.loop-b in
    let s = c.as_slice-b-items in
    passed s.result.now l.b-index l.mask c.lead.result (omega arith)
    (item-lead c.args.self c.requires s.result.now s.ensures l.b-index (omega arith)) c.lead.ensures
    ∙ l.invariant

pub returns : goal.returns
unfolding lead_mask
returns c =
    let l = c.loop-b in
    let s = c.as_slice-b-items in
    sym (xor_zero_r l.mask) ∙ (rw (items-end s.result.now l.b-index (omega arith)) at l.invariant) ∙ ap lead_mask s.ensures
