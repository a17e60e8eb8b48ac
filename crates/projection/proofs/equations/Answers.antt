-- `projection::equations` meets its contract: what is found, then the equations of the places below k, is the whole. Assumes nothing.
use mathlib.Core.Path.{◌≡◌, sym, ap, ◌∙◌}
use mathlib.Core.Bool.{Bool, true, false, not, cond}
use mathlib.Core.List.{List, [], ◌∷◌, ◌++◌}
use Prim.Native.Nat.{ℕ, suc, ◌-◌, ◌<◌}
use native.Mathlib.Omega.{arith}
use lib.ListN.{length-append}
use Rattle.gf2.specs.Bits.{bit}
use Rattle.gf2.specs.Basis.{is_lead, lead_mask}
use Rattle.gf2.proofs.Variables.{bit-lead_mask, places-step, places-none}
use Rattle.basis.specs.declared.Basis.{Basis}
use Rattle.basis.specs.Short.{listed, short}
use Rattle.basis.specs.Reduced.{vectors_of, IsBasis}
use Rattle.basis.proofs.Values.{short-listed, short-again, short-len}
use Rattle.space.specs.Restriction.{equation, equations}
use Rattle.projection.proofs.equations.Goals as goal

-- One place passed: its equation is next where the place is no lead, and is left out where it is one.
module _ (b : Basis) (g : IsBasis b) (k : ℕ) (h : 0 < k) (done : List ℕ) where
  abbrev vs : List ℕ
  vs = vectors_of b

  passed : (t : Bool) → is_lead vs (k - 1) ≡ t → cond (not t) (done ++ (equation vs (k - 1) ∷ [])) done ++ equations (k - 1) vs ≡ done ++ equations k vs
  unfolding equations
  passed t e =
      let q : k ≡ suc (k - 1) = omega arith in
      sym (ap (λ (j : ℕ). done ++ equations j vs) q ∙ places-step (equation vs) (λ j. not (is_lead vs j)) (k - 1) done ∙ rw e)

  -- The bit of the lead mask tells.
  known : (leads : ℕ) → leads ≡ lead_mask vs → (r : Bool) → r ≡ bit (k - 1) leads → is_lead vs (k - 1) ≡ r
  known leads e r p = sym (bit-lead_mask vs g.reduced (k - 1)) ∙ ap (bit (k - 1)) (sym e) ∙ sym p

pub loop-k-preserved-then-not-bit : goal.loop-k-preserved-then-not-bit
loop-k-preserved-then-not-bit c =
    let l = c.loop-k in
    let b = c.args.basis in
    let leads = c.leads-leads in
    let p = c.push-found in
    let m = c.equation.result in
    let f = listed l.found ++ (m ∷ []) in
    let lead = known b c.requires.basis l.k (omega arith) (listed l.found) leads.result leads.ensures c.bit.result c.bit.ensures in
    record {
      count = omega (arith, short-len p.result f p.ensures, length-append (listed l.found) (m ∷ []), short-len l.found (listed l.found) l.invariant.packed);
      packed = short-again p.result f p.ensures;
      whole = rw (short-listed p.result f p.ensures, c.equation.ensures)
          (passed b c.requires.basis l.k (omega arith) (listed l.found) false (lead ∙ c.if-not-bit.true) ∙ l.invariant.whole);
    }

pub loop-k-preserved : goal.loop-k-preserved
loop-k-preserved c =
    let l = c.loop-k in
    let b = c.args.basis in
    let leads = c.leads-leads in
    let lead = known b c.requires.basis l.k (omega arith) (listed l.found) leads.result leads.ensures c.bit.result c.bit.ensures in
    record {
      count = omega arith;
      packed = l.invariant.packed;
      whole = passed b c.requires.basis l.k (omega arith) (listed l.found) true (lead ∙ c.if-not-bit.false) ∙ l.invariant.whole;
    }

pub returns : goal.returns
unfolding equations
returns c =
    let l = c.loop-k in
    let vs = vectors_of c.args.basis in
    let e : l.k ≡ 0 = omega arith in
    l.invariant.packed ∙ ap short (sym (places-none (equation vs) (λ (j : ℕ). not (is_lead vs j)) (listed l.found)) ∙ (rw e at l.invariant.whole))
