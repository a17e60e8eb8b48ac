-- `basis::variables_of` meets its contract: what is found, then the variables of the places below k, is the whole. Assumes nothing.
use mathlib.Core.Path.{◌≡◌, sym, ap, ◌∙◌}
use mathlib.Core.Bool.{Bool, true, false, cond}
use mathlib.Core.List.{List, [], ◌∷◌, ◌++◌}
use Prim.Native.Nat.{ℕ, suc, ◌-◌, ◌<◌}
use native.Mathlib.Omega.{arith}
use lib.ListN.{length-append}
use Rattle.gf2.specs.Bits.{bit, index_of}
use Rattle.gf2.specs.Basis.{places_at, variables_at}
use Rattle.gf2.proofs.Variables.{places-step, places-none}
use Rattle.basis.specs.Short.{listed, short}
use Rattle.basis.proofs.Values.{short-listed, short-again, short-len}
use Rattle.basis.proofs.variables_of.Goals as goal

-- One place passed: its variable is next where the bit is set, and is left out where it is clear.
module _ (n mask k : ℕ) (h : 0 < k) (done : List ℕ) where
  abbrev set : ℕ → Bool
  set j = bit j mask

  step : done ++ variables_at n (places_at k set) ≡ cond (set (k - 1)) (done ++ ((n - (k - 1)) ∷ [])) done ++ variables_at n (places_at (k - 1) set)
  step =
      let e : k ≡ suc (k - 1) = omega arith in
      ap (λ (j : ℕ). done ++ variables_at n (places_at j set)) e ∙ places-step (index_of n) set (k - 1) done

  taken : set (k - 1) ≡ true → (done ++ ((n - (k - 1)) ∷ [])) ++ variables_at n (places_at (k - 1) set) ≡ done ++ variables_at n (places_at k set)
  taken e = sym (step ∙ rw e)

  left : set (k - 1) ≡ false → done ++ variables_at n (places_at (k - 1) set) ≡ done ++ variables_at n (places_at k set)
  left e = sym (step ∙ rw e)

pub loop-k-preserved-then-bit : goal.loop-k-preserved-then-bit
loop-k-preserved-then-bit c =
    let l = c.loop-k in
    let a = c.args in
    let found = listed l.found ++ ((a.n - (l.k - 1)) ∷ []) in
    let p : c.push-found.result ≡ short found = c.push-found.ensures ∙ ap (λ (v : ℕ). short (listed l.found ++ (v ∷ []))) c.index_of.ensures in
    record {
      few = omega (arith, short-len c.push-found.result found p, length-append (listed l.found) ((a.n - (l.k - 1)) ∷ []), short-len l.found (listed l.found) l.invariant.packed);
      packed = short-again c.push-found.result found p;
      rest = rw (short-listed c.push-found.result found p)
          (taken a.n a.mask l.k (omega arith) (listed l.found) (sym c.bit.ensures ∙ c.if-bit.true) ∙ l.invariant.rest);
    }

pub loop-k-preserved : goal.loop-k-preserved
loop-k-preserved c =
    let l = c.loop-k in
    let a = c.args in
    record {
      few = omega arith;
      packed = l.invariant.packed;
      rest = left a.n a.mask l.k (omega arith) (listed l.found) (sym c.bit.ensures ∙ c.if-bit.false) ∙ l.invariant.rest;
    }

pub returns : goal.returns
returns c =
    let l = c.loop-k in
    let a = c.args in
    let e : l.k ≡ 0 = omega arith in
    l.invariant.packed ∙ ap short (sym (places-none (index_of a.n) (λ (j : ℕ). bit j a.mask) (listed l.found)) ∙ (rw e at l.invariant.rest))
