-- `space::first_witness` meets its contract. The inner loop's invariant: the points below p don't break closure under a; the outer one's: no
-- point does under the vectors before this one. Assumes nothing.
use mathlib.Core.Path.{◌≡◌, sym, ap, ◌∙◌, subst, subst⁻¹}
use mathlib.Core.Logic.{inl, inr}
use mathlib.Core.List.{List}
use Prim.Native.Nat.{ℕ, ◌≤◌, ◌<◌}
use native.Mathlib.Numerals.{add-one}
use native.Mathlib.Omega.{arith}
use lib.Bits.{xor_lt}
use lib.ListN.{length, take, get_or}
use lib.Pow.{pow_mono}
use lib.Seq.{take-suc, take_all}
use borrow.Author.Tests.{not-true}
use Rattle.gf2.specs.Limits.{max_variables}
use Rattle.gf2.specs.Finite.{Mem}
use Rattle.gf2.proofs.Logic.{eq-beq, clash}
use Rattle.gf2.proofs.Finite.{get_d-mem, mem-snoc, rising-before}
use Rattle.table.specs.Flags.{max_points}
use Rattle.space.specs.Witness.{flagged, Agrees, Searchable}
use Rattle.space.proofs.first_witness.Goals as goal

-- Both flags that are compared are there.
vector-room : (n : ℕ) (vs : List ℕ) (i vector : ℕ) → n ≤ max_variables → Searchable n vs → i < length vs → vector ≡ get_or vs i 0 → vector < max_points
vector-room n vs i vector few h i_lt e = omega (arith, e, h.below (get_or vs i 0) (get_d-mem vs i 0 i_lt), pow_mono few)

pub bounds-flags-p : goal.bounds-flags-p
bounds-flags-p c =
    let few = c.requires.n_le_max_variables in
    xor_lt max_variables c.loop-p.p c.from-vector.result (omega (arith, pow_mono few))
    (vector-room c.args.n c.args.vectors.now c.search.a-index c.from-vector.result few c.requires.searchable c.search-test.true c.from-vector.ensures)

pub bounds-flags-p-in-loop-p : goal.bounds-flags-p-in-loop-p
bounds-flags-p-in-loop-p c = omega (arith, pow_mono c.requires.n_le_max_variables)

pub returns-then-flags-p : goal.returns-then-flags-p
returns-then-flags-p c =
    let i = c.search.a-index in
    let f = flagged c.args.flags.now in
    record {
      vector = get_d-mem c.args.vectors.now i 0 c.search-test.true;
      point = omega arith;
      breaks = λ e. clash (eq-beq _ _ (subst⁻¹ (λ (w : ℕ). Agrees f w c.loop-p.p) c.from-vector.ensures e)) (not-true _ c.if-flags-p.true);
      vectors = λ u m l. c.search.invariant.vectors u (rising-before c.args.vectors.now i c.requires.searchable.rises u m l);
      points = λ q l. subst (λ (w : ℕ). Agrees f w q) c.from-vector.ensures (c.loop-p.invariant.points q l);
    }

pub search-preserved : goal.search-preserved
search-preserved c = record {
  none = c.loop-p.invariant.none;
  vectors = λ u k q m.
      let vs = c.args.vectors.now in
      let i = c.search.a-index in
      elim (mem-snoc u (take i vs) (get_or vs i 0) (subst (Mem u) (ap (λ (j : ℕ). take j vs) (add-one i) ∙ take-suc vs i 0 c.search-test.true) k)) [
        | inl l ↦ c.search.invariant.vectors u l q m
        | inr e ↦ subst (λ (w : ℕ). Agrees (flagged c.args.flags.now) w q) (c.from-vector.ensures ∙ sym e) (c.loop-p.invariant.points q (omega arith))
      ];
}

pub returns-after-search : goal.returns-after-search
returns-after-search c =
    let vs = c.args.vectors.now in
    rw c.search.invariant.none (λ u m. c.search.invariant.vectors u (subst⁻¹ (Mem u) (take_all c.search.a-index vs (omega arith)) m))
