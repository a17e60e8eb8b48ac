-- `space::linear_space` meets its contract. The loop's invariant: the basis is that of the vectors below v under which the function is closed,
-- and the mask has its lead bits. Assumes nothing.
use mathlib.Core.Path.{◌≡◌, sym, ap, ◌∙◌, subst, subst⁻¹}
use mathlib.Core.Bool.{Bool}
use mathlib.Core.Logic.{◌≢◌}
use mathlib.Core.List.{List, []}
use Prim.Native.Nat.{ℕ, ◌+◌, ◌^◌, ◌≤◌, ◌<◌}
use native.Mathlib.Numerals.{add-one}
use native.Mathlib.Omega.{arith}
use lib.Bits.{bit_and}
use lib.Pow.{pow_mono, pow-lt}
use Rattle.gf2.specs.Limits.{max_variables}
use Rattle.gf2.specs.Bits.{lead}
use Rattle.gf2.specs.Finite.{Mem, select, In}
use Rattle.gf2.specs.Basis.{inserts, units, lead_mask}
use Rattle.gf2.proofs.Leads.{lead-fits, lead-pow}
use Rattle.gf2.proofs.Reduce.{reduced-pos, reduced-rising}
use Rattle.gf2.proofs.Insert.{inserts-reduced, inserts-off, inserts-reducible}
use Rattle.gf2.proofs.ReducedBasis.{units-mem, mem-units, units-below, units-reduced, units-inserts}
use Rattle.basis.specs.declared.Basis.{Basis}
use Rattle.basis.specs.Reduced.{vectors_of, basis_of, Built}
use Rattle.basis.proofs.Values.{vectors-back, built, select-basis}
use Rattle.std.specs.Prelude.{Option, None}
use Rattle.space.specs.Closure.{closed, linear_space}
use Rattle.space.specs.Witness.{flagged, FirstWitness, Answers, Searchable}
use Rattle.space.proofs.Closure.{closed_of, closed-broken, closed-space, closed-units, linear-reduced, linear-span, linear-below, linear-inserts}
use Rattle.space.proofs.Steps.{mask-reducible}
use Rattle.space.proofs.linear_space.Goals as goal
use Rattle.space.proofs.linear_space.Goals.{In-Some, then-leads-v-eq0, else-leads-v-eq0}

-- The basis of the vectors below v under which the function is closed.
abbrev ClosedBelow : ℕ → (ℕ → Bool) → ℕ → Basis → Type 0
ClosedBelow n f v b = b ≡ basis_of (inserts [] (select (closed n f) v))

-- ---- the search over the full basis
-- Its vectors, as they are lent.
lent : (n : ℕ) (b : Basis) → b ≡ basis_of (units n) → vectors_of b ≡ units n
lent n b e = ap vectors_of e ∙ vectors-back (units n)

searchable : (n : ℕ) → Searchable n (units n)
searchable n = record { rises = reduced-rising (units n) (units-reduced n); below = units-below n }

module _ (n : ℕ) (f : ℕ → Bool) where
  -- No witness: the full basis is the linear space.
  none-full : Answers f (2 ^ n) (units n) None → units n ≡ linear_space n f
  none-full h =
      sym (units-inserts (closed n f) n (closed-units n f n (λ u m. (units-below n u m, closed_of n f u (h u m))))) ∙ linear-inserts n f

  -- A witness at a: of the vectors up to a, the function is closed under those below a.
  module _ (a p : ℕ) (h : FirstWitness f (2 ^ n) (units n) a p) where
    at : (k : ℕ) × (k < n) × (a ≡ 2 ^ k)
    at = units-mem n a h.vector

    place : lead a ≡ at.0
    place = ap lead at.2 ∙ lead-pow at.0

    pos : 0 < a
    pos = reduced-pos (units n) (units-reduced n) a h.vector

    low : a < 2 ^ n
    low = units-below n a h.vector

    below : (u : ℕ) → Mem u (units at.0) → In n (closed n f) u
    below u m =
        let k = units-mem at.0 u m in
        let l : u < a = omega (arith, k.2, at.2, pow-lt k.1) in
        let i : Mem u (units n) = subst⁻¹ (λ (x : ℕ). Mem x (units n)) k.2 (mem-units n k.0 (omega (arith, k.1, at.1))) in
        (units-below n u i, closed_of n f u (h.vectors u i l))

    started : (b : Basis) → b ≡ basis_of (units (lead a)) → ClosedBelow n f (a + 1) b
    started b e =
        let z : inserts [] (select (closed n f) a) ≡ units at.0 =
        ap (λ (k : ℕ). inserts [] (select (closed n f) k)) at.2 ∙ units-inserts (closed n f) at.0 (closed-units n f at.0 below) in
        rw add-one (e ∙ ap basis_of (ap units place ∙ sym (inserts-off (closed n f) a (closed-broken n f a p h.point h.breaks) ∙ z)))

  -- ---- one vector more

  -- A vector with a lead bit of the basis changes nothing.
  skipped : (v : ℕ) (b : Basis) → v < 2 ^ n → ClosedBelow n f v b → bit_and (lead_mask (vectors_of b)) v ≢ 0 → ClosedBelow n f (v + 1) b
  skipped v b l e ne =
      let bs = inserts [] (select (closed n f) v) in
      rw add-one (e ∙ ap basis_of (sym (inserts-reducible n (closed n f) (closed-space n f) v l
      (mask-reducible bs (inserts-reduced [] (select (closed n f) v) tt) v
      (subst (λ (cs : List ℕ). bit_and (lead_mask cs) v ≢ 0) (ap vectors_of e ∙ vectors-back bs) ne)))))

  -- The linear space as a value.
  whole : n ≤ max_variables → (b : Basis) → b ≡ basis_of (linear_space n f) → Built b (linear_space n f) (In n (closed n f))
  whole few b e = subst⁻¹ (λ (x : Basis). Built x (linear_space n f) (In n (closed n f))) e
      (built (linear_space n f) (In n (closed n f)) (linear-reduced n f) (λ c m. omega (arith, linear-below n f c m, pow_mono few)) (linear-span n f))

-- ---- the answers
pub first_witness-requires : goal.first_witness-requires
first_witness-requires c =
    let n = c.args.n in
    let f = c.full-full in
    record { n_le_max_variables = c.requires; searchable = rw (c.as_slice.ensures, lent n f.result f.ensures.value) (searchable n) }

-- What the search over the full basis found.
answered : (n : ℕ) (f : ℕ → Bool) (b : Basis) (vs : List ℕ) (w : Option (ℕ × ℕ)) → vs ≡ vectors_of b → b ≡ basis_of (units n) → Answers f (2 ^ n) vs w
    → Answers f (2 ^ n) (units n) w
answered n f b vs w q e h = subst (λ (us : List ℕ). Answers f (2 ^ n) us w) (q ∙ lent n b e) h

pub returns-in_default : goal.returns-in_default
returns-in_default c =
    let n = c.args.n in
    let f = flagged c.args.flags.now in
    let full = c.full-full in
    let w = answered n f full.result _ c.first_witness.result c.as_slice.ensures full.ensures.value c.first_witness.ensures in
    whole n f c.requires full.result (full.ensures.value ∙ ap basis_of (none-full n f (rw c.in_default.is at w)))

-- It is a witness, so its vector is none of 0 and has n variables.
found : (c : In-Some) → FirstWitness (flagged c.args.flags.now) (2 ^ c.args.n) (units c.args.n) c.in-Some.a c.in-Some.field-0-1
found c =
    let full = c.full-full in
    rw c.in-Some.is at (answered c.args.n (flagged c.args.flags.now) full.result _ c.first_witness.result c.as_slice.ensures full.ensures.value c.first_witness.ensures)

found-low : (c : In-Some) → c.in-Some.a < 2 ^ c.args.n
found-low c = low c.args.n (flagged c.args.flags.now) c.in-Some.a c.in-Some.field-0-1 (found c)

found-pos : (c : In-Some) → 0 < c.in-Some.a
found-pos c = pos c.args.n (flagged c.args.flags.now) c.in-Some.a c.in-Some.field-0-1 (found c)

pub overflow_step-v : goal.overflow_step-v
overflow_step-v c = omega (arith, found-low (goal.at.overflow_step-v c).In-Some, pow_mono c.requires)

pub grown-basis-requires : goal.grown-basis-requires
grown-basis-requires c = record { n_le_max_variables = c.requires; v_bound = omega arith; closed_below = c.loop-v.invariant.0 }

pub leads-leads-requires-then-leads-v-eq0 : goal.leads-leads-requires-then-leads-v-eq0
leads-leads-requires-then-leads-v-eq0 c =
    select-basis (closed c.args.n (flagged c.args.flags.now)) (c.loop-v.v + 1) (omega (arith, pow_mono c.requires)) c.grown-basis.result c.grown-basis.ensures

pub loop-v-preserved : goal.loop-v-preserved
loop-v-preserved c =
    let h = c.loop-v in
    let mask : (b d : Basis) → b ≡ d → lead_mask (vectors_of d) ≡ lead_mask (vectors_of b) = λ b d e. ap (λ (x : Basis). lead_mask (vectors_of x)) (sym e) in
    elim c.if-leads-v-eq0.branch [
      | then-leads-v-eq0 w ↦ (
        w.basis-is ∙ w.grown-basis.ensures,
        w.leads-is ∙ w.leads-leads-then-leads-v-eq0.ensures ∙ mask _ _ w.basis-is,
      )
      | else-leads-v-eq0 w ↦ (
        w.basis-is ∙ skipped c.args.n (flagged c.args.flags.now) h.v h.basis (omega arith) h.invariant.0
            (λ e. w.if-leads-v-eq0.false (ap (λ (m : ℕ). bit_and m h.v) h.invariant.1 ∙ e)),
        w.leads-is ∙ h.invariant.1 ∙ mask _ _ w.basis-is,
      )
    ]

pub lead-requires : goal.lead-requires
lead-requires c = found-pos (goal.at.lead-requires c).In-Some

pub full-basis-requires : goal.full-basis-requires
full-basis-requires c =
    let p = (goal.at.full-basis-requires c).In-Some in
    omega (arith, c.lead.ensures, lead-fits c.args.n c.in-Some.a (found-pos p) (found-low p), c.requires)

pub loop-v-init : goal.loop-v-init
loop-v-init c =
    let b = c.full-basis in (
      started c.args.n (flagged c.args.flags.now) c.in-Some.a c.in-Some.field-0-1 (found (goal.at.loop-v-init c).In-Some) b.result
          (b.ensures.value ∙ ap (λ (j : ℕ). basis_of (units j)) c.lead.ensures),
      c.leads-leads.ensures,
    )

pub returns : goal.returns
returns c =
    let h = c.loop-v in
    let n = c.args.n in
    let f = flagged c.args.flags.now in
    let e : h.v ≡ 2 ^ n = omega (arith, found-low (goal.at.returns c).In-Some) in
    whole n f c.requires h.basis (h.invariant.0 ∙ ap (λ (k : ℕ). basis_of (inserts [] (select (closed n f) k))) e ∙ ap basis_of (linear-inserts n f))
