-- Document 02, No. 4 holds of what the public calls report of every table, with any rooms. Read next: Bits.
use mathlib.Core.Path.{◌≡◌, sym, ap, ap₂, ◌∙◌, subst}
use mathlib.Core.Bool.{Bool, true}
use mathlib.Core.Logic.{◌⊎◌, inl, inr, ◌↔◌}
use mathlib.Core.List.{List, ◌++◌}
use Prim.Native.Nat.{ℕ, ◌^◌, ◌≤◌, ◌<◌, max}
use native.Mathlib.Omega.{arith}
use lib.ListN.{length}
use lib.Dec.{ltb}
use lib.Pow.{pow_pos, pow_mono}
use lib.Bits.{xor_zero_r}
use borrow.Author.Tests.{ltb-true, lt-ltb}
use Rattle.gf2.specs.Bits.{◌⊕◌}
use Rattle.gf2.specs.Finite.{Mem, In, holds, select}
use Rattle.gf2.specs.Span.{Span, Space}
use Rattle.gf2.specs.Basis.{reduced_basis}
use Rattle.gf2.proofs.Logic.{same, and_l, and_r, and_i}
use Rattle.gf2.proofs.Finite.{holds-mem, select-ext}
use Rattle.gf2.proofs.ReducedBasis.{basis-reduced, basis-below, basis-span}
use Rattle.basis.specs.Reduced.{vectors_of}
use Rattle.table.specs.Table.{Accepted}
use Rattle.cubes.specs.Cubes.{size, spans}
use Rattle.cubes.specs.Candidates.{Lexicographic}
use Rattle.cubes.specs.Primes.{allowed}
use Rattle.cubes.proofs.Cubes.{spans-is, coset-size}
use Rattle.cubes.proofs.Candidates.{lexicographic-not}
use Rattle.cubes.proofs.Primes.{allowed-is}
use Rattle.subspaces.specs.Spaces.{NoLater, Largest}
use Rattle.subspaces.proofs.Spaces.{largest-sets}
use Rattle.closure_set.specs.ClosureSet.{closure_set, largest_space}
use Rattle.closure_set.proofs.ClosureSet.{closes-is, closure-mem, largest_space-is, spread-is}
use Rattle.space.specs.Closure.{linear_space, degree}
use Rattle.space.specs.Completion.{k0, k1, max_searched, completed, completed_points}
use Rattle.space.proofs.Completion.{Keeps, keeps-degree, simply-degree, completed-spread, completed-simply, completed-linear, completed-degree}
use Rattle.lines.specs.Words.{variables_word}
use Rattle.lines.specs.Lines.{number_line, counts_line}
use Rattle.table_report.specs.Text.{is_simple, space_text, form_text, table_text}
use Rattle.analysis.specs.declared.Completion.{Completion}
use Rattle.analysis.specs.Spaces.{complete_accepted, linear_space_answer}
use Rattle.claims.specs.Demand2.{RoomsLent, Reported, reported, is_on, SpaceSays}
use Rattle.claims.specs.FreePoints.{InClosureSet, SpaceInside, LargestSays, FreePoints}
use Rattle.claims.proofs.Reports.{Gave}
use Rattle.claims.proofs.Demand2.{on-at, selected-degree, table, completing, analysing, spaced-vectors, analysed-vectors, demand2}

-- On or free, by the lists.
allowed-told : (on free : List ℕ) (w : ℕ) → (allowed (holds on) (holds free) w ≡ true) ↔ (Mem w on ⊎ Mem w free)
allowed-told on free w = (
  λ e. elim ((allowed-is (holds on) (holds free) w).0 e) [ inl t ↦ inl ((holds-mem on w).0 t) | inr t ↦ inr ((holds-mem free w).0 t) ],
  λ p. (allowed-is (holds on) (holds free) w).1 (elim p [ inl m ↦ inl ((holds-mem on w).1 m) | inr m ↦ inr ((holds-mem free w).1 m) ]),
)

-- The closure set in document 02's words.
closure-told : (n : ℕ) (on free : List ℕ) (a : ℕ) → Mem a (closure_set n on free) ↔ InClosureSet n on free a
closure-told n on free a = (
  λ m. let i = (closure-mem n on free a).0 m in (i.0, λ w k. (allowed-told on free (w ⊕ a)).0 ((closes-is on free a).0 i.1 w k)),
  λ p. (closure-mem n on free a).1 (p.0, (closes-is on free a).1 (λ w k. (allowed-told on free (w ⊕ a)).1 (p.1 w k))),
)

-- A space has as many vectors as its dimension says.
space-size : (n : ℕ) (Q : ℕ → Bool) → Space (In n Q) → size n Q ≡ 2 ^ length (reduced_basis n Q)
space-size n Q s =
    let bs = reduced_basis n Q in
    ap length (select-ext Q (λ x. spans bs (x ⊕ 0)) (2 ^ n) (λ x l. same (Q x) (spans bs (x ⊕ 0))
    (λ e. (spans-is bs (basis-reduced n Q) (x ⊕ 0)).1 (subst (Span bs) (sym (xor_zero_r x)) ((basis-span n Q s x).1 (l, e))))
    (λ e. ((basis-span n Q s x).0 (subst (Span bs) (xor_zero_r x) ((spans-is bs (basis-reduced n Q) (x ⊕ 0)).0 e))).1)))
    ∙ coset-size n bs (basis-reduced n Q) (basis-below n Q) 0 (pow_pos n)

-- A list isn't earlier than itself, nor than one that is earlier than it.
not_earlier : (bs cs : List ℕ) → (bs ≡ cs) ⊎ Lexicographic bs cs → Lexicographic cs bs → ⊥
not_earlier bs cs (inl e) l = let k = subst (λ (x : List ℕ). Lexicographic x bs) (sym e) l in lexicographic-not bs bs k k
not_earlier bs cs (inr p) l = lexicographic-not bs cs p l

module _ (n : ℕ) (on free : List ℕ) (a : Accepted n on free) (r : Reported) (c : Gave r.completion (complete_accepted n on free) r.points (completed_points n on free))
    (h : n ≤ max_searched) (basis : List ℕ) (dimension : ℕ) (e : basis ≡ linear_space n (completed n on free)) (s : SpaceSays n r basis dimension) where
  -- The reported basis is that of the largest space.
  largest : Largest (closure_set n on free) basis
  largest = subst (Largest (closure_set n on free)) (completed-linear n on free a.on_below h ∙ sym e) (largest_space-is n on free)

  no-later : (Q : ℕ → Bool) → SpaceInside n on free Q → NoLater basis (reduced_basis n Q)
  no-later Q q = largest-sets n (closure_set n on free) basis largest Q q.space (λ x p. (closure-told n on free x).1 (q.inside x p))

  spread-told : (w : ℕ) → w < 2 ^ n → (is_on r w ≡ true) ↔ ((u : ℕ) × Mem u on × Span basis (u ⊕ w))
  spread-told w l =
      let q = on-at n on free a r c w l ∙ ap (λ (f : ℕ → Bool). f w) (completed-spread n on free h) in
      let b : largest_space n on free ≡ basis = completed-linear n on free a.on_below h ∙ sym e in
      let t = subst (λ (bs : List ℕ). (is_on r w ≡ true) ↔ ((u : ℕ) × Mem u on × Span bs (u ⊕ w))) b in
      t (λ g. (spread-is on (largest_space n on free) w).0 (sym q ∙ g), λ k. q ∙ (spread-is on (largest_space n on free) w).1 k)

  largest-said : LargestSays n on free r basis dimension
  largest-said = record {
    reduced = s.reduced;
    dimension = s.dimension;
    inside = λ x p. (closure-told n on free x).0 (largest.inside x p);
    none-larger = λ Q q. subst (λ (k : ℕ). k ≤ 2 ^ length basis) (sym (space-size n Q q.space)) (pow_mono (no-later Q q).0);
    none-wider = λ Q q. (no-later Q q).0;
    none-earlier = λ Q q h. not_earlier basis (reduced_basis n Q) ((no-later Q q).1 h);
    spread = spread-told;
    exactly = s.exactly;
  }

-- Of every table that `complete` accepted, whatever the rooms.
module _ (n : ℕ) (on free : List ℕ) (lent : RoomsLent) (e : (reported n on free lent).completion.refusal ≡ 0) where
  abbrev r : Reported
  r = reported n on free lent

  -- What `complete` returned.
  gave : Gave r.completion (complete_accepted n on free) r.points (completed_points n on free)
  gave = completing n on free lent e

  told-degree : r.completion.degree ≡ degree n (completed n on free)
  told-degree = ap (λ (x : Completion). x.degree) gave.value

  told-old : max r.completion.k0 r.completion.k1 ≡ max (k0 n on) (k1 n on free)
  told-old = ap (λ (x : Completion). max x.k0 x.k1) gave.value

  none-better-told : n ≤ 8 → (g : ℕ → Bool) → ((w : ℕ) → Mem w on → g w ≡ true) → ((w : ℕ) → g w ≡ true → Mem w on ⊎ Mem w free)
      → (linear_space_answer n (select g (2 ^ n))).degree ≤ r.completion.degree
  unfolding degree
  none-better-told h g kept within =
      let a = table n on free lent e in
      let keeps : Keeps on free g = record { kept = kept; within = λ w t. (allowed-told on free w).1 (within w t) } in
      omega (
        arith,
        told-degree,
        selected-degree n on free a r gave g,
        keeps-degree n on free g a.on_below keeps,
        ap length (completed-linear n on free a.on_below h),
      )

  report-told : r.analysis.refusal ≡ 0 → table_text n on free ≡ number_line variables_word n ++ (counts_line (length on) (length free)
      ++ (space_text n (is_simple n free) (vectors_of r.analysis.basis) r.restriction ++ form_text n on free))
  unfolding table_text
  report-told g =
      ap₂ (λ (bs points : List ℕ). number_line variables_word n ++ (counts_line (length on) (length free) ++ (space_text n (is_simple n free) bs points ++ form_text n on free)))
      (sym (analysed-vectors n on free lent g)) (sym (analysing n on free lent g).list)

  marked-is : (is_simple n free ≡ true) ↔ ((8 < n) × (0 < length free))
  unfolding is_simple
  marked-is = (
    λ m. (ltb-true 8 n (and_l (ltb 8 n) (ltb 0 (length free)) m), ltb-true 0 (length free) (and_r (ltb 8 n) (ltb 0 (length free)) m)),
    λ p. and_i (ltb 8 n) (ltb 0 (length free)) (lt-ltb 8 n p.0) (lt-ltb 0 (length free) p.1),
  )

  pub free-points : FreePoints n on free r
  unfolding completed_points
  free-points =
      let a = table n on free lent e in
      record {
        space = λ h. largest-said n on free a r gave h (vectors_of r.space.basis) r.completion.degree (spaced-vectors n on free lent e)
            (subst (SpaceSays n r (vectors_of r.space.basis)) (sym ((demand2 n on free lent).degree e)) ((demand2 n on free lent).space e));
        analysis = λ h g. largest-said n on free a r gave h (vectors_of r.analysis.basis) r.analysis.degree (analysed-vectors n on free lent g)
            ((demand2 n on free lent).analyse e g).space;
        none-better = none-better-told;
        no_less = omega (arith, told-degree, told-old, completed-degree n on free a.on_below);
        old-rule = λ h. gave.list ∙ ap (λ (f : ℕ → Bool). select f (2 ^ n)) (completed-simply n on free h);
        old-degree = λ h. told-degree ∙ ap (degree n) (completed-simply n on free h) ∙ simply-degree n on free ∙ sym told-old;
        report = report-told;
        marked = marked-is;
      }
