-- Demand 2 holds of what the public calls report of every table, with any rooms. Read next: Demand3.
use mathlib.Core.Path.{◌≡◌, refl, sym, ap, ap₂, ◌∙◌, subst}
use mathlib.Core.Bool.{Bool, true, false}
use mathlib.Core.Logic.{◌↔◌}
use mathlib.Core.List.{List, []}
use Prim.Native.Nat.{ℕ, ◌+◌, ◌-◌, ◌^◌, ◌≤◌, ◌<◌}
use native.Mathlib.Omega.{arith}
use lib.ListN.{length, length-map}
use lib.Bits.{xor_lt}
use lib.Dec.{ltb}
use borrow.Author.Tests.{lt-ltb, le-ltb}
use Rattle.gf2.specs.Bits.{◌⊕◌, index_of}
use Rattle.gf2.specs.Finite.{Mem, holds, select, Rising, In}
use Rattle.gf2.specs.Span.{Span}
use Rattle.gf2.specs.Basis.{Reduced, canonical_places, variables_at}
use Rattle.gf2.proofs.Logic.{clash}
use Rattle.gf2.proofs.Finite.{holds-mem}
use Rattle.gf2.proofs.Variables.{canonical-length}
use Rattle.basis.specs.Short.{listed}
use Rattle.basis.specs.Reduced.{vectors_of}
use Rattle.basis.proofs.Values.{vectors-back, listed_back}
use Rattle.table.specs.Refusal.{size_fault}
use Rattle.table.specs.Table.{Accepted}
use Rattle.table.proofs.Table.{refuted, no-refusal}
use Rattle.space.specs.Closure.{closed, linear_space, degree}
use Rattle.space.specs.Completion.{all_on, completed, completed_points}
use Rattle.space.specs.Restriction.{equations, values}
use Rattle.space.proofs.Closure.{closed_at, closed_of, linear-reduced, linear-span, linear-below}
use Rattle.space.proofs.Completion.{kept_on, kept_off, completed-rising, completed-points, completed-at}
use Rattle.space.proofs.Restriction.{restriction-at, restriction-rising, restriction-below, equations-length}
use Rattle.form_calls.specs.declared.FormPoints.{FormPoints}
use Rattle.form_calls.specs.declared.FormRewrite.{FormRewrite}
use Rattle.form.specs.Form.{Form, ValidForm, form_at}
use Rattle.form_calls.specs.Reading.{points_answer, rewrite_answer}
use Rattle.form_calls.proofs.Answering.{points-ways, rewrite-ways}
use Rattle.cubes.specs.Records.{max_listed}
use Rattle.cover.specs.WrittenForm.{form_size_fault}
use Rattle.cover.proofs.WrittenForm.{table-form-at}
use Rattle.writing.specs.declared.FormWritten.{FormWritten}
use Rattle.writing.specs.Writing.{form_bytes, write_accepted, write_refused, write_answer}
use Rattle.writing.proofs.Ways.{none_first, size-first, write-ways}
use Rattle.space_answer.specs.declared.LinearSpace.{LinearSpace}
use Rattle.analysis.specs.declared.Completion.{Completion}
use Rattle.analysis.specs.declared.Analysis.{Analysis}
use Rattle.analysis.specs.Spaces.{completed_restriction, complete_accepted, analyse_accepted, linear_space_answer, linear_space_accepted}
use Rattle.claims.specs.Demand2.{RoomsLent, Reported, reported, form_room, is_on, CompleteSays, SpaceSays, AnalyseSays, FormSays, Demand2}
use Rattle.claims.proofs.FormBytes.{written-valid, written-fits, bytes-decoded, bytes-accepted, bytes-points, bytes-again}
use Rattle.claims.proofs.Reports.{Gave, complete-gave, complete-table, analyse-gave, write-gave, write-small, points-gave, rewrite-gave, space-gave, selected-accepted, selected-space}

-- ---- a table that `complete` accepted, and its completed table

module _ (n : ℕ) (on free : List ℕ) (a : Accepted n on free) (r : Reported) (c : Gave r.completion (complete_accepted n on free) r.points (completed_points n on free)) where
  abbrev f : ℕ → Bool
  f = completed n on free

  -- The completed table as it is reported, below 2 ^ n.
  pub on-at : (w : ℕ) → w < 2 ^ n → is_on r w ≡ f w
  on-at w h = ap (λ (l : List ℕ). holds l w) c.list ∙ completed-at n on free w h

  points-in : (w : ℕ) → Mem w r.points → In n f w
  points-in w m = (completed-points n on free w).0 (subst (Mem w) c.list m)

  off : (w : ℕ) → (Mem w on → ⊥) → (Mem w free → ⊥) → is_on r w ≡ true → ⊥
  off w h k t =
      clash (points-in w ((holds-mem r.points w).0 t)).1
      (kept_off n on free w (refuted (holds on w) (λ e. h ((holds-mem on w).0 e))) (refuted (holds free w) (λ e. k ((holds-mem free w).0 e))))

  -- What `linear_space` returns of the on points alone, and of on and free points together.
  alone : Accepted n on []
  alone = record {
    some = a.some;
    few = a.few;
    on_below = a.on_below;
    free-below = λ p m. absurd m;
    on-rising = a.on-rising;
    free-rising = tt;
    apart = λ p l m. m;
  }

  pub selected-degree : (g : ℕ → Bool) → (linear_space_answer n (select g (2 ^ n))).degree ≡ degree n g
  unfolding degree
  selected-degree g =
      ap (λ (x : LinearSpace). x.degree) (space-gave n (select g (2 ^ n)) (selected-accepted n a.some a.few g)) ∙ ap length (selected-space n a.some a.few g)

  complete-said : CompleteSays n on free r
  complete-said = record {
    completed = c.list;
    marked-on = λ w m. on-at w (a.on_below w m) ∙ kept_on n on free w m;
    marked-off = λ w h k. refuted (is_on r w) (off w h k);
    rise = subst Rising (sym c.list) (completed-rising n on free);
    below = λ w m. (points-in w m).0;
    count = ap (λ (x : Completion). x.count) c.value ∙ ap length (sym c.list);
    all-off = ap (λ (x : Completion). x.k0) c.value ∙ sym (ap (λ (x : LinearSpace). x.degree) (space-gave n on alone));
    all-on = ap (λ (x : Completion). x.k1) c.value ∙ sym (selected-degree (all_on on free));
  }

  -- ---- its linear space

  -- The vectors that can be XORed in.
  closed-told : (v : ℕ) → In n (closed n f) v ↔ ((v < 2 ^ n) × ((w : ℕ) → w < 2 ^ n → is_on r (w ⊕ v) ≡ is_on r w))
  closed-told v = (
    λ i. (i.0, λ w h. on-at (w ⊕ v) (xor_lt n w v h i.0) ∙ closed_at n f v i.1 w h ∙ sym (on-at w h)),
    λ p. (p.0, closed_of n f v (λ w h. sym (on-at (w ⊕ v) (xor_lt n w v h p.0)) ∙ p.1 w h ∙ on-at w h)),
  )

  space-said : (basis : List ℕ) (dimension : ℕ) → basis ≡ linear_space n f → dimension ≡ length (linear_space n f) → SpaceSays n r basis dimension
  space-said basis dimension e d = record {
    reduced = subst Reduced (sym e) (linear-reduced n f);
    exactly = λ v. (λ s. (closed-told v).0 ((told v).0 s), λ p. (told v).1 ((closed-told v).1 p));
    dimension = d ∙ ap length (sym e);
  }
    where
      told : (v : ℕ) → Span basis v ↔ In n (closed n f) v
      told v = subst (λ (l : List ℕ). Span l v ↔ In n (closed n f) v) (sym e) (linear-span n f v)

  -- ---- what `analyse` reports

  module _ (g : Gave r.analysis (analyse_accepted n on free) r.restriction (completed_restriction n on free)) where
    pub basis-told : vectors_of r.analysis.basis ≡ linear_space n f
    basis-told = ap (λ (x : Analysis). vectors_of x.basis) g.value ∙ vectors-back (linear_space n f)

    masks-told : listed r.analysis.equations ≡ equations n (linear_space n f)
    masks-told = ap (λ (x : Analysis). listed x.equations) g.value ∙ listed_back (equations n (linear_space n f))

    canonical-told : listed r.analysis.canonical ≡ variables_at n (canonical_places n (linear_space n f))
    canonical-told = ap (λ (x : Analysis). listed x.canonical) g.value ∙ listed_back (variables_at n (canonical_places n (linear_space n f)))

    lengths : length (equations n (linear_space n f)) + length (variables_at n (canonical_places n (linear_space n f))) ≡ n
    lengths =
        omega (
          arith,
          length-map (canonical_places n (linear_space n f)) (index_of n),
          canonical-length n (linear_space n f) (linear-reduced n f) (linear-below n f),
          equations-length n (linear_space n f) (linear-reduced n f) (linear-below n f),
        )

    analyse-said : AnalyseSays n r
    unfolding degree
    analyse-said = record {
      space = space-said (vectors_of r.analysis.basis) r.analysis.degree basis-told (ap (λ (x : Analysis). x.degree) g.value);
      canonical = canonical-told ∙ ap (λ (l : List ℕ). variables_at n (canonical_places n l)) (sym basis-told);
      masks = masks-told ∙ ap (equations n) (sym basis-told);
      variables = ap₂ (λ (l m : List ℕ). length l + length m) masks-told canonical-told ∙ lengths;
      through = λ w h. ap₂ (λ (l m : List ℕ). holds l (values m w)) g.list masks-told ∙ restriction-at n f w h ∙ sym (on-at w h);
      rise = subst Rising (sym g.list) (restriction-rising n (linear_space n f) f);
      below = λ y m. subst (λ (l : List ℕ). y < 2 ^ length l) (sym masks-told) (restriction-below n (linear_space n f) f y (subst (Mem y) g.list m));
      count = ap (λ (x : Analysis). x.count) g.value ∙ ap length (sym g.list);
    }

  -- The number of variables that are left, by the degree reported.
  left-told : form_size_fault n on free ≡ ltb max_listed (n - r.completion.degree)
  unfolding form_size_fault
  left-told = ap (λ (x : Completion). ltb max_listed (n - x.degree)) (sym c.value)

-- ---- a form that `write_form` handed over

module _ (n : ℕ) (on free : List ℕ) (a : Accepted n on free) (small : form_size_fault n on free ≡ false) (bytes : List ℕ) (q : bytes ≡ form_bytes n on free) (room : List ℕ) where
  read-accepted : length (completed_points n on free) ≤ length room → (points_answer bytes room).refusal ≡ 0
  read-accepted h =
      sym (ap (λ (x : FormPoints). x.refusal)
      ((points-ways bytes room).whole (bytes-accepted n on free a small bytes q) (omega (arith, ap length (bytes-points n on free a small bytes q))) _ _ refl refl).0)

  rewrite-accepted : length bytes ≤ length room → (rewrite_answer bytes room).refusal ≡ 0
  rewrite-accepted h =
      sym (ap (λ (x : FormRewrite). x.refusal)
      ((rewrite-ways bytes room).whole (bytes-accepted n on free a small bytes q) (omega (arith, ap length (bytes-again n on free a small bytes q))) _ _ refl refl).0)

-- ---- when a form is written

module _ (n : ℕ) (on free : List ℕ) (a : Accepted n on free) (room : List ℕ) where
  form-written : form_size_fault n on free ≡ false → form_room ≤ length room → (write_answer n on free room).refusal ≡ 0
  form-written small h =
      sym (ap (λ (x : FormWritten). x.refusal)
      ((write-ways n on free room).whole (none_first n on free (no-refusal n on free a) small) (omega (arith, written-fits n on free a small)) _ _ refl refl).0)

  form-refused : form_size_fault n on free ≡ true → (write_answer n on free room).refusal ≡ size_fault
  form-refused large =
      sym (ap (λ (x : FormWritten). x.refusal)
      ((write-ways n on free room).faulty size_fault (size-first n on free (no-refusal n on free a) large) (λ z. omega arith) (write_refused size_fault) refl).0)

-- ---- demand 2

-- Of every table and all rooms, whatever they hold.
module _ (n : ℕ) (on free : List ℕ) (lent : RoomsLent) where
  abbrev r : Reported
  r = reported n on free lent

  pub table : r.completion.refusal ≡ 0 → Accepted n on free
  unfolding reported
  table = complete-table n on free lent.completing

  pub completing : r.completion.refusal ≡ 0 → Gave r.completion (complete_accepted n on free) r.points (completed_points n on free)
  unfolding reported
  completing = complete-gave n on free lent.completing

  pub analysing : r.analysis.refusal ≡ 0 → Gave r.analysis (analyse_accepted n on free) r.restriction (completed_restriction n on free)
  unfolding reported
  analysing = analyse-gave n on free lent.analysing

  writing : r.written.refusal ≡ 0 → Gave r.written (write_accepted n on free) r.form (form_bytes n on free)
  unfolding reported
  writing = write-gave n on free lent.writing

  spaced : r.completion.refusal ≡ 0 → r.space ≡ linear_space_accepted n (completed_points n on free)
  unfolding reported completed_points
  spaced e =
      let a = table e in
      ap (linear_space_answer n) (completing e).list
      ∙ space-gave n (completed_points n on free) (selected-accepted n a.some a.few (completed n on free))

  spaced-basis : r.completion.refusal ≡ 0 → linear_space n (holds (completed_points n on free)) ≡ linear_space n (completed n on free)
  unfolding completed_points
  spaced-basis e = let a = table e in selected-space n a.some a.few (completed n on free)

  spaced-degree : r.completion.refusal ≡ 0 → r.space.degree ≡ degree n (completed n on free)
  unfolding degree
  spaced-degree e = ap (λ (x : LinearSpace). x.degree) (spaced e) ∙ ap length (spaced-basis e)

  -- The basis that `linear_space` returns, and the one that `analyse` returns.
  pub spaced-vectors : r.completion.refusal ≡ 0 → vectors_of r.space.basis ≡ linear_space n (completed n on free)
  spaced-vectors e =
      ap (λ (x : LinearSpace). vectors_of x.basis) (spaced e) ∙ vectors-back (linear_space n (holds (completed_points n on free))) ∙ spaced-basis e

  pub analysed-vectors : r.analysis.refusal ≡ 0 → vectors_of r.analysis.basis ≡ linear_space n (completed n on free)
  analysed-vectors g = ap (λ (x : Analysis). vectors_of x.basis) (analysing g).value ∙ vectors-back (linear_space n (completed n on free))

  form-said : r.completion.refusal ≡ 0 → r.written.refusal ≡ 0 → FormSays n on free lent r
  unfolding reported
  form-said e w =
      let a = table e in
      let c = completing e in
      let g = writing w in
      let small = write-small n on free lent.writing w in
      let q = bytes-decoded n on free a small r.form g.list in
      record {
        valid = subst ValidForm (sym q) (written-valid n on free a small);
        products = q;
        size = ap (λ (x : FormWritten). x.length) g.value ∙ ap length (sym g.list);
        count = ap (λ (x : FormWritten). x.products) g.value ∙ sym (ap (λ (x : Form). length x.products) q);
        value = λ v h. ap (λ (x : Form). form_at x v) q ∙ table-form-at n on free v h ∙ sym (on-at n on free a r c v h);
        reads = λ h. read-accepted n on free a small r.form g.list lent.reading (subst (λ (l : List ℕ). length l ≤ length lent.reading) c.list h);
        points = λ p.
            let b = points-gave r.form lent.reading p in (
              b.list ∙ bytes-points n on free a small r.form g.list ∙ sym c.list,
              ap (λ (x : FormPoints). x.count) b.value ∙ ap length (sym b.list),
              ap (λ (x : FormPoints). x.variables) b.value ∙ ap (λ (x : Form). x.variables) q,
            );
        rewrites = rewrite-accepted n on free a small r.form g.list lent.rewriting;
        bytes = λ p.
            let b = rewrite-gave r.form lent.rewriting p in (
              b.list ∙ bytes-again n on free a small r.form g.list,
              ap (λ (x : FormRewrite). x.length) b.value ∙ ap length (sym b.list),
            );
      }

  pub demand2 : Demand2 n on free lent (reported n on free lent)
  unfolding degree reported
  demand2 = record {
    complete = λ e. complete-said n on free (table e) r (completing e);
    accepted = λ e. ap (λ (x : LinearSpace). x.refusal) (spaced e);
    space = λ e.
        space-said n on free (table e) r (completing e) (vectors_of r.space.basis) r.space.degree
        (spaced-vectors e) (spaced-degree e);
    degree = λ e. ap (λ (x : Completion). x.degree) (completing e).value ∙ sym (spaced-degree e);
    analyse = λ e g. analyse-said n on free (table e) r (completing e) (analysing g);
    form = form-said;
    small = λ e h. form-written n on free (table e) lent.writing (left-told n on free (table e) r (completing e) ∙ le-ltb max_listed (n - r.completion.degree) h);
    large = λ e h. form-refused n on free (table e) lent.writing (left-told n on free (table e) r (completing e) ∙ lt-ltb max_listed (n - r.completion.degree) h);
  }
