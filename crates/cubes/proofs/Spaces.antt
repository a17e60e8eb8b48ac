-- All cosets of one space at once, as a loop over its basis finds its one prime: the fold, the prime by a count, and the on points in it. Read next: Counts.
use mathlib.Core.Path.{◌≡◌, refl, sym, ap, ap₂, ◌∙◌, subst}
use mathlib.Core.Bool.{Bool, true, false, cond, ◌&&◌, ◌||◌}
use mathlib.Core.Logic.{inl, inr, ◌↔◌}
use mathlib.Core.List.{List, [], ◌∷◌}
use Prim.Native.Nat.{ℕ, zero, suc, ◌^◌, ◌≤◌, ◌<◌}
use native.Mathlib.Nat.{eq-or-lt_of_le, lt_of_not-le, le_of_suc-le-suc, suc_inj}
use native.Mathlib.Decide.{dec_le}
use native.Mathlib.Omega.{arith}
use lib.ListN.{length, get_or}
use Rattle.gf2.specs.Bits.{◌⊕◌}
use Rattle.gf2.specs.Finite.{Mem, select}
use Rattle.gf2.specs.Span.{Span}
use Rattle.gf2.proofs.Logic.{clash, same, and_l, and_r, and-exchange, or-exchange}
use Rattle.gf2.proofs.Xor.{xor-swap, xors}
use Rattle.gf2.proofs.Finite.{get_d-mem, select-mem, mem-select, select-ext, select-length}
use Rattle.gf2.proofs.Span.{span-xor}
use Rattle.cubes.specs.Cubes.{Candidate, degree, points_of, size, IsCandidate}
use Rattle.cubes.specs.Primes.{every_point, some_point, allowed, is_prime, Alone}
use Rattle.cubes.specs.Records.{on_count}
use Rattle.cubes.proofs.Cubes.{select-step, points-are, candidate-size}
use Rattle.cubes.proofs.Primes.{every-point, some-point, prime-alone}

-- ---- the fold

-- For each vector b, f x is replaced by f x AND f (x ⊕ b); afterwards it says of x that every point of its coset passed.
pub every-step : (f : ℕ → Bool) (b : ℕ) (bs : List ℕ) (x : ℕ) → every_point f (b ∷ bs) x ≡ every_point (λ y. f y && f (y ⊕ b)) bs x
unfolding every_point
every-step f b [] x = refl
every-step f b (c ∷ bs) x =
    ap (λ (z : ℕ). (every_point f bs x && every_point f bs (x ⊕ c)) && (every_point f bs (x ⊕ b) && every_point f bs z)) (xor-swap x b c)
    ∙ and-exchange (every_point f bs x) (every_point f bs (x ⊕ c)) (every_point f bs (x ⊕ b)) (every_point f bs (x ⊕ c ⊕ b))
    ∙ ap₂ ◌&&◌ (every-step f b bs x) (every-step f b bs (x ⊕ c))

-- And with OR, that some point of it passed.
pub some-step : (f : ℕ → Bool) (b : ℕ) (bs : List ℕ) (x : ℕ) → some_point f (b ∷ bs) x ≡ some_point (λ y. f y || f (y ⊕ b)) bs x
unfolding some_point
some-step f b [] x = refl
some-step f b (c ∷ bs) x =
    ap (λ (z : ℕ). (some_point f bs x || some_point f bs (x ⊕ c)) || (some_point f bs (x ⊕ b) || some_point f bs z)) (xor-swap x b c)
    ∙ or-exchange (some_point f bs x) (some_point f bs (x ⊕ c)) (some_point f bs (x ⊕ b)) (some_point f bs (x ⊕ c ⊕ b))
    ∙ ap₂ ◌||◌ (some-step f b bs x) (some-step f b bs (x ⊕ c))

-- ---- the prime of a space by a count

-- Of two tests, the second of which passes what the first does: at least as many pass it, and as many only if the same numbers do.
one_more : (s t : Bool) → (s ≡ true → t ≡ true) → cond s 1 0 ≤ cond t 1 0
one_more false t k = omega arith
one_more true t k = rw (k refl) (omega arith)

select-more : (f g : ℕ → Bool) (m : ℕ) → ((x : ℕ) → x < m → f x ≡ true → g x ≡ true) → length (select f m) ≤ length (select g m)
unfolding select
select-more f g zero h = omega arith
select-more f g (suc m) h =
    omega (arith, select-step f m, select-step g m, select-more f g m (λ x l. h x (omega arith)), one_more (f m) (g m) (h m (omega arith)))

select_equal : (f g : ℕ → Bool) (m : ℕ) → ((x : ℕ) → x < m → f x ≡ true → g x ≡ true) → length (select f m) ≡ length (select g m)
    → (x : ℕ) → x < m → g x ≡ true → f x ≡ true
select_equal f g zero h e x l t = absurd (omega arith)
select_equal f g (suc m) h e x l t =
    let more = select-more f g m (λ y i. h y (omega arith)) in
    let one = one_more (f m) (g m) (h m (omega arith)) in
    elim (eq-or-lt_of_le l) [
      | inl q ↦ subst (λ (z : ℕ). f z ≡ true) (sym (suc_inj q)) (top more (f m) refl (subst (λ (z : ℕ). g z ≡ true) (suc_inj q) t))
      | inr k ↦ select_equal f g m (λ y i. h y (omega arith)) (omega (arith, select-step f m, select-step g m)) x (le_of_suc-le-suc k) t
    ]
  where
    top : length (select f m) ≤ length (select g m) → (s : Bool) → f m ≡ s → g m ≡ true → s ≡ true
    top more true p q = refl
    top more false p q =
        absurd (omega (arith, select-step f m, select-step g m, ap {B = ℕ} (λ (s : Bool). cond s 1 0) p, ap {B = ℕ} (λ (s : Bool). cond s 1 0) q))

-- Some number passes exactly if the selection isn't empty.
select-some : (f : ℕ → Bool) (m : ℕ) → (0 < length (select f m)) ↔ ((x : ℕ) × (x < m) × (f x ≡ true))
select-some f m = (
  λ h. let i = select-mem f m (get_or (select f m) 0 0) (get_d-mem (select f m) 0 0 h) in (get_or (select f m) 0 0, i.0, i.1),
  λ h. some (select f m) h.0 (mem-select f m h.0 h.1 h.2),
)
  where
    some : (l : List ℕ) (x : ℕ) → Mem x l → 0 < length l
    some [] x h = elim h [ ]
    some (y ∷ l) x i = omega arith

module _ (n : ℕ) (on free : ℕ → Bool) (c : Candidate) (k : IsCandidate n c) where
  -- The number of on points is that of a selection, and at most that of all points; it isn't 0 exactly if the candidate holds an on point.
  pub on-count-most : on_count n on c ≤ 2 ^ n
  unfolding on_count
  on-count-most = select-length (λ x. points_of c x && on x) (2 ^ n)

  pub count_held : (some_point on c.vectors c.point ≡ true) ↔ (0 < on_count n on c)
  unfolding on_count
  count_held =
      let s = select-some (λ x. points_of c x && on x) (2 ^ n) in (
        λ t.
            let h = (some-point on c.vectors c.point).0 t in
            let i = (points-are n c k h.0).1 h.1 in
            s.1 (h.0, i.0, rw i.1 h.2),
        λ h.
            let w = s.0 h in
            (some-point on c.vectors c.point).1 (w.0, (points-are n c k w.0).0 (w.1, and_l (points_of c w.0) (on w.0) w.2), and_r (points_of c w.0) (on w.0) w.2),
      )

  -- The points whose coset of the candidate's space lies inside on plus free.
  abbrev inside : ℕ → Bool
  inside = every_point (allowed on free) c.vectors

  own : inside c.point ≡ true → (q : ℕ) → q < 2 ^ n → points_of c q ≡ true → inside q ≡ true
  own i q l e = (every-point (allowed on free) c.vectors q).1 (λ x a. (every-point (allowed on free) c.vectors c.point).0 i x
      (subst (Span c.vectors) (simp xors) (span-xor c.vectors (x ⊕ q) (q ⊕ c.point) a ((points-are n c k q).0 (l, e)))))

  -- If one coset of a space lies inside on plus free, it is the only one exactly if as many points have their coset inside as it has points; and then they
  -- are its points.
  alone-count : inside c.point ≡ true → Alone n on free c ↔ (size n inside ≡ 2 ^ degree c)
  alone-count i = (
    λ a. sym (ap length (select-ext (points_of c) inside (2 ^ n) (λ q l. same (points_of c q) (inside q) (own i q l) (a q l)))) ∙ candidate-size n c k,
    λ e. select_equal (points_of c) inside (2 ^ n) (own i) (candidate-size n c k ∙ sym e),
  )

  alone-points : inside c.point ≡ true → size n inside ≡ 2 ^ degree c → (q : ℕ) → q < 2 ^ n → inside q ≡ points_of c q
  alone-points i e q l = same (inside q) (points_of c q) ((alone-count i).1 e q l) (own i q l)

  -- So a candidate is prime exactly if its coset lies inside on plus free, holds an on point, and no more points than its own have their coset inside.
  pub prime-count : (is_prime n on free c ≡ true) ↔ ((inside c.point ≡ true) × (some_point on c.vectors c.point ≡ true) × (size n inside ≡ 2 ^ degree c))
  prime-count =
      let e = prime-alone n on free c k in (
        λ t. let h = e.0 t in (h.0, h.1, (alone-count h.0).0 h.2),
        λ h. e.1 (h.0, h.1, (alone-count h.0).1 h.2),
      )

  -- A prime holds as many on points as there are on points whose coset lies inside; and if there is none, a coset that is alone inside is no prime.
  pub prime-holds : inside c.point ≡ true → size n inside ≡ 2 ^ degree c → size n (λ x. inside x && on x) ≡ cond (is_prime n on free c) (on_count n on c) 0
  unfolding on_count
  prime-holds i e =
      ap length (select-ext (λ x. inside x && on x) (λ x. points_of c x && on x) (2 ^ n) (λ x l. ap (λ (t : Bool). t && on x) (alone-points i e x l)))
      ∙ go (is_prime n on free c) refl
    where
      go : (t : Bool) → is_prime n on free c ≡ t → on_count n on c ≡ cond t (on_count n on c) 0
      go true q = refl
      go false q = elim (dec_le 1 (on_count n on c)) [
        | yes h ↦ clash (prime-count.1 (i, count_held.1 h, e)) q
        | no h ↦ omega (arith, lt_of_not-le h)
      ]

  pub prime-some : is_prime n on free c ≡ true → 0 < on_count n on c
  prime-some t = count_held.0 (prime-count.0 t).1
