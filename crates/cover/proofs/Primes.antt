-- Every candidate inside on plus free that holds an on point lies in a prime: it grows by one direction at a time until it cannot. So every
-- on point lies in a prime; and where there are two on points of a complete function or more, so does each prime have two. Read next: Choice.
use mathlib.Core.Path.{◌≡◌, refl, sym, ap, ◌∙◌, subst}
use mathlib.Core.Bool.{Bool, true, false, not, ◌&&◌, ◌||◌}
use mathlib.Core.Logic.{◌⊎◌, inl, inr, ◌≢◌}
use mathlib.Core.List.{List, [], ◌∷◌}
use Prim.Native.Nat.{ℕ, zero, suc, ◌+◌, ◌^◌, ◌≤◌, ◌<◌}
use native.Mathlib.Omega.{arith}
use lib.Bits.{xor_lt}
use borrow.Author.Tests.{eqb-false, not-false}
use Rattle.gf2.specs.Bits.{◌⊕◌}
use Rattle.gf2.specs.Finite.{Mem}
use Rattle.gf2.specs.Span.{Span, Coset}
use Rattle.gf2.specs.Basis.{Reduced, reduce, insert}
use Rattle.gf2.proofs.Logic.{and_l, and_r, and_i, or-none, or_l}
use Rattle.gf2.proofs.Finite.{all-not}
use Rattle.gf2.proofs.Xor.{xor-eq, xor-fix, xors}
use Rattle.gf2.proofs.Span.{span-mem, span-xor, coset-self}
use Rattle.gf2.proofs.Reduce.{reduce-le, reduce-twice}
use Rattle.gf2.proofs.Insert.{insert-reduced, insert-below, insert-length, insert-span}
use Rattle.gf2.proofs.Cubes.{coset-reduce}
use Rattle.cubes.specs.Cubes.{Candidate, candidate, degree, spans, points_of, IsCandidate}
use Rattle.cubes.specs.Candidates.{candidates}
use Rattle.cubes.specs.Primes.{every_point, some_point, allowed, cannot_grow, is_prime}
use Rattle.cubes.proofs.Cubes.{spans-is, points-are, point-below, vectors-below, degree-most}
use Rattle.cubes.proofs.Candidates.{candidate-of, candidate-is}
use Rattle.cubes.proofs.Primes.{every-point, some-point, grow-is}

-- The points of a candidate, below 2 ^ n or not.
pub points-coset : (n : ℕ) (c : Candidate) → IsCandidate n c → (x : ℕ) → points_of c x ≡ true → Coset c.point c.vectors x
unfolding points_of
points-coset n c k x e = (spans-is c.vectors k.reduced (x ⊕ c.point)).0 e

module _ (n : ℕ) (on free : ℕ → Bool) where
  -- A candidate inside on plus free that holds the points of X.
  pub record Held (X : ℕ → Type 0) (c : Candidate) : Type 0 where
    pub candidate : IsCandidate n c
    pub inside : (x : ℕ) → Coset c.point c.vectors x → allowed on free x ≡ true
    pub over : (x : ℕ) → X x → Coset c.point c.vectors x

  -- The candidate with one direction more.
  abbrev wider : Candidate → ℕ → Candidate
  wider c v = candidate (reduce (insert c.vectors v) c.point) (insert c.vectors v)

  wider-points : (c : Candidate) (v x : ℕ) → Coset (wider c v).point (wider c v).vectors x → Coset c.point (v ∷ c.vectors) x
  wider-points c v x a = (insert-span c.vectors v (x ⊕ c.point)).0 ((coset-reduce (insert c.vectors v) c.point x).1 a)

  points-wider : (c : Candidate) (v x : ℕ) → Coset c.point (v ∷ c.vectors) x → Coset (wider c v).point (wider c v).vectors x
  points-wider c v x a = (coset-reduce (insert c.vectors v) c.point x).0 ((insert-span c.vectors v (x ⊕ c.point)).1 a)

  widen : (X : ℕ → Type 0) (c : Candidate) (v : ℕ) → v < 2 ^ n → every_point (allowed on free) (v ∷ c.vectors) c.point ≡ true → Held X c → Held X (wider c v)
  widen X c v l e h = record {
    candidate = candidate-of n (reduce cs c.point) cs r (insert-below n c.vectors v (vectors-below n c h.candidate) l)
        (omega (arith, reduce-le cs r c.point, point-below n c h.candidate)) (reduce-twice cs r c.point);
    inside = λ x a. (every-point (allowed on free) (v ∷ c.vectors) c.point).0 e x (wider-points c v x a);
    over = λ x i. points-wider c v x (inl (h.over x i));
  }
    where
      cs : List ℕ
      cs = insert c.vectors v

      r : Reduced cs
      r = insert-reduced c.vectors v h.candidate.reduced

  step : (X : ℕ → Type 0) (c : Candidate) → Held X c → (cannot_grow n on free c ≡ true) ⊎ ((d : Candidate) × Held X d × (degree d ≡ suc (degree c)))
  unfolding cannot_grow spans
  step X c h = go (cannot_grow n on free c) refl
    where
      go : (t : Bool) → cannot_grow n on free c ≡ t → (cannot_grow n on free c ≡ true) ⊎ ((d : Candidate) × Held X d × (degree d ≡ suc (degree c)))
      go true e = inl e
      go false e =
          let k = all-not (λ v. spans c.vectors v || not (every_point (allowed on free) (v ∷ c.vectors) c.point)) (2 ^ n) e in
          let v = k.0 in
          let i = or-none (spans c.vectors v) (not (every_point (allowed on free) (v ∷ c.vectors) c.point)) k.2 in
          inr (
            wider c v,
            widen X c v k.1 (not-false (every_point (allowed on free) (v ∷ c.vectors) c.point) i.1) h,
            insert-length c.vectors v (eqb-false (reduce c.vectors v) 0 i.0),
          )

  grown : (X : ℕ → Type 0) (d : ℕ) (c : Candidate) → n ≤ d + degree c → Held X c → (e : Candidate) × Held X e × (cannot_grow n on free e ≡ true)
  grown X zero c l h = elim (step X c h) [
    | inl s ↦ (c, h, s)
    | inr k ↦ absurd (omega (arith, k.2, degree-most n k.0 k.1.candidate))
  ]
  grown X (suc d) c l h = elim (step X c h) [
    | inl s ↦ (c, h, s)
    | inr k ↦ grown X d k.0 (omega (arith, k.2)) k.1
  ]

  -- A candidate inside on plus free that holds an on point lies in a prime.
  pub prime-over : (c : Candidate) → IsCandidate n c → ((x : ℕ) → Coset c.point c.vectors x → allowed on free x ≡ true)
      → (x : ℕ) → Coset c.point c.vectors x → on x ≡ true
      → (d : Candidate) × Mem d (candidates n) × (is_prime n on free d ≡ true) × ((y : ℕ) → Coset c.point c.vectors y → Coset d.point d.vectors y)
  unfolding is_prime
  prime-over c k ins x i o =
      let g = grown (Coset c.point c.vectors) n c (omega arith) (record { candidate = k; inside = ins; over = λ y a. a }) in
      let d = g.0 in
      let h = g.1 in (
        d,
        (candidate-is n d).1 h.candidate,
        and_i (every_point (allowed on free) d.vectors d.point) (some_point on d.vectors d.point && cannot_grow n on free d)
            ((every-point (allowed on free) d.vectors d.point).1 h.inside)
            (and_i (some_point on d.vectors d.point) (cannot_grow n on free d) ((some-point on d.vectors d.point).1 (x, h.over x i, o)) g.2),
        h.over,
      )

  -- Every on point lies in a prime.
  pub prime-at : (x : ℕ) → x < 2 ^ n → on x ≡ true → (d : Candidate) × Mem d (candidates n) × (is_prime n on free d ≡ true) × (points_of d x ≡ true)
  unfolding reduce
  prime-at x l o =
      let k = candidate-of n x [] tt (λ c m. absurd m) l refl in
      let g = prime-over (candidate x []) k (λ y a. or_l (on y) (free y) (ap on (xor-eq y x a) ∙ o)) x (coset-self x []) o in
      let d = g.0 in
      (d, g.1, g.2, ((points-are n d ((candidate-is n d).0 g.1) x).1 (g.3 x (coset-self x []))).1)

  -- ---- any two points are a pseudocube

  -- A prime that holds a point x holds another, where some other point is allowed with x.
  pub prime-two : (c : Candidate) → IsCandidate n c → is_prime n on free c ≡ true → (x y : ℕ) → points_of c x ≡ true → x < 2 ^ n → y < 2 ^ n → x ≢ y → allowed on free y ≡ true
      → (z : ℕ) × (points_of c z ≡ true) × (z ≢ x)
  unfolding is_prime
  prime-two c k e x y i lx ly d o = go c.vectors refl
    where
      inside : (z : ℕ) → Coset c.point c.vectors z → allowed on free z ≡ true
      inside = (every-point (allowed on free) c.vectors c.point).0 (and_l (every_point (allowed on free) c.vectors c.point) (some_point on c.vectors c.point && cannot_grow n on free c) e)

      stuck : (v : ℕ) → v < 2 ^ n → ((z : ℕ) → Coset c.point (v ∷ c.vectors) z → allowed on free z ≡ true) → Span c.vectors v
      stuck = (grow-is n on free c k).0 (and_r (some_point on c.vectors c.point) (cannot_grow n on free c)
          (and_r (every_point (allowed on free) c.vectors c.point) (some_point on c.vectors c.point && cannot_grow n on free c) e))

      held : Coset c.point c.vectors x
      held = points-coset n c k x i

      -- Without a direction the candidate is the point x, and with y it is larger.
      alone : c.vectors ≡ [] → x ≡ y
      alone q =
          let a : x ≡ c.point = xor-eq x c.point (subst (λ bs. Coset c.point bs x) q held) in
          let s = subst (λ bs. Span bs (x ⊕ y)) q (stuck (x ⊕ y) (xor_lt n x y lx ly) (λ z m. subst (λ bs. Coset c.point ((x ⊕ y) ∷ bs) z → allowed on free z ≡ true) (sym q)
          (λ u. elim u [
            | inl b ↦ inside z (subst (λ bs. Coset c.point bs z) (sym q) b)
            | inr b ↦
                let f : z ≡ y = xor-eq z y (sym (ap (λ (w : ℕ). z ⊕ w ⊕ (x ⊕ y)) (sym a) ∙ simp xors) ∙ b) in
                ap (allowed on free) f ∙ o
          ]) m)) in
          xor-eq x y s

      go : (bs : List ℕ) → c.vectors ≡ bs → (z : ℕ) × (points_of c z ≡ true) × (z ≢ x)
      go [] q = absurd (d (alone q))
      go (b ∷ bs) q =
          let r = subst Reduced q k.reduced in
          let s : Span c.vectors b = subst (λ l. Span l b) (sym q) (span-mem (b ∷ bs) b (inl refl)) in
          let a : Coset c.point c.vectors (x ⊕ b) = subst (Span c.vectors) (simp xors) (span-xor c.vectors (x ⊕ c.point) b held s) in
          (x ⊕ b, ((points-are n c k (x ⊕ b)).1 a).1, λ u. let f : b ≡ 0 = xor-fix x b u in omega (arith, r.0))
