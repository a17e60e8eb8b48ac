-- Laws of specs.Primes: the test for a prime is the definition over sets, and a space has at most one prime. Read next: Spaces.
use mathlib.Core.Path.{◌≡◌, refl, sym, ap, ◌∙◌, subst}
use mathlib.Core.Bool.{Bool, true, false, not, ◌&&◌, ◌||◌}
use mathlib.Core.Logic.{◌⊎◌, inl, inr, ◌↔◌}
use mathlib.Core.List.{List, [], ◌∷◌}
use Prim.Native.Nat.{ℕ, ◌^◌, ◌<◌}
use lib.Bits.{xor_self, xor_lt}
use borrow.Author.Tests.{not-true}
use Rattle.gf2.specs.Bits.{◌⊕◌}
use Rattle.gf2.specs.Finite.{all, In}
use Rattle.gf2.specs.Span.{Span, Coset, Pseudocube}
use Rattle.gf2.specs.Basis.{insert}
use Rattle.gf2.proofs.Logic.{clash, and_l, and_r, and_i, or_l, or_r, or_cases}
use Rattle.gf2.proofs.Finite.{all-at, all_of}
use Rattle.gf2.proofs.Xor.{xor_assoc, xor-cancel, xor-eq, xor-swap, xors}
use Rattle.gf2.proofs.Span.{span-zero, coset-self}
use Rattle.gf2.proofs.Reduce.{reduce-coset}
use Rattle.gf2.proofs.Insert.{insert-reduced, insert-span}
use Rattle.gf2.proofs.Cubes.{coset-cube}
use Rattle.cubes.specs.Cubes.{SameSet, Within, Candidate, candidate, spans, points_of, IsCandidate}
use Rattle.cubes.specs.Primes.{Inside, Prime, every_point, some_point, allowed, cannot_grow, is_prime, Alone}
use Rattle.cubes.proofs.Cubes.{spans-is, least-reduce, points-are, candidate-cube, point-below}

-- ---- every point and some point of a coset

-- The points of p XOR the span with b more: those of p, and those of p ⊕ b.
pub coset-cons : (p b : ℕ) (bs : List ℕ) (x : ℕ) → Coset p (b ∷ bs) x ↔ (Coset p bs x ⊎ Coset (p ⊕ b) bs x)
coset-cons p b bs x = (
  λ s. elim s [ inl a ↦ inl a | inr a ↦ inr (subst (Span bs) (xor_assoc x p b) a) ],
  λ s. elim s [ inl a ↦ inl a | inr a ↦ inr (subst (Span bs) (sym (xor_assoc x p b)) a) ],
)

pub every-point : (f : ℕ → Bool) (bs : List ℕ) (p : ℕ) → (every_point f bs p ≡ true) ↔ ((x : ℕ) → Coset p bs x → f x ≡ true)
unfolding every_point
every-point f [] p = (λ e x s. subst (λ (z : ℕ). f z ≡ true) (sym (xor-eq x p s)) e, λ h. h p (xor_self p))
every-point f (b ∷ bs) p = (
  λ e x s. elim ((coset-cons p b bs x).0 s) [
    | inl a ↦ (every-point f bs p).0 (and_l (every_point f bs p) (every_point f bs (p ⊕ b)) e) x a
    | inr a ↦ (every-point f bs (p ⊕ b)).0 (and_r (every_point f bs p) (every_point f bs (p ⊕ b)) e) x a
  ],
  λ h. and_i (every_point f bs p) (every_point f bs (p ⊕ b))
      ((every-point f bs p).1 (λ x a. h x ((coset-cons p b bs x).1 (inl a)))) ((every-point f bs (p ⊕ b)).1 (λ x a. h x ((coset-cons p b bs x).1 (inr a)))),
)

pub some-point : (f : ℕ → Bool) (bs : List ℕ) (p : ℕ) → (some_point f bs p ≡ true) ↔ ((x : ℕ) × Coset p bs x × (f x ≡ true))
unfolding some_point
some-point f [] p = (λ e. (p, xor_self p, e), λ h. subst (λ (z : ℕ). f z ≡ true) (xor-eq h.0 p h.1) h.2)
some-point f (b ∷ bs) p = (
  λ e. elim (or_cases (some_point f bs p) (some_point f bs (p ⊕ b)) e) [
    | inl t ↦ let h = (some-point f bs p).0 t in (h.0, (coset-cons p b bs h.0).1 (inl h.1), h.2)
    | inr t ↦ let h = (some-point f bs (p ⊕ b)).0 t in (h.0, (coset-cons p b bs h.0).1 (inr h.1), h.2)
  ],
  λ h. elim ((coset-cons p b bs h.0).0 h.1) [
    | inl a ↦ or_l (some_point f bs p) (some_point f bs (p ⊕ b)) ((some-point f bs p).1 (h.0, a, h.2))
    | inr a ↦ or_r (some_point f bs p) (some_point f bs (p ⊕ b)) ((some-point f bs (p ⊕ b)).1 (h.0, a, h.2))
  ],
)

pub allowed-is : (on free : ℕ → Bool) (x : ℕ) → (allowed on free x ≡ true) ↔ ((on x ≡ true) ⊎ (free x ≡ true))
allowed-is on free x = (or_cases (on x) (free x), λ h. elim h [ inl a ↦ or_l (on x) (free x) a | inr a ↦ or_r (on x) (free x) a ])

-- ---- no larger pseudocube, and no further direction

-- The vectors that can be added to the directions inside S are directions already.
abbrev pub Stuck : ℕ → (ℕ → Bool) → Candidate → Type 0
Stuck n S c = (v : ℕ) → v < 2 ^ n → ((x : ℕ) → Coset c.point (v ∷ c.vectors) x → S x ≡ true) → Span c.vectors v

module _ (n : ℕ) (on free : ℕ → Bool) (c : Candidate) (k : IsCandidate n c) where
  pub grow-is : (cannot_grow n on free c ≡ true) ↔ Stuck n (allowed on free) c
  unfolding cannot_grow
  grow-is = (there, back)
    where
      grown : ℕ → Bool
      grown v = every_point (allowed on free) (v ∷ c.vectors) c.point

      there : all (λ v. spans c.vectors v || not (grown v)) (2 ^ n) ≡ true → Stuck n (allowed on free) c
      there e v l h = elim (or_cases (spans c.vectors v) (not (grown v)) (all-at (λ v. spans c.vectors v || not (grown v)) (2 ^ n) e v l)) [
        | inl t ↦ (spans-is c.vectors k.reduced v).0 t
        | inr t ↦ clash ((every-point (allowed on free) (v ∷ c.vectors) c.point).1 h) (not-true (grown v) t)
      ]

      one : (v : ℕ) → (grown v ≡ true → Span c.vectors v) → (t : Bool) → grown v ≡ t → spans c.vectors v || not t ≡ true
      one v h true e = or_l (spans c.vectors v) false ((spans-is c.vectors k.reduced v).1 (h e))
      one v h false e = or_r (spans c.vectors v) true refl

      back : Stuck n (allowed on free) c → all (λ v. spans c.vectors v || not (grown v)) (2 ^ n) ≡ true
      back s = all_of (λ v. spans c.vectors v || not (grown v)) (2 ^ n)
          (λ v l. one v (λ e. s v l ((every-point (allowed on free) (v ∷ c.vectors) c.point).0 e)) (grown v) refl)

  -- C and C ⊕ v together are a pseudocube.
  wide_below : (v : ℕ) → v < 2 ^ n → (x : ℕ) → Coset c.point (v ∷ c.vectors) x → x < 2 ^ n
  wide_below v l x (inl a) = k.below x a
  wide_below v l x (inr a) = subst (λ (z : ℕ). z < 2 ^ n) (xor-cancel x v) (xor_lt n (x ⊕ v) v (k.below (x ⊕ v) (subst (Span c.vectors) (xor-swap x c.point v) a)) l)

  wide : (v : ℕ) → v < 2 ^ n → (D : ℕ → Bool) × Pseudocube n D × ((x : ℕ) → In n D x ↔ Coset c.point (v ∷ c.vectors) x)
  wide v l = (d.0, d.1, λ x. (λ i. (e x).0 ((d.2 x).0 i), λ a. (d.2 x).1 ((e x).1 a)))
    where
      e : (x : ℕ) → Coset c.point (insert c.vectors v) x ↔ Coset c.point (v ∷ c.vectors) x
      e x = insert-span c.vectors v (x ⊕ c.point)

      d : (D : ℕ → Bool) × Pseudocube n D × ((x : ℕ) → In n D x ↔ Coset c.point (insert c.vectors v) x)
      d = coset-cube n c.point (insert c.vectors v) (insert-reduced c.vectors v k.reduced) (λ x a. wide_below v l x ((e x).0 a))

  Largest : Type 0
  Largest = (D : ℕ → Bool) → Pseudocube n D → Inside n on free D → Within n (points_of c) D → Within n D (points_of c)

  largest-stuck : Largest → Stuck n (allowed on free) c
  unfolding Largest
  largest-stuck m v l f =
      let d = wide v l in
      let own : Coset c.point (v ∷ c.vectors) (v ⊕ c.point) = inr (subst (Span c.vectors) (sym (ap (λ (z : ℕ). z ⊕ v) (xor-cancel v c.point) ∙ xor_self v)) (span-zero c.vectors)) in
      subst (Span c.vectors) (xor-cancel v c.point) ((points-are n c k (v ⊕ c.point)).0 (m d.0 d.1
      (λ x i. (allowed-is on free x).0 (f x ((d.2 x).0 i)))
      (λ x i. (d.2 x).1 (inl ((points-are n c k x).0 i)))
      (v ⊕ c.point) ((d.2 (v ⊕ c.point)).1 own)))

  stuck-largest : Stuck n (allowed on free) c → Largest
  unfolding Largest
  stuck-largest s D d ins sub q i =
      (points-are n c k q).1 (s (q ⊕ c.point) (xor_lt n q c.point i.0 (point-below n c k)) (λ x a. (allowed-is on free x).1 (ins x (held x a))))
    where
      ip : In n D c.point
      ip = sub c.point ((points-are n c k c.point).1 (coset-self c.point c.vectors))

      held : (x : ℕ) → Coset c.point ((q ⊕ c.point) ∷ c.vectors) x → In n D x
      held x (inl a) = sub x ((points-are n c k x).1 a)
      held x (inr a) = subst (In n D) (simp xors) (d.triples (x ⊕ (q ⊕ c.point)) q c.point
          (sub (x ⊕ (q ⊕ c.point)) ((points-are n c k (x ⊕ (q ⊕ c.point))).1 (subst (Span c.vectors) (xor-swap x c.point (q ⊕ c.point)) a))) i ip)

  -- ---- the test is the definition

  inside_is : (every_point (allowed on free) c.vectors c.point ≡ true) ↔ Inside n on free (points_of c)
  inside_is =
      let e = every-point (allowed on free) c.vectors c.point in (
        λ t x i. (allowed-is on free x).0 (e.0 t x ((points-are n c k x).0 i)),
        λ h. e.1 (λ x a. (allowed-is on free x).1 (h x ((points-are n c k x).1 a))),
      )

  held-is : (some_point on c.vectors c.point ≡ true) ↔ ((x : ℕ) × In n (points_of c) x × (on x ≡ true))
  held-is =
      let e = some-point on c.vectors c.point in (
        λ t. let h = e.0 t in (h.0, (points-are n c k h.0).1 h.1, h.2),
        λ h. e.1 (h.0, (points-are n c k h.0).0 h.1, h.2),
      )

  -- A candidate passes the test exactly if its set is a prime: to try every vector outside the span is enough.
  pub prime-is : (is_prime n on free c ≡ true) ↔ Prime n on free (points_of c)
  unfolding is_prime Largest
  prime-is = (
    λ e. let f = and_r (every_point (allowed on free) c.vectors c.point) (some_point on c.vectors c.point && cannot_grow n on free c) e in record {
      cube = candidate-cube n c k;
      inside = inside_is.0 (and_l (every_point (allowed on free) c.vectors c.point) (some_point on c.vectors c.point && cannot_grow n on free c) e);
      held = held-is.0 (and_l (some_point on c.vectors c.point) (cannot_grow n on free c) f);
      largest = stuck-largest (grow-is.0 (and_r (some_point on c.vectors c.point) (cannot_grow n on free c) f));
    },
    λ h. and_i (every_point (allowed on free) c.vectors c.point) (some_point on c.vectors c.point && cannot_grow n on free c) (inside_is.1 h.inside)
        (and_i (some_point on c.vectors c.point) (cannot_grow n on free c) (held-is.1 h.held) (grow-is.1 (largest-stuck h.largest))),
  )

  -- ---- a space has at most one prime

  -- A larger pseudocube of one step is two cosets of one space: so a candidate inside cannot grow exactly if no other coset of its space is inside.
  stuck-alone : every_point (allowed on free) c.vectors c.point ≡ true → Stuck n (allowed on free) c ↔ Alone n on free c
  stuck-alone i = (there, back)
    where
      S : ℕ → Bool
      S = allowed on free

      there : Stuck n S c → Alone n on free c
      there s q l e = ((points-are n c k q).1 (s (q ⊕ c.point) (xor_lt n q c.point l (point-below n c k)) (λ x a.
          elim ((coset-cons c.point (q ⊕ c.point) c.vectors x).0 a) [
            | inl b ↦ (every-point S c.vectors c.point).0 i x b
            | inr b ↦ (every-point S c.vectors q).0 e x (subst (λ (z : ℕ). Coset z c.vectors x) (simp xors) b)
          ]))).1

      back : Alone n on free c → Stuck n S c
      back h v l f =
          let m : c.point ⊕ v < 2 ^ n = xor_lt n c.point v (point-below n c k) l in
          let t = (every-point S c.vectors (c.point ⊕ v)).1 (λ x a. f x ((coset-cons c.point v c.vectors x).1 (inr a))) in
          subst (Span c.vectors) (simp xors) ((points-are n c k (c.point ⊕ v)).0 (m, h (c.point ⊕ v) m t))

  -- A candidate is prime exactly if it lies inside on plus free, holds an on point, and no other coset of its space lies inside.
  pub prime-alone : (is_prime n on free c ≡ true)
      ↔ ((every_point (allowed on free) c.vectors c.point ≡ true) × (some_point on c.vectors c.point ≡ true) × Alone n on free c)
  unfolding is_prime
  prime-alone = (
    λ e.
        let i = and_l (every_point (allowed on free) c.vectors c.point) (some_point on c.vectors c.point && cannot_grow n on free c) e in
        let f = and_r (every_point (allowed on free) c.vectors c.point) (some_point on c.vectors c.point && cannot_grow n on free c) e in
        (i, and_l (some_point on c.vectors c.point) (cannot_grow n on free c) f, (stuck-alone i).0 (grow-is.0 (and_r (some_point on c.vectors c.point) (cannot_grow n on free c) f))),
    λ h. and_i (every_point (allowed on free) c.vectors c.point) (some_point on c.vectors c.point && cannot_grow n on free c) h.0
        (and_i (some_point on c.vectors c.point) (cannot_grow n on free c) h.1 (grow-is.1 ((stuck-alone h.0).1 h.2))),
  )

-- So two primes of one space are one.
pub one-prime : (n : ℕ) (on free : ℕ → Bool) (p q : ℕ) (bs : List ℕ) → IsCandidate n (candidate p bs) → IsCandidate n (candidate q bs)
    → is_prime n on free (candidate p bs) ≡ true → is_prime n on free (candidate q bs) ≡ true → p ≡ q
one-prime n on free p q bs j k e f =
    let a = (prime-alone n on free (candidate p bs) j).0 e in
    let b = (prime-alone n on free (candidate q bs) k).0 f in
    let l = point-below n (candidate q bs) k in
    let s : Coset p bs q = (points-are n (candidate p bs) j q).0 (l, a.2 q l b.0) in
    sym (least-reduce bs j.reduced p j.least) ∙ sym (reduce-coset bs j.reduced q p s) ∙ least-reduce bs k.reduced q k.least

-- A set with the same points as a prime is a prime.
pub prime-same : {n : ℕ} {on free C D : ℕ → Bool} → SameSet n C D → Prime n on free C → Prime n on free D
prime-same e p = record {
  cube = record {
    some = (p.cube.some.0, (e p.cube.some.0).0 p.cube.some.1);
    triples = λ x y z a b c. (e (x ⊕ y ⊕ z)).0 (p.cube.triples x y z ((e x).1 a) ((e y).1 b) ((e z).1 c));
  };
  inside = λ x i. p.inside x ((e x).1 i);
  held = (p.held.0, (e p.held.0).0 p.held.1, p.held.2);
  largest = λ F f ins sub x i. (e x).0 (p.largest F f ins (λ y j. sub y ((e y).0 j)) x i);
}
