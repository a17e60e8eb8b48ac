-- Laws of specs.Cubes: what is written is a pseudocube, every pseudocube is written in exactly one way, and its size is 2 to its number of
-- vectors. Read next: Candidates.
use mathlib.Core.Path.{◌≡◌, refl, sym, ap, ap₂, ◌∙◌, subst}
use mathlib.Core.Bool.{Bool, true, false, cond, ◌&&◌, ◌||◌}
use mathlib.Core.Logic.{inl, inr, ◌↔◌}
use mathlib.Core.List.{List, [], ◌∷◌, ◌++◌}
use Prim.Native.Nat.{ℕ, zero, suc, ◌+◌, ◌^◌, ◌≤◌, ◌<◌}
use native.Mathlib.Nat.{le_antisymm}
use native.Mathlib.Omega.{arith}
use lib.ListN.{length, length-append}
use lib.Dec.{ltb}
use lib.Bits.{xor_self, xor_lt}
use borrow.Author.Tests.{ltb-true, lt-ltb, eqb-true, eq-eqb}
use Rattle.gf2.specs.Bits.{◌⊕◌}
use Rattle.gf2.specs.Finite.{Mem, select, In}
use Rattle.gf2.specs.Span.{Span, Coset, Least, Pseudocube}
use Rattle.gf2.specs.Basis.{Reduced, reduce, reduced_basis}
use Rattle.gf2.proofs.Logic.{clash, same, and_l, and_r, and_i, or_l, or_r, or_cases}
use Rattle.gf2.proofs.Finite.{least, select-mem, mem-select, select-rising}
use Rattle.gf2.proofs.Xor.{xor_assoc, xor-cancel, xor-eq, xors}
use Rattle.gf2.proofs.Leads.{has_lead-self}
use Rattle.gf2.proofs.Span.{span-mem, span-xor, coset-self, coset-directions}
use Rattle.gf2.proofs.Reduce.{reduce-zero, span-reduce, span-lead, reduce-le, reduce-least, reduced-length}
use Rattle.gf2.proofs.Unique.{unique}
use Rattle.gf2.proofs.ReducedBasis.{basis-reduced, basis-span}
use Rattle.gf2.proofs.Cubes.{coset-triples, cube-directions}
use Rattle.cubes.proofs.Lists.{ordered_same}
use Rattle.cubes.specs.Cubes.{SameSet, size, Degree, Candidate, candidate, degree, spans, points_of, IsCandidate}

-- ---- what is written

pub spans-is : (bs : List ℕ) → Reduced bs → (v : ℕ) → (spans bs v ≡ true) ↔ Span bs v
unfolding spans
spans-is bs r v = (λ e. reduce-zero bs v (eqb-true (reduce bs v) 0 e), λ s. eq-eqb (reduce bs v) 0 (span-reduce bs r v s))

-- A point is least in its coset exactly if it is its own reduction.
pub least-reduce : (bs : List ℕ) → Reduced bs → (p : ℕ) → Least (Coset p bs) p → reduce bs p ≡ p
least-reduce bs r p l = le_antisymm (reduce-le bs r p) (l.least (reduce bs p) (reduce-least bs r p).inside)

pub reduce-is-least : (bs : List ℕ) → Reduced bs → (p : ℕ) → reduce bs p ≡ p → Least (Coset p bs) p
reduce-is-least bs r p e = subst (Least (Coset p bs)) e (reduce-least bs r p)

module _ (n : ℕ) (c : Candidate) (k : IsCandidate n c) where
  pub points-are : (x : ℕ) → In n (points_of c) x ↔ Coset c.point c.vectors x
  unfolding points_of
  points-are x = let e = spans-is c.vectors k.reduced (x ⊕ c.point) in (λ i. e.0 i.1, λ s. (k.below x s, e.1 s))

  pub candidate-cube : Pseudocube n (points_of c)
  candidate-cube = record {
    some = (c.point, (points-are c.point).1 (coset-self c.point c.vectors));
    triples = λ x y z a b d. (points-are (x ⊕ y ⊕ z)).1
        (coset-triples c.point c.vectors x y z ((points-are x).0 a) ((points-are y).0 b) ((points-are z).0 d));
  }

  pub point-below : c.point < 2 ^ n
  point-below = k.below c.point (coset-self c.point c.vectors)

  -- The directions are vectors of n variables too, and there are at most n in the basis.
  pub span_fits : (v : ℕ) → Span c.vectors v → v < 2 ^ n
  span_fits v s =
      subst (λ (z : ℕ). z < 2 ^ n) (xor-cancel v c.point)
      (xor_lt n (v ⊕ c.point) c.point (k.below (v ⊕ c.point) (subst (Span c.vectors) (sym (xor-cancel v c.point)) s)) point-below)

  pub vectors-below : (v : ℕ) → Mem v c.vectors → v < 2 ^ n
  vectors-below v m = span_fits v (span-mem c.vectors v m)

  pub degree-most : degree c ≤ n
  degree-most = reduced-length n c.vectors k.reduced vectors-below

-- ---- every pseudocube is written

pub cube-candidate : (n : ℕ) (C : ℕ → Bool) → Pseudocube n C → (c : Candidate) × IsCandidate n c × SameSet n C (points_of c)
cube-candidate n C c = (candidate p bs, k, λ x. (λ i. (points-are n (candidate p bs) k x).1 ((is x).0 i), λ i. (is x).1 ((points-are n (candidate p bs) k x).0 i)))
  where
    t : ℕ → Bool
    t = λ x. ltb x (2 ^ n) && C x

    in-t : (x : ℕ) → In n C x → t x ≡ true
    in-t x i = and_i (ltb x (2 ^ n)) (C x) (lt-ltb x (2 ^ n) i.0) i.1

    m : (p : ℕ) × (p ≤ c.some.0) × (t p ≡ true) × ((x : ℕ) → t x ≡ true → p ≤ x)
    m = least t c.some.0 (in-t c.some.0 c.some.1)

    p : ℕ
    p = m.0

    i : In n C p
    i = (ltb-true p (2 ^ n) (and_l (ltb p (2 ^ n)) (C p) m.2), and_r (ltb p (2 ^ n)) (C p) m.2)

    bs : List ℕ
    bs = reduced_basis n (λ x. C (x ⊕ p))

    is : (x : ℕ) → In n C x ↔ Coset p bs x
    is x =
        let e = basis-span n (λ x. C (x ⊕ p)) (cube-directions n C c p i) (x ⊕ p) in (
          λ a. e.1 (xor_lt n x p a.0 i.0, rw (xor-cancel x p) a.1),
          λ a. let b = e.0 a in
              (subst (λ (z : ℕ). z < 2 ^ n) (xor-cancel x p) (xor_lt n (x ⊕ p) p b.0 i.0), rw (xor-cancel x p) at b.1),
        )

    k : IsCandidate n (candidate p bs)
    k = record {
      reduced = basis-reduced n (λ x. C (x ⊕ p));
      least = record { inside = coset-self p bs; least = λ x a. m.3 x (in-t x ((is x).1 a)) };
      below = λ x a. ((is x).1 a).0;
    }

-- ---- in one way only

pub same-candidate : (n : ℕ) (c d : Candidate) → IsCandidate n c → IsCandidate n d → SameSet n (points_of c) (points_of d) → c ≡ d
same-candidate n c d j k h = ap₂ candidate points bases
  where
    there : (x : ℕ) → Coset c.point c.vectors x → Coset d.point d.vectors x
    there x a = (points-are n d k x).0 ((h x).0 ((points-are n c j x).1 a))

    back : (x : ℕ) → Coset d.point d.vectors x → Coset c.point c.vectors x
    back x a = (points-are n c j x).0 ((h x).1 ((points-are n d k x).1 a))

    bases : c.vectors ≡ d.vectors
    bases = unique c.vectors d.vectors j.reduced k.reduced
        (coset-directions c.point d.point c.vectors d.vectors there) (coset-directions d.point c.point d.vectors c.vectors back)

    points : c.point ≡ d.point
    points = le_antisymm (j.least.least d.point (back d.point (coset-self d.point d.vectors)))
        (k.least.least c.point (there c.point (coset-self c.point c.vectors)))

-- ---- the size

pub select-step : (f : ℕ → Bool) (m : ℕ) → length (select f (suc m)) ≡ length (select f m) + cond (f m) 1 0
unfolding select
select-step f m = go (f m)
  where
    go : (t : Bool) → length (cond t (select f m ++ (m ∷ [])) (select f m)) ≡ length (select f m) + cond t 1 0
    go true = length-append (select f m) (m ∷ [])
    go false = omega arith

-- Where each number passes at most one of two tests, as many pass either as pass the first and the second.
pub select-either : (f g h : ℕ → Bool) (m : ℕ) → ((x : ℕ) → x < m → h x ≡ f x || g x) → ((x : ℕ) → x < m → f x ≡ true → g x ≡ true → ⊥)
    → length (select h m) ≡ length (select f m) + length (select g m)
unfolding select
select-either f g h zero e d = refl
select-either f g h (suc m) e d =
    let l : m < suc m = omega arith in
    let ih = select-either f g h m (λ x k. e x (omega arith)) (λ x k. d x (omega arith)) in
    omega (arith, select-step f m, select-step g m, select-step h m, ap {B = ℕ} (λ (t : Bool). cond t 1 0) (e m l), either (f m) (g m) (d m l))
  where
    either : (s t : Bool) → (s ≡ true → t ≡ true → ⊥) → cond (s || t) 1 0 ≡ cond s 1 0 + cond t 1 0
    either true true k = absurd (k refl refl)
    either true false k = refl
    either false t k = omega arith

-- A test that one number passes.
pub select-one : (f : ℕ → Bool) (m p : ℕ) → p < m → f p ≡ true → ((x : ℕ) → f x ≡ true → x ≡ p) → select f m ≡ p ∷ []
select-one f m p l e h = ordered_same ◌<◌ (λ a b i j. omega arith) (select f m) (p ∷ []) (select-rising f m) (λ b k. absurd k, tt)
    (λ a k. inl (h a (select-mem f m a k).1)) (λ a k. elim k [ inl q ↦ rw q (mem-select f m p l e) | inr z ↦ absurd z ])

-- A coset has as many points as 2 to the number of vectors: a further vector doubles it.
pub coset-size : (n : ℕ) (bs : List ℕ) → Reduced bs → ((v : ℕ) → Mem v bs → v < 2 ^ n) → (p : ℕ) → p < 2 ^ n
    → size n (λ x. spans bs (x ⊕ p)) ≡ 2 ^ length bs
coset-size n [] r h p l =
    ap length (select-one (λ x. spans [] (x ⊕ p)) (2 ^ n) p l ((spans-is [] tt (p ⊕ p)).1 (xor_self p)) (λ x e. xor-eq x p ((spans-is [] tt (x ⊕ p)).0 e)))
coset-size n (b ∷ bs) r h p l =
    let k : b < 2 ^ n = h b (inl refl) in
    let e = select-either (λ x. spans bs (x ⊕ p)) (λ x. spans bs (x ⊕ (p ⊕ b))) (λ x. spans (b ∷ bs) (x ⊕ p)) (2 ^ n) (λ x i. halves x) (λ x i. apart x) in
    let u = coset-size n bs r.2 (λ v m. h v (inr m)) p l in
    let v = coset-size n bs r.2 (λ v m. h v (inr m)) (p ⊕ b) (xor_lt n p b l k) in
    let w : 2 ^ suc (length bs) ≡ 2 ^ length bs + 2 ^ length bs = omega arith in
    e ∙ ap₂ ◌+◌ u v ∙ sym w
  where
    halves : (x : ℕ) → spans (b ∷ bs) (x ⊕ p) ≡ spans bs (x ⊕ p) || spans bs (x ⊕ (p ⊕ b))
    halves x = same (spans (b ∷ bs) (x ⊕ p)) (spans bs (x ⊕ p) || spans bs (x ⊕ (p ⊕ b)))
        (λ e. elim ((spans-is (b ∷ bs) r (x ⊕ p)).0 e) [
          | inl s ↦ or_l (spans bs (x ⊕ p)) (spans bs (x ⊕ (p ⊕ b))) ((spans-is bs r.2 (x ⊕ p)).1 s)
          | inr s ↦ or_r (spans bs (x ⊕ p)) (spans bs (x ⊕ (p ⊕ b))) ((spans-is bs r.2 (x ⊕ (p ⊕ b))).1 (subst (Span bs) (xor_assoc x p b) s))
        ])
        (λ e. (spans-is (b ∷ bs) r (x ⊕ p)).1 (elim (or_cases (spans bs (x ⊕ p)) (spans bs (x ⊕ (p ⊕ b))) e) [
          | inl t ↦ inl ((spans-is bs r.2 (x ⊕ p)).0 t)
          | inr t ↦ inr (subst (Span bs) (sym (xor_assoc x p b)) ((spans-is bs r.2 (x ⊕ (p ⊕ b))).0 t))
        ]))

    apart : (x : ℕ) → spans bs (x ⊕ p) ≡ true → spans bs (x ⊕ (p ⊕ b)) ≡ true → ⊥
    apart x s t = clash (has_lead-self b r.0) (span-lead b bs r b (subst (Span bs) (simp xors)
        (span-xor bs (x ⊕ p) (x ⊕ (p ⊕ b)) ((spans-is bs r.2 (x ⊕ p)).0 s) ((spans-is bs r.2 (x ⊕ (p ⊕ b))).0 t))))

-- So the degree of a candidate is the degree of its set.
pub candidate-size : (n : ℕ) (c : Candidate) → IsCandidate n c → Degree n (points_of c) (degree c)
unfolding points_of
candidate-size n c k = coset-size n c.vectors k.reduced (vectors-below n c k) c.point (point-below n c k)
