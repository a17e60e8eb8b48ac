-- Laws of specs.Candidates: the candidates are all pseudocubes, each once, in the stated order, and no other list is so. Read next: Primes.
use mathlib.Core.Path.{◌≡◌, refl, sym, ap, ◌∙◌, subst}
use mathlib.Core.Bool.{Bool, true, false, not, ◌&&◌}
use mathlib.Core.Logic.{◌⊎◌, inl, inr, ◌↔◌}
use mathlib.Core.List.{List, [], ◌∷◌, map}
use Prim.Native.Nat.{ℕ, zero, suc, ◌^◌, ◌≤◌, ◌<◌}
use native.Mathlib.Decide.{ℕ_discrete}
use native.Mathlib.Omega.{arith}
use lib.ListN.{length}
use lib.Dec.{ltb, eqb}
use lib.Bits.{xor_lt}
use borrow.Author.Tests.{ltb-true, lt-ltb, eqb-true, eq-eqb, not-true}
use Rattle.gf2.specs.Bits.{◌⊕◌, has_lead}
use Rattle.gf2.specs.Finite.{Mem, Ordered, Rising}
use Rattle.gf2.specs.Span.{Pseudocube}
use Rattle.gf2.specs.Basis.{Reduced, reduce}
use Rattle.gf2.proofs.Logic.{and_l, and_r}
use Rattle.gf2.proofs.Finite.{map-mem, mem-map, append-mem, select-mem, mem-select, select-rising, ordered-append, ordered-map}
use Rattle.gf2.proofs.Xor.{xor-cancel}
use Rattle.gf2.proofs.Span.{span_below}
use Rattle.gf2.proofs.Reduce.{apart, reduced-pos}
use Rattle.cubes.specs.Lists.{keep}
use Rattle.cubes.specs.Cubes.{Candidate, candidate, degree, points_of, IsCandidate, Only}
use Rattle.cubes.specs.Candidates.{Lexicographic, Earlier, Before, Candidates, following, bases, points, vectors, candidates_at, candidates_of, candidates_from, candidates}
use Rattle.cubes.proofs.Lists.{mem-append, flat_map-mem, mem-flat_map, keep-mem, mem-keep, ordered-keep, ordered-flat_map, ordered-with, ordered_same}
use Rattle.cubes.proofs.Cubes.{least-reduce, reduce-is-least, candidate-cube, point-below, vectors-below, degree-most, cube-candidate, same-candidate}

-- ---- the reduced bases of d vectors of a list

following-mem : (b : ℕ) (l : List ℕ) (c : ℕ) → Mem c (following b l) → Mem c l × (b < c) × (has_lead b c ≡ false)
following-mem b l c m =
    let k = keep-mem (λ c. ltb b c && not (has_lead b c)) l c m in
    (k.0, ltb-true b c (and_l (ltb b c) (not (has_lead b c)) k.1), not-true (has_lead b c) (and_r (ltb b c) (not (has_lead b c)) k.1))

mem-following : (b : ℕ) (l : List ℕ) (c : ℕ) → Mem c l → b < c → has_lead b c ≡ false → Mem c (following b l)
mem-following b l c m h t = mem-keep (λ c. ltb b c && not (has_lead b c)) l c m (rw (lt-ltb b c h, t))

-- bs is a reduced basis of d vectors of the list.
pub record BasisOf (d : ℕ) (l : List ℕ) (bs : List ℕ) : Type 0 where
  pub reduced : Reduced bs
  pub number : length bs ≡ d
  pub members : (c : ℕ) → Mem c bs → Mem c l

pub bases-sound : (d : ℕ) (l : List ℕ) → ((c : ℕ) → Mem c l → 0 < c) → (bs : List ℕ) → Mem bs (bases d l) → BasisOf d l bs
unfolding bases
bases-sound zero l z bs (inl e) = rw e (record { reduced = tt; number = refl; members = λ c m. absurd m })
bases-sound zero l z bs (inr m) = absurd m
bases-sound (suc d) l z bs m =
    let v = flat_map-mem (λ b. map (λ bs. b ∷ bs) (bases d (following b l))) l bs m in
    let b = v.0 in
    let w = map-mem (λ bs. b ∷ bs) (bases d (following b l)) bs v.2 in
    first b w.0 bs v.1 w.2 (bases-sound d (following b l) (λ c k. z c (following-mem b l c k).0) w.0 w.1)
  where
    first : (b : ℕ) (cs bs : List ℕ) → Mem b l → bs ≡ b ∷ cs → BasisOf d (following b l) cs → BasisOf (suc d) l bs
    first b cs bs s e f = rw e (record {
      reduced = (z b s, (λ c m. let k = following-mem b l c (f.members c m) in apart b c (z b s) k.1 k.2), f.reduced);
      number = ap suc f.number;
      members = λ c m. elim m [ inl q ↦ rw q s | inr k ↦ (following-mem b l c (f.members c k)).0 ];
    })

pub bases-complete : (l : List ℕ) (bs : List ℕ) → Reduced bs → ((c : ℕ) → Mem c bs → Mem c l) → Mem bs (bases (length bs) l)
unfolding bases
bases-complete l [] r h = inl refl
bases-complete l (b ∷ bs) r h =
    mem-flat_map (λ b. map (λ bs. b ∷ bs) (bases (length bs) (following b l))) l b (b ∷ bs) (h b (inl refl))
    (mem-map (λ bs. b ∷ bs) (bases (length bs) (following b l)) bs
    (bases-complete (following b l) bs r.2 (λ c m. mem-following b l c (h c (inr m)) (r.1 c m).rises (r.1 c m).lower)))

pub vectors-pos : (n c : ℕ) → Mem c (vectors n) → 0 < c
vectors-pos n c m = ltb-true 0 c (select-mem (λ v. ltb 0 v) (2 ^ n) c m).1

pub vectors-lt : (n c : ℕ) → Mem c (vectors n) → c < 2 ^ n
vectors-lt n c m = (select-mem (λ v. ltb 0 v) (2 ^ n) c m).0

pub mem-vectors : (n c : ℕ) → 0 < c → c < 2 ^ n → Mem c (vectors n)
mem-vectors n c p h = mem-select (λ v. ltb 0 v) (2 ^ n) c h (lt-ltb 0 c p)

-- The bases of d vectors of n variables: reduced, of d vectors, each below 2 ^ n; and all of them.
pub basis-is : (n d : ℕ) (bs : List ℕ) → Mem bs (bases d (vectors n)) ↔ (Reduced bs × (length bs ≡ d) × ((c : ℕ) → Mem c bs → c < 2 ^ n))
basis-is n d bs = (
  λ m. let f = bases-sound d (vectors n) (vectors-pos n) bs m in (f.reduced, f.number, λ c k. vectors-lt n c (f.members c k)),
  λ h. subst (λ (z : ℕ). Mem bs (bases z (vectors n))) h.1
      (bases-complete (vectors n) bs h.0 (λ c m. mem-vectors n c (reduced-pos bs h.0 c m) (h.2 c m))),
)

-- ---- the candidates are the pseudocubes

-- p reduced by the basis, both of n variables, is a candidate.
pub candidate-of : (n p : ℕ) (bs : List ℕ) → Reduced bs → ((c : ℕ) → Mem c bs → c < 2 ^ n) → p < 2 ^ n → reduce bs p ≡ p → IsCandidate n (candidate p bs)
candidate-of n p bs r h l e = record {
  reduced = r;
  least = reduce-is-least bs r p e;
  below = λ x s. subst (λ (z : ℕ). z < 2 ^ n) (xor-cancel x p) (xor_lt n (x ⊕ p) p (span_below n bs h (x ⊕ p) s) l);
}

pub degree-sound : (n d : ℕ) (c : Candidate) → Mem c (candidates_of n d) → IsCandidate n c × (degree c ≡ d)
unfolding candidates_of
degree-sound n d c m =
    let v = flat_map-mem (candidates_at n d) (points n) c m in
    let p = v.0 in
    let w = map-mem (candidate p) (keep (λ bs. eqb (reduce bs p) p) (bases d (vectors n))) c v.2 in
    let k = keep-mem (λ bs. eqb (reduce bs p) p) (bases d (vectors n)) w.0 w.1 in
    let f = (basis-is n d w.0).0 k.0 in
    rw w.2 (candidate-of n p w.0 f.0 f.2 (select-mem (λ p. true) (2 ^ n) p v.1).0 (eqb-true (reduce w.0 p) p k.1), f.1)

pub degree-complete : (n : ℕ) (c : Candidate) → IsCandidate n c → Mem c (candidates_of n (degree c))
unfolding candidates_of
degree-complete n c k =
    mem-flat_map (candidates_at n (degree c)) (points n) c.point c (mem-select (λ p. true) (2 ^ n) c.point (point-below n c k) refl)
    (mem-map (candidate c.point) (keep (λ bs. eqb (reduce bs c.point) c.point) (bases (degree c) (vectors n))) c.vectors
    (mem-keep (λ bs. eqb (reduce bs c.point) c.point) (bases (degree c) (vectors n)) c.vectors
    ((basis-is n (degree c) c.vectors).1 (k.reduced, refl, vectors-below n c k))
    (eq-eqb (reduce c.vectors c.point) c.point (least-reduce c.vectors k.reduced c.point k.least))))

from-sound : (n d : ℕ) (c : Candidate) → Mem c (candidates_from n d) → IsCandidate n c × (degree c ≤ d)
unfolding candidates_from
from-sound n zero c m = let h = degree-sound n 0 c m in (h.0, omega (arith, h.1))
from-sound n (suc d) c m = elim (append-mem (candidates_of n (suc d)) (candidates_from n d) c m) [
  | inl k ↦ let h = degree-sound n (suc d) c k in (h.0, omega (arith, h.1))
  | inr k ↦ let h = from-sound n d c k in (h.0, omega (arith, h.1))
]

from-complete : (n d e : ℕ) (c : Candidate) → e ≤ d → Mem c (candidates_of n e) → Mem c (candidates_from n d)
unfolding candidates_from
from-complete n zero e c h m = let q : e ≡ 0 = omega arith in subst (λ (z : ℕ). Mem c (candidates_of n z)) q m
from-complete n (suc d) e c h m = mem-append (candidates_of n (suc d)) (candidates_from n d) c (go (ℕ_discrete e (suc d)) (from-complete n d e c))
  where
    go : Dec (e ≡ suc d) → (e ≤ d → Mem c (candidates_of n e) → Mem c (candidates_from n d)) → Mem c (candidates_of n (suc d)) ⊎ Mem c (candidates_from n d)
    go (yes q) f = inl (subst (λ (z : ℕ). Mem c (candidates_of n z)) q m)
    go (no q) f = inr (f (omega arith) m)

pub candidate-is : (n : ℕ) (c : Candidate) → Mem c (candidates n) ↔ IsCandidate n c
unfolding candidates
candidate-is n c = (λ m. (from-sound n n c m).0, λ k. from-complete n n (degree c) c (degree-most n c k) (degree-complete n c k))

-- ---- in the stated order

pub lexicographic-not : (bs cs : List ℕ) → Lexicographic bs cs → Lexicographic cs bs → ⊥
lexicographic-not [] cs p q = p
lexicographic-not (b ∷ bs) [] p q = p
lexicographic-not (b ∷ bs) (c ∷ cs) (inl p) (inl q) = omega arith
lexicographic-not (b ∷ bs) (c ∷ cs) (inl p) (inr q) = omega (arith, q.0)
lexicographic-not (b ∷ bs) (c ∷ cs) (inr p) (inl q) = omega (arith, p.0)
lexicographic-not (b ∷ bs) (c ∷ cs) (inr p) (inr q) = lexicographic-not bs cs p.1 q.1

-- No two candidates stand before each other; in particular none stands before itself.
pub before-not : (a b : Candidate) → Before a b → Before b a → ⊥
before-not a b (inl h) (inl k) = omega arith
before-not a b (inl h) (inr k) = omega (arith, k.0)
before-not a b (inr h) (inl k) = omega (arith, h.0)
before-not a b (inr (d, inl h)) (inr (e, inl k)) = omega arith
before-not a b (inr (d, inl h)) (inr (e, inr k)) = omega (arith, k.0)
before-not a b (inr (d, inr h)) (inr (e, inl k)) = omega (arith, h.0)
before-not a b (inr (d, inr h)) (inr (e, inr k)) = lexicographic-not a.vectors b.vectors h.1 k.1

pub bases-ordered : (d : ℕ) (l : List ℕ) → Rising l → Ordered Lexicographic (bases d l)
unfolding bases
bases-ordered zero l r = (λ b m. absurd m, tt)
bases-ordered (suc d) l r =
    ordered-flat_map ◌<◌ Lexicographic (λ b. map (λ bs. b ∷ bs) (bases d (following b l)))
    (λ b. ordered-map Lexicographic Lexicographic (λ bs. b ∷ bs) (bases d (following b l)) (λ x y i j h. inr (refl, h))
    (bases-ordered d (following b l) (ordered-keep ◌<◌ (λ c. ltb b c && not (has_lead b c)) l r)))
    other l r
  where
    other : (a b : ℕ) → a < b → (x y : List ℕ) → Mem x (map (λ bs. a ∷ bs) (bases d (following a l))) → Mem y (map (λ bs. b ∷ bs) (bases d (following b l))) → Lexicographic x y
    other a b h x y p q =
        let u = map-mem (λ bs. a ∷ bs) (bases d (following a l)) x p in
        let v = map-mem (λ bs. b ∷ bs) (bases d (following b l)) y q in
        rw (u.2, v.2) (inl h)

pub vectors-rising : (n : ℕ) → Rising (vectors n)
vectors-rising n = select-rising (λ v. ltb 0 v) (2 ^ n)

point_at : (n d p : ℕ) (c : Candidate) → Mem c (candidates_at n d p) → c.point ≡ p
point_at n d p c m = ap (λ (z : Candidate). z.point) (map-mem (candidate p) (keep (λ bs. eqb (reduce bs p) p) (bases d (vectors n))) c m).2

degree-earlier : (n d : ℕ) → Ordered Earlier (candidates_of n d)
unfolding candidates_of
degree-earlier n d = ordered-flat_map ◌<◌ Earlier (candidates_at n d)
    (λ p. ordered-map Lexicographic Earlier (candidate p) (keep (λ bs. eqb (reduce bs p) p) (bases d (vectors n))) (λ x y i j h. inr (refl, h))
    (ordered-keep Lexicographic (λ bs. eqb (reduce bs p) p) (bases d (vectors n)) (bases-ordered d (vectors n) (vectors-rising n))))
    (λ p q h x y m k. inl (omega (arith, point_at n d p x m, point_at n d q y k))) (points n) (select-rising (λ p. true) (2 ^ n))

pub degree-ordered : (n d : ℕ) → Ordered Before (candidates_of n d)
degree-ordered n d = ordered-with Earlier Before (candidates_of n d) (λ a b x y h. inr ((degree-sound n d a x).1 ∙ sym (degree-sound n d b y).1, h)) (degree-earlier n d)

from-ordered : (n d : ℕ) → Ordered Before (candidates_from n d)
unfolding candidates_from
from-ordered n zero = degree-ordered n 0
from-ordered n (suc d) = ordered-append Before (candidates_of n (suc d)) (candidates_from n d) (degree-ordered n (suc d)) (from-ordered n d)
    (λ a b x y. inl (omega (arith, (degree-sound n (suc d) a x).1, (from-sound n d b y).1)))

pub candidates-ordered : (n : ℕ) → Ordered Before (candidates n)
unfolding candidates
candidates-ordered n = from-ordered n n

-- ---- altogether

-- Every pseudocube is one candidate, and no other.
pub candidate-only : (n : ℕ) (C : ℕ → Bool) → Pseudocube n C → Only n C (candidates n)
candidate-only n C c =
    let q = cube-candidate n C c in record {
      which = q.0;
      listed = (candidate-is n q.0).1 q.1;
      same = q.2;
      alone = λ d m h. same-candidate n d q.0 ((candidate-is n d).0 m) q.1 (λ x. (λ i. (q.2 x).0 ((h x).1 i), λ i. (h x).0 ((q.2 x).1 i)));
    }

pub candidates-listing : (n : ℕ) → Candidates n (candidates n)
candidates-listing n = record {
  each = λ c m. (candidate-is n c).0 m;
  all = candidate-only n;
  order = candidates-ordered n;
}

-- There is only one such list.
pub candidates-only : (n : ℕ) (l : List Candidate) → Candidates n l → l ≡ candidates n
candidates-only n l k = ordered_same Before before-not l (candidates n) k.order (candidates-ordered n)
    (λ c m. (candidate-is n c).1 (k.each c m)) back
  where
    back : (c : Candidate) → Mem c (candidates n) → Mem c l
    back c m =
        let i = (candidate-is n c).0 m in
        let o = k.all (points_of c) (candidate-cube n c i) in
        subst (λ (z : Candidate). Mem z l) (sym (same-candidate n c o.which i (k.each o.which o.listed) o.same)) o.listed
