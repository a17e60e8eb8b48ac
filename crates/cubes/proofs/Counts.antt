-- How many candidates there are, for any n: of degree d, as many as reduced bases of d vectors, each with 2 ^ (n - d) least points.
-- The numbers of document 01 follow in the crate `counts`. Read next: Listing.
use mathlib.Core.Path.{◌≡◌, refl, sym, ap, ap₂, ◌∙◌, subst}
use mathlib.Core.Bool.{Bool, true, false, not, cond, ◌&&◌}
use mathlib.Core.Logic.{inl, inr}
use mathlib.Core.List.{List, [], ◌∷◌, ◌++◌, map, flat_map, append-nil}
use Prim.Native.Nat.{ℕ, zero, suc, ◌+◌, ◌-◌, ◌*◌, ◌/◌, ◌%◌, ◌^◌, ◌<◌}
use native.Mathlib.Nat.{add_comm, zero-mul, suc-mul}
use native.Mathlib.Omega.{arith}
use lib.ListN.{length, length-append}
use lib.Dec.{eqb}
use borrow.Author.Tests.{eqb-true, eq-eqb, not-true}
use Rattle.gf2.specs.Bits.{bit, lead, has_lead}
use Rattle.gf2.specs.Finite.{Mem, all, select}
use Rattle.gf2.specs.Basis.{Reduced, reduce, is_lead, places_at}
use Rattle.gf2.proofs.Logic.{same, and-false, and-true}
use Rattle.gf2.proofs.Finite.{all-at, all_of, all-ext, select-ext, select-none}
use Rattle.gf2.proofs.Xor.{bit-big}
use Rattle.gf2.proofs.Leads.{lead-fits}
use Rattle.gf2.proofs.Reduce.{clear-off, has_lead-reduce, reduced-pos}
use Rattle.gf2.proofs.Variables.{is_lead-at, is_lead-off, noncanonical-length}
use Rattle.cubes.specs.Lists.{keep}
use Rattle.cubes.specs.Cubes.{Candidate, candidate}
use Rattle.cubes.specs.Candidates.{bases, points, vectors, candidates_of, candidates_from, candidates, candidate_count}
use Rattle.cubes.proofs.Lists.{keep_append}
use Rattle.cubes.proofs.Cubes.{select-step}
use Rattle.cubes.proofs.Candidates.{basis-is}

-- ---- the points that a basis does not reduce

-- They are those with none of its lead bits.
pub reduce-fixed : (bs : List ℕ) (p : ℕ) → ((c : ℕ) → Mem c bs → has_lead c p ≡ false) → reduce bs p ≡ p
unfolding reduce
reduce-fixed [] p h = refl
reduce-fixed (b ∷ bs) p h = ap (reduce bs) (clear-off b p (h b (inl refl))) ∙ reduce-fixed bs p (λ c m. h c (inr m))

-- No place below n that passes the test q has its bit set in p.
clean : (ℕ → Bool) → ℕ → ℕ → Bool
clean q n p = all (λ k. not (q k && bit k p)) n

pub mem-is_lead : (bs : List ℕ) (c : ℕ) → Mem c bs → is_lead bs (lead c) ≡ true
mem-is_lead bs c m = go (is_lead bs (lead c)) refl
  where
    go : (t : Bool) → is_lead bs (lead c) ≡ t → t ≡ true
    go true e = refl
    go false e = absurd (is_lead-off bs (lead c) e c m refl)

fixed-clean : (n : ℕ) (bs : List ℕ) → Reduced bs → ((c : ℕ) → Mem c bs → c < 2 ^ n) → (p : ℕ) → eqb (reduce bs p) p ≡ clean (is_lead bs) n p
unfolding clean
fixed-clean n bs r h p = same (eqb (reduce bs p) p) (clean (is_lead bs) n p)
    (λ e. all_of (λ k. not (is_lead bs k && bit k p)) n (λ k l. off k (eqb-true (reduce bs p) p e) (is_lead bs k) refl))
    (λ e. eq-eqb (reduce bs p) p (reduce-fixed bs p (λ c m.
    on (lead c) (mem-is_lead bs c m) (all-at (λ k. not (is_lead bs k && bit k p)) n e (lead c) (lead-fits n c (reduced-pos bs r c m) (h c m))))))
  where
    off : (k : ℕ) → reduce bs p ≡ p → (t : Bool) → is_lead bs k ≡ t → not (t && bit k p) ≡ true
    off k e false f = refl
    off k e true f =
        let u = is_lead-at bs k f in
        let v : bit k p ≡ false = subst (λ (z : ℕ). bit z p ≡ false) u.2 (subst (λ (z : ℕ). has_lead u.0 z ≡ false) e (has_lead-reduce bs r p u.0 u.1)) in
        ap not v

    on : (k : ℕ) → is_lead bs k ≡ true → not (is_lead bs k && bit k p) ≡ true → bit k p ≡ false
    on k e f = not-true (bit k p) (subst (λ (t : Bool). not (t && bit k p) ≡ true) e f)

-- ---- numbers with some bits clear

-- The bits of 2 ^ n + x.
bit-above : (n k x : ℕ) → k < n → bit k (2 ^ n + x) ≡ bit k x
unfolding bit
bit-above zero k x h = absurd (omega arith)
bit-above (suc n) zero x h = let e : (2 ^ suc n + x) % 2 ≡ x % 2 = omega arith in rw e
bit-above (suc n) (suc k) x h = let e : (2 ^ suc n + x) / 2 ≡ 2 ^ n + x / 2 = omega arith in rw e (bit-above n k (x / 2) (omega arith))

bit-top : (n x : ℕ) → x < 2 ^ n → bit n (2 ^ n + x) ≡ true
unfolding bit
bit-top zero x h = let e : x ≡ 0 = omega arith in rw e
bit-top (suc n) x h = let e : (2 ^ suc n + x) / 2 ≡ 2 ^ n + x / 2 = omega arith in rw e (bit-top n (x / 2) (omega arith))

select-add : (f : ℕ → Bool) (a b : ℕ) → length (select f (a + b)) ≡ length (select f a) + length (select (λ x. f (a + x)) b)
unfolding select
select-add f a zero = let e : a + 0 ≡ a = omega arith in rw e (omega arith)
select-add f a (suc b) =
    let e : a + suc b ≡ suc (a + b) = omega arith in
    ap (λ (z : ℕ). length (select f z)) e ∙ omega (arith, select-step f (a + b), select-step (λ x. f (a + x)) b, select-add f a b)

-- No place; and one place more, for the numbers below 2 ^ n and for those above.
clean-none : (q : ℕ → Bool) (x : ℕ) → clean q 0 x ≡ true
unfolding clean all
clean-none q x = refl

clean-low : (q : ℕ → Bool) (n x : ℕ) → x < 2 ^ n → clean q (suc n) x ≡ clean q n x
unfolding clean all
clean-low q n x l = rw (bit-big n x l, and-false (q n))

clean-high : (q : ℕ → Bool) (n x : ℕ) → x < 2 ^ n → clean q (suc n) (2 ^ n + x) ≡ not (q n) && clean q n x
unfolding clean all
clean-high q n x l = rw (bit-top n x l, and-true (q n))
    (ap (λ (t : Bool). not (q n) && t) (all-ext (λ k. not (q k && bit k (2 ^ n + x))) (λ k. not (q k && bit k x)) n (λ k h. ap (λ (t : Bool). not (q k && t)) (bit-above n k x h))))

-- Below 2 ^ n, as many numbers have all the places that pass the test clear as there are choices for the other places.
clean-count : (q : ℕ → Bool) (n : ℕ) → length (select (clean q n) (2 ^ n)) ≡ 2 ^ length (places_at n (λ k. not (q k)))
unfolding select places_at
clean-count q zero = rw (clean-none q 0)
clean-count q (suc n) =
    let e : 2 ^ suc n ≡ 2 ^ n + 2 ^ n = omega arith in
    ap (λ (z : ℕ). length (select (clean q (suc n)) z)) e ∙ select-add (clean q (suc n)) (2 ^ n) (2 ^ n) ∙ go (q n) refl (clean-count q n)
  where
    lower : length (select (clean q (suc n)) (2 ^ n)) ≡ length (select (clean q n) (2 ^ n))
    lower = ap length (select-ext (clean q (suc n)) (clean q n) (2 ^ n) (clean-low q n))

    upper : q n ≡ false → length (select (λ x. clean q (suc n) (2 ^ n + x)) (2 ^ n)) ≡ length (select (clean q n) (2 ^ n))
    upper f = ap length (select-ext (λ x. clean q (suc n) (2 ^ n + x)) (clean q n) (2 ^ n) (λ x l. clean-high q n x l ∙ ap (λ (t : Bool). not t && clean q n x) f))

    none : q n ≡ true → length (select (λ x. clean q (suc n) (2 ^ n + x)) (2 ^ n)) ≡ 0
    none f = ap length (select-none (λ x. clean q (suc n) (2 ^ n + x)) (2 ^ n) (λ x l. clean-high q n x l ∙ ap (λ (t : Bool). not t && clean q n x) f))

    go : (t : Bool) → q n ≡ t → length (select (clean q n) (2 ^ n)) ≡ 2 ^ length (places_at n (λ k. not (q k)))
        → length (select (clean q (suc n)) (2 ^ n)) + length (select (λ x. clean q (suc n) (2 ^ n + x)) (2 ^ n)) ≡ 2 ^ length (cond (not t) (n ∷ places_at n (λ k. not (q k))) (places_at n (λ k. not (q k))))
    go true f ih = omega (arith, lower, none f)
    go false f ih = let e : 2 ^ suc (length (places_at n (λ k. not (q k)))) ≡ 2 ^ length (places_at n (λ k. not (q k))) + 2 ^ length (places_at n (λ k. not (q k))) = omega arith in
        ap₂ ◌+◌ (lower ∙ ih) (upper f ∙ ih) ∙ sym e

-- So a reduced basis of d vectors of n variables has 2 ^ (n - d) least points, one for each coset of its space.
pub least-count : (n : ℕ) (bs : List ℕ) → Reduced bs → ((c : ℕ) → Mem c bs → c < 2 ^ n) → length (select (λ p. eqb (reduce bs p) p) (2 ^ n)) ≡ 2 ^ (n - length bs)
least-count n bs r h =
    let e : length (places_at n (λ k. not (is_lead bs k))) ≡ n - length bs = omega (arith, noncanonical-length n bs r h) in
    ap length (select-ext (λ p. eqb (reduce bs p) p) (clean (is_lead bs) n) (2 ^ n) (λ p l. fixed-clean n bs r h p)) ∙ clean-count (is_lead bs) n ∙ ap (λ (z : ℕ). 2 ^ z) e

-- ---- pairs counted by rows and by columns

module _ {A B : Type 0} (g : B → A → Candidate) (t : A → B → Bool) where
  -- The pairs of a point and a basis that pass the test, the points one after the other.
  pairs : List A → List B → List Candidate
  pairs m l = flat_map (λ p. map (g p) (keep (λ b. t b p) m)) l

  pairs-cons : (b : A) (m : List A) (l : List B) → length (pairs (b ∷ m) l) ≡ length (keep (t b) l) + length (pairs m l)
  unfolding pairs flat_map keep
  pairs-cons b m [] = refl
  pairs-cons b m (p ∷ l) = go (t b p) (pairs-cons b m l)
    where
      rest : List Candidate
      rest = flat_map (λ p. map (g p) (keep (λ b. t b p) (b ∷ m))) l

      go : (s : Bool) → length rest ≡ length (keep (t b) l) + length (pairs m l)
          → length (map (g p) (cond s (b ∷ keep (λ b. t b p) m) (keep (λ b. t b p) m)) ++ rest)
          ≡ length (cond s (p ∷ keep (t b) l) (keep (t b) l)) + length (map (g p) (keep (λ b. t b p) m) ++ pairs m l)
      go true e = omega (arith, e, length-append (map (g p) (keep (λ b. t b p) m)) rest, length-append (map (g p) (keep (λ b. t b p) m)) (pairs m l))
      go false e = omega (arith, e, length-append (map (g p) (keep (λ b. t b p) m)) rest, length-append (map (g p) (keep (λ b. t b p) m)) (pairs m l))

  pairs-none : (l : List B) → length (pairs [] l) ≡ 0
  unfolding pairs flat_map keep
  pairs-none [] = refl
  pairs-none (p ∷ l) = pairs-none l

  pairs-count : (k : ℕ) (m : List A) (l : List B) → ((b : A) → Mem b m → length (keep (t b) l) ≡ k) → length (pairs m l) ≡ length m * k
  pairs-count k [] l h = pairs-none l ∙ sym (zero-mul k)
  pairs-count k (b ∷ m) l h =
      pairs-cons b m l ∙ ap₂ ◌+◌ (h b (inl refl)) (pairs-count k m l (λ c i. h c (inr i))) ∙ add_comm k (length m * k) ∙ sym (suc-mul (length m) k)

keep-select : (f : ℕ → Bool) (m : ℕ) → keep f (select (λ x. true) m) ≡ select f m
unfolding select keep
keep-select f zero = refl
keep-select f (suc m) = keep_append f (select (λ x. true) m) (m ∷ []) ∙ go (f m) (keep-select f m)
  where
    go : (t : Bool) → keep f (select (λ x. true) m) ≡ select f m → keep f (select (λ x. true) m) ++ cond t (m ∷ []) [] ≡ cond t (select f m ++ (m ∷ [])) (select f m)
    go true e = ap (λ l. l ++ (m ∷ [])) e
    go false e = append-nil (keep f (select (λ x. true) m)) ∙ e

-- ---- the number of candidates

-- The number of reduced bases of d vectors of n variables.
abbrev pub basis_count : ℕ → ℕ → ℕ
basis_count n d = length (bases d (vectors n))

pub degree-count : (n d : ℕ) → length (candidates_of n d) ≡ basis_count n d * 2 ^ (n - d)
unfolding candidates_of pairs
degree-count n d = pairs-count candidate (λ bs p. eqb (reduce bs p) p) (2 ^ (n - d)) (bases d (vectors n)) (points n)
    (λ bs m. let h = (basis-is n d bs).0 m in
    ap length (keep-select (λ p. eqb (reduce bs p) p) (2 ^ n)) ∙ least-count n bs h.0 h.2 ∙ ap (λ (z : ℕ). 2 ^ (n - z)) h.1)

-- The candidates of degree d and less, and those of all degrees, for any n.
unfoldable pub total : ℕ → ℕ → ℕ
total n zero = basis_count n 0 * 2 ^ (n - 0)
total n (suc d) = basis_count n (suc d) * 2 ^ (n - suc d) + total n d

from-count : (n d : ℕ) → length (candidates_from n d) ≡ total n d
unfolding candidates_from total
from-count n zero = degree-count n 0
from-count n (suc d) = length-append (candidates_of n (suc d)) (candidates_from n d) ∙ ap₂ ◌+◌ (degree-count n (suc d)) (from-count n d)

pub candidates-total : (n : ℕ) → candidate_count n ≡ total n n
unfolding candidates
candidates-total n = from-count n n
