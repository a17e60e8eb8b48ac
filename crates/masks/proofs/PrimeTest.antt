-- Laws of the test for a prime by masks, and of the number of on points in it: they are those of crate `cubes`, since a mask's count of ones is the number of
-- its points.
use mathlib.Core.Path.{◌≡◌, refl, sym, ap, ap₂, ◌∙◌, subst, fun_ext}
use mathlib.Core.Bool.{Bool, true, false, not, cond, ◌&&◌}
use mathlib.Core.Logic.{◌≢◌, inl, inr}
use mathlib.Core.List.{List, [], ◌∷◌, ◌++◌}
use Prim.Native.Nat.{ℕ, zero, suc, ◌+◌, ◌/◌, ◌%◌, ◌^◌, ◌≤◌, ◌<◌}
use native.Mathlib.Nat.{eq-or-lt_of_le, mod-lt, le_of_suc-le-suc}
use native.Mathlib.Omega.{arith}
use lib.Dec.{eqb}
use lib.Pow.{pow_mono, pow_pos, split, shr_lt}
use lib.Count.{ones, ones_cat}
use lib.Bits.{bit_and, bit_or, and_le_l}
use lib.ListN.{length}
use borrow.Author.Tests.{ne_eqb}
use Rattle.gf2.specs.Bits.{bit}
use Rattle.gf2.specs.Finite.{select}
use Rattle.gf2.proofs.Logic.{clash, and_l, or_cases}
use Rattle.gf2.proofs.Xor.{bit_is, bit-and}
use Rattle.gf2.proofs.Finite.{select-ext, select-off}
use Rattle.table.proofs.Table.{refuted}
use Rattle.moves.specs.Moves.{mask_size}
use Rattle.moves.proofs.Bits.{bit-or, bit_cut}
use Rattle.cubes.specs.Cubes.{size}
use Rattle.cubes.specs.Primes.{every_point, allowed}
use Rattle.cubes.specs.Records.{max_listed, on_count, record_of}
use Rattle.cubes.proofs.Cubes.{select-step, vectors-below}
use Rattle.cubes.proofs.Spaces.{on-count-most, prime-count, prime-holds, prime-some}
use Rattle.bases.specs.Bases.{vectors_of}
use Rattle.bases.specs.Entry.{candidate_at, EntryAt}
use Rattle.bases.proofs.Entry.{vectors-length, entry-candidate, entry-written}
use Rattle.masks.specs.Points.{OfPoints, Fitting, EveryPoint, prime_by, count_by, record_by}

-- ---- the count of ones

small-ones : (q : ℕ) → q < 2 → ones q ≡ cond (eqb (q % 2) 1) 1 0
unfolding ones
small-ones zero h = refl
small-ones (suc zero) h = refl
small-ones (suc (suc q)) h = absurd (omega arith)

-- The number of ones of a number of m bits is the number of places below m that are set.
pub ones-select : (m g : ℕ) → g < 2 ^ m → ones g ≡ length (select (λ x. bit x g) m)
unfolding select ones
ones-select zero g h = let e : g ≡ 0 = omega arith in rw e
ones-select (suc m) g h =
    let e : suc m ≡ 1 + m = omega arith in
    ap ones (sym (split g m)) ∙ ones_cat m (g / 2 ^ m) (g % 2 ^ m) (mod-lt g (pow_pos m))
    ∙ ap₂ (λ (x y : ℕ). x + y) (small-ones (g / 2 ^ m) (shr_lt 1 m (subst (λ (z : ℕ). g < 2 ^ z) e h)) ∙ ap (λ (t : Bool). cond t 1 0) (sym (bit_is m g)))
    (ones-select m (g % 2 ^ m) (mod-lt g (pow_pos m)) ∙ ap length (select-ext (λ x. bit x (g % 2 ^ m)) (λ x. bit x g) m (λ x l. bit_cut x m g l)))
    ∙ turn (cond (bit m g) 1 0) (length (select (λ x. bit x g) m)) ∙ sym (select-step (λ x. bit x g) m)
  where
    turn : (a b : ℕ) → a + b ≡ b + a
    turn a b = omega arith

-- Places that do not pass count nothing.
select-cut : (f : ℕ → Bool) (a b : ℕ) → a ≤ b → ((x : ℕ) → a ≤ x → f x ≡ false) → select f b ≡ select f a
select-cut f a zero h z = let e : a ≡ 0 = omega arith in rw e
select-cut f a (suc b) h z = elim (eq-or-lt_of_le h) [
  | inl e ↦ ap (select f) (sym e)
  | inr l ↦ select-off f b (z b (le_of_suc-le-suc l)) ∙ select-cut f a b (le_of_suc-le-suc l) z
]

-- A mask whose bits are those of a test that only numbers below 2 ^ n pass has as many ones as numbers below pass.
pub ones-size : (n : ℕ) (f : ℕ → Bool) (g : ℕ) → n ≤ max_listed → g < 2 ^ mask_size → ((x : ℕ) → bit x g ≡ f x) → ((x : ℕ) → f x ≡ true → x < 2 ^ n) → ones g ≡ size n f
ones-size n f g few l v below =
    ones-select mask_size g l ∙ ap length (select-cut (λ x. bit x g) (2 ^ n) mask_size (omega (arith, pow_mono few)) beyond ∙ select-ext (λ x. bit x g) f (2 ^ n) (λ x h. v x))
  where
    beyond : (x : ℕ) → 2 ^ n ≤ x → bit x g ≡ false
    beyond x h = refuted (bit x g) (λ t. omega (arith, below x (sym (v x) ∙ t)))

-- ---- the test

module _ {n d p e : ℕ} (k : EntryAt n d p e) where
  pub entry-fitting : Fitting (vectors_of d e)
  entry-fitting c m = omega (arith, vectors-below n (candidate_at d p e) (entry-candidate k) c m, pow_mono k.few)

  module _ (on free inside : ℕ) (a : OfPoints n on) (b : OfPoints n free) (l : inside < 2 ^ mask_size) (v : EveryPoint (vectors_of d e) (bit_or on free) inside) where
    -- The test whose bits `inside` has: the coset of a point lies inside on plus free.
    inside_at : ℕ → Bool
    inside_at = every_point (allowed (λ x. bit x on) (λ x. bit x free)) (vectors_of d e)

    inside-at : (x : ℕ) → bit x inside ≡ inside_at x
    unfolding inside_at
    inside-at x = v x ∙ ap (λ (f : ℕ → Bool). every_point f (vectors_of d e) x) (fun_ext (λ y. bit-or y on free))

    every-self : (f : ℕ → Bool) (bs : List ℕ) (x : ℕ) → every_point f bs x ≡ true → f x ≡ true
    unfolding every_point
    every-self f [] x t = t
    every-self f (c ∷ bs) x t = every-self f bs x (and_l (every_point f bs x) _ t)

    inside-below : (x : ℕ) → inside_at x ≡ true → x < 2 ^ n
    unfolding inside_at
    inside-below x t = elim (or_cases (bit x on) (bit x free) (every-self (allowed (λ x. bit x on) (λ x. bit x free)) (vectors_of d e) x t)) [
      | inl u ↦ a x u
      | inr u ↦ b x u
    ]

    ones-inside : ones inside ≡ size n inside_at
    ones-inside = ones-size n inside_at inside k.few l inside-at inside-below

    ones-on : ones (bit_and inside on) ≡ size n (λ x. inside_at x && bit x on)
    ones-on = ones-size n (λ x. inside_at x && bit x on) (bit_and inside on) k.few (omega (arith, and_le_l inside on))
        (λ x. bit-and x inside on ∙ ap (λ (t : Bool). t && bit x on) (inside-at x)) (λ x t. inside-below x (and_l (inside_at x) (bit x on) t))

    -- The candidate's own coset, by the bit of the mask at its point as the code reads it.
    own-coset : eqb (inside / 2 ^ p % 2) 1 ≡ inside_at p
    own-coset = sym (bit_is p inside) ∙ inside-at p

    no-prime : (prime_by n on free (candidate_at d p e) ≡ true → ⊥) → 0 ≡ count_by n on free (candidate_at d p e)
    no-prime h = sym (ap (λ (t : Bool). cond t (on_count n (λ x. bit x on) (candidate_at d p e)) 0) (refuted (prime_by n on free (candidate_at d p e)) h))

    pub count-out : inside / 2 ^ p % 2 ≡ 0 → 0 ≡ count_by n on free (candidate_at d p e)
    unfolding inside_at
    count-out h = no-prime (λ t.
        clash (own-coset ∙ ((prime-count n (λ x. bit x on) (λ x. bit x free) (candidate_at d p e) (entry-candidate k)).0 t).0) (ap (λ (z : ℕ). eqb z 1) h))

    pub count-more : ones inside ≢ 2 ^ d → 0 ≡ count_by n on free (candidate_at d p e)
    unfolding inside_at
    count-more h = no-prime (λ t.
        h (ones-inside ∙ ((prime-count n (λ x. bit x on) (λ x. bit x free) (candidate_at d p e) (entry-candidate k)).0 t).2 ∙ ap (λ (z : ℕ). 2 ^ z) (vectors-length d e)))

    pub count-inside : inside / 2 ^ p % 2 ≢ 0 → ones inside ≡ 2 ^ d → ones (bit_and inside on) ≡ count_by n on free (candidate_at d p e)
    unfolding inside_at
    count-inside h o =
        let one : inside / 2 ^ p % 2 ≡ 1 = omega (arith, h) in
        let i : inside_at p ≡ true = sym own-coset ∙ ap (λ (z : ℕ). eqb z 1) one in
        ones-on ∙ prime-holds n (λ x. bit x on) (λ x. bit x free) (candidate_at d p e) (entry-candidate k) i (sym ones-inside ∙ o ∙ ap (λ (z : ℕ). 2 ^ z) (sym (vectors-length d e)))

-- ---- what a count tells

module _ {n d p e : ℕ} (on free : ℕ) (k : EntryAt n d p e) (r : ℕ) (q : r ≡ count_by n on free (candidate_at d p e)) where
  -- The candidate is a prime exactly if the count isn't 0.
  pub count-nonzero : not (eqb r 0) ≡ prime_by n on free (candidate_at d p e)
  count-nonzero = ap (λ (z : ℕ). not (eqb z 0)) q ∙ go (prime_by n on free (candidate_at d p e)) refl
    where
      go : (t : Bool) → prime_by n on free (candidate_at d p e) ≡ t → not (eqb (cond t (on_count n (λ x. bit x on) (candidate_at d p e)) 0) 0) ≡ t
      go true u = ap not (ne_eqb (on_count n (λ x. bit x on) (candidate_at d p e)) 0 (λ z.
          omega (arith, prime-some n (λ x. bit x on) (λ x. bit x free) (candidate_at d p e) (entry-candidate k) u)))
      go false u = refl

  pub count_none : r ≡ 0 → prime_by n on free (candidate_at d p e) ≡ false
  count_none h = sym count-nonzero ∙ ap (λ (z : ℕ). not (eqb z 0)) h

  module _ (h : r ≢ 0) where
    pub count-some : prime_by n on free (candidate_at d p e) ≡ true
    count-some = sym count-nonzero ∙ ap not (ne_eqb r 0 h)

    -- Then it is the number of on points in it, at most 64, which the record ends with.
    count_of : r ≡ on_count n (λ x. bit x on) (candidate_at d p e)
    count_of = q ∙ ap (λ (t : Bool). cond t (on_count n (λ x. bit x on) (candidate_at d p e)) 0) count-some

    pub count_small : r ≤ mask_size
    count_small = omega (arith, count_of, on-count-most n (λ x. bit x on) (λ x. bit x free) (candidate_at d p e) (entry-candidate k), pow_mono k.few)

    pub count-record : (d ∷ p ∷ vectors_of 6 e) ++ (r ∷ []) ≡ record_by n on (candidate_at d p e)
    unfolding record_of
    count-record = ap₂ (λ (l : List ℕ) (z : ℕ). l ++ (z ∷ [])) (entry-written k) count_of
