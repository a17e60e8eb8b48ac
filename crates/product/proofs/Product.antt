-- Laws of specs.Product: each test says what document 01, "The written form", does, and a product may be read from the left, one factor at a
-- time. Read next: Count.
use mathlib.Core.Path.{◌≡◌, refl, sym, ◌∙◌, subst}
use mathlib.Core.Bool.{Bool, true, false, not, ◌&&◌, beq}
use mathlib.Core.Logic.{inl, inr, ◌↔◌}
use mathlib.Core.List.{List, [], ◌∷◌, ◌++◌}
use Prim.Native.Nat.{ℕ, zero, suc, ◌^◌, ◌<◌}
use native.Mathlib.Nat.{lt_of_not-le, le_of_suc-le-suc, suc_inj, zero-lt-suc}
use native.Mathlib.Decide.{dec_le}
use native.Mathlib.Omega.{arith}
use lib.Dec.{eqb, ltb, leb}
use lib.ListN.{length, get_or}
use borrow.Author.Tests.{ltb-true, lt-ltb, leb-true, le-leb, not-true}
use Rattle.gf2.specs.Bits.{bit}
use Rattle.gf2.specs.Finite.{Mem, Ordered, every}
use Rattle.gf2.specs.Parity.{odd}
use Rattle.gf2.proofs.Logic.{clash, and_l, and_r, and_i, and-true, and-exchange, or_l, or_r, or_cases, beq-eq, eq-beq}
use Rattle.gf2.proofs.Finite.{get_d-mem, every-is, every_append}
use Rattle.product.specs.Lowest.{lowest}
use Rattle.product.specs.Product.{Factor, factor, factor_at, product_at, some_product_at, Fits, fits, mask_at, Canonical, LowestApart, apart_masks, apart, canonical, agrees}
use Rattle.product.proofs.LowestBit.{lowest-below, lowest-fits}

-- ---- factors, products and forms at a point

-- Odd for constant 1, even for constant 0.
pub factor-one : (m w : ℕ) → factor_at (factor 1 m) w ≡ odd m w
unfolding factor_at
factor-one m w = go (odd m w)
  where
    go : (t : Bool) → beq t true ≡ t
    go true = refl
    go false = refl

pub factor-zero : (m w : ℕ) → factor_at (factor 0 m) w ≡ not (odd m w)
unfolding factor_at
factor-zero m w = go (odd m w)
  where
    go : (t : Bool) → beq t false ≡ not t
    go true = refl
    go false = refl

-- So the parity is the constant where the factor is true.
pub factor-is : (f : Factor) (w : ℕ) → (factor_at f w ≡ true) ↔ (odd f.mask w ≡ eqb f.constant 1)
unfolding factor_at
factor-is f w = (beq-eq (odd f.mask w) (eqb f.constant 1), eq-beq (odd f.mask w) (eqb f.constant 1))

pub product_is : (fs : List Factor) (w : ℕ) → (product_at fs w ≡ true) ↔ ((f : Factor) → Mem f fs → factor_at f w ≡ true)
unfolding product_at
product_is fs w = every-is (λ f. factor_at f w) fs

pub some-product-is : (ps : List (List Factor)) (w : ℕ) → (some_product_at ps w ≡ true) ↔ ((p : List Factor) × Mem p ps × (product_at p w ≡ true))
unfolding some_product_at
some-product-is [] w = (λ e. clash e refl, λ h. absurd h.1)
some-product-is (q ∷ ps) w = (
  λ e. elim (or_cases (product_at q w) (some_product_at ps w) e) [
    | inl h ↦ (q, inl refl, h)
    | inr h ↦ let k = (some-product-is ps w).0 h in (k.0, inr k.1, k.2)
  ],
  λ h. elim h.1 [
    | inl e ↦ or_l (product_at q w) (some_product_at ps w) (subst (λ p. product_at p w ≡ true) e h.2)
    | inr m ↦ or_r (product_at q w) (some_product_at ps w) ((some-product-is ps w).1 (h.0, m, h.2))
  ],
)

-- ---- factors of n variables

pub fits-is : (n : ℕ) (f : Factor) → (fits n f ≡ true) ↔ Fits n f
unfolding fits
fits-is n f = (
  λ e.
      let r = and_r (leb f.constant 1) (leb 1 f.mask && ltb f.mask (2 ^ n)) e in
      record {
        binary = leb-true f.constant 1 (and_l (leb f.constant 1) (leb 1 f.mask && ltb f.mask (2 ^ n)) e);
        some = leb-true 1 f.mask (and_l (leb 1 f.mask) (ltb f.mask (2 ^ n)) r);
        below = ltb-true f.mask (2 ^ n) (and_r (leb 1 f.mask) (ltb f.mask (2 ^ n)) r);
      },
  λ h. rw (le-leb f.constant 1 h.binary, le-leb 1 f.mask h.some, lt-ltb f.mask (2 ^ n) h.below),
)

-- The lowest bit of the mask is one of the n places.
pub fits-lowest : {n : ℕ} {f : Factor} → Fits n f → lowest f.mask < n
fits-lowest {n} {f} h = lowest-fits n f.mask h.some h.below

-- ---- two masks of a canonical product

pub apart-is : (a b : ℕ) → (apart_masks a b ≡ true) ↔ LowestApart a b
unfolding apart_masks
apart-is a b = (
  λ e.
      let r = and_r (ltb (lowest b) (lowest a)) (not (bit (lowest a) b) && not (bit (lowest b) a)) e in
      record {
        falls = ltb-true (lowest b) (lowest a) (and_l (ltb (lowest b) (lowest a)) (not (bit (lowest a) b) && not (bit (lowest b) a)) e);
        later = not-true (bit (lowest a) b) (and_l (not (bit (lowest a) b)) (not (bit (lowest b) a)) r);
        earlier = not-true (bit (lowest b) a) (and_r (not (bit (lowest a) b)) (not (bit (lowest b) a)) r);
      },
  λ h. rw (lt-ltb (lowest b) (lowest a) h.falls, h.later, h.earlier),
)

-- A lowest bit below that of a mask is not set in the mask, so two of the three demands are enough.
pub apart-two : (a b : ℕ) → 0 < a → apart_masks a b ≡ ltb (lowest b) (lowest a) && not (bit (lowest a) b)
unfolding apart_masks
apart-two a b p = go (ltb (lowest b) (lowest a)) refl (bit (lowest a) b)
  where
    go : (t : Bool) → ltb (lowest b) (lowest a) ≡ t → (s : Bool) → t && (not s && not (bit (lowest b) a)) ≡ t && not s
    go false e s = refl
    go true e true = refl
    go true e false = rw (lowest-below a p (lowest b) (ltb-true (lowest b) (lowest a) e))

-- ---- canonical products

-- Each mask is apart from all that follow.
abbrev pub Separate : List Factor → Type 0
Separate fs = Ordered (λ (f g : Factor). LowestApart f.mask g.mask) fs

pub canonical-separate : (fs : List Factor) → (canonical fs ≡ true) ↔ Separate fs
unfolding canonical apart
canonical-separate [] = (λ e. tt, λ h. refl)
canonical-separate (f ∷ fs) = (
  λ e. (
    λ g m. (apart-is f.mask g.mask).0 ((every-is (apart f) fs).0 (and_l (every (apart f) fs) (canonical fs) e) g m),
    (canonical-separate fs).0 (and_r (every (apart f) fs) (canonical fs) e),
  ),
  λ h. and_i (every (apart f) fs) (canonical fs) ((every-is (apart f) fs).1 (λ g m. (apart-is f.mask g.mask).1 (h.0 g m))) ((canonical-separate fs).1 h.1),
)

-- In terms of places: of two factors the one at the lower place stands first.
pub ordered_at : {A : Type 0} (R : A → A → Type 0) (l : List A) (d : A) → Ordered R l → (i j : ℕ) → i < j → j < length l → R (get_or l i d) (get_or l j d)
ordered_at R [] d o i j h k = absurd (omega arith)
ordered_at R (a ∷ l) d o i zero h k = absurd (omega arith)
ordered_at R (a ∷ l) d o zero (suc j) h k = o.0 (get_or l j d) (get_d-mem l j d (le_of_suc-le-suc k))
ordered_at R (a ∷ l) d o (suc i) (suc j) h k = ordered_at R l d o.1 i j (le_of_suc-le-suc h) (le_of_suc-le-suc k)

pub mem-at : {A : Type 0} (l : List A) (d x : A) → Mem x l → (i : ℕ) × (i < length l) × (x ≡ get_or l i d)
mem-at {A = A} [] d x h = elim h [ ]
mem-at (a ∷ l) d x (inl e) = (0, zero-lt-suc (length l), e)
mem-at (a ∷ l) d x (inr m) = let k = mem-at l d x m in (suc k.0, omega (arith, k.1), k.2)

separate-canonical : (fs : List Factor) → Separate fs → Canonical fs
separate-canonical fs o = record {
  alone = λ i j hi hj n. elim (dec_le i j) [
    | yes l ↦ (at i j (omega arith) hj).later
    | no l ↦ (at j i (lt_of_not-le l) hi).earlier
  ];
  falls = λ i h. (at i (suc i) (omega arith) h).falls;
}
  where
    at : (i j : ℕ) → i < j → j < length fs → LowestApart (mask_at fs i) (mask_at fs j)
    at = ordered_at (λ (f g : Factor). LowestApart f.mask g.mask) fs (factor 0 0) o

-- The lowest bits of later factors are below the first one's.
falls-first : (fs : List Factor) → Canonical fs → (i : ℕ) → suc i < length fs → lowest (mask_at fs (suc i)) < lowest (mask_at fs 0)
falls-first fs c zero h = c.falls 0 h
falls-first fs c (suc i) h = omega (arith, c.falls (suc i) h, falls-first fs c i (omega arith))

canonical-tail : (f : Factor) (fs : List Factor) → Canonical (f ∷ fs) → Canonical fs
canonical-tail f fs c = record {
  alone = λ i j hi hj n. c.alone (suc i) (suc j) (omega arith) (omega arith) (λ e. n (suc_inj e));
  falls = λ i h. c.falls (suc i) (omega arith);
}

pub separate : (fs : List Factor) → Canonical fs → Separate fs
separate [] c = tt
separate (f ∷ fs) c = (λ g m. first (mem-at fs (factor 0 0) g m), separate fs (canonical-tail f fs c))
  where
    first : {g : Factor} → (i : ℕ) × (i < length fs) × (g ≡ get_or fs i (factor 0 0)) → LowestApart f.mask g.mask
    first {g} k =
        let h : suc k.0 < length (f ∷ fs) = omega (arith, k.1) in
        let p : 0 < length (f ∷ fs) = zero-lt-suc (length fs) in
        rw k.2 (record {
          falls = falls-first (f ∷ fs) c k.0 h;
          later = c.alone 0 (suc k.0) p h (λ e. omega arith);
          earlier = c.alone (suc k.0) 0 h p (λ e. omega arith);
        })

-- The test for a canonical product is document 01's definition.
pub canonical-is : (fs : List Factor) → (canonical fs ≡ true) ↔ Canonical fs
canonical-is fs = (λ e. separate-canonical fs ((canonical-separate fs).0 e), λ c. (canonical-separate fs).1 (separate fs c))

-- ---- read from the left

-- One factor more.
pub canonical-next : (fs : List Factor) (g : Factor) → canonical (fs ++ (g ∷ [])) ≡ canonical fs && agrees fs g
unfolding canonical agrees
canonical-next [] g = refl
canonical-next (f ∷ fs) g =
    rw (every_append (apart f) fs (g ∷ []), canonical-next fs g, and-true (apart f g))
    (and-exchange (every (apart f) fs) (apart f g) (canonical fs) (agrees fs g))

-- Prefixes of canonical products are canonical.
pub canonical-prefix : (fs gs : List Factor) → canonical (fs ++ gs) ≡ true → canonical fs ≡ true
unfolding canonical
canonical-prefix [] gs e = refl
canonical-prefix (f ∷ fs) gs e = and_i (every (apart f) fs) (canonical fs)
    (and_l (every (apart f) fs) (every (apart f) gs) (sym (every_append (apart f) fs gs) ∙ and_l (every (apart f) (fs ++ gs)) (canonical (fs ++ gs)) e))
    (canonical-prefix fs gs (and_r (every (apart f) (fs ++ gs)) (canonical (fs ++ gs)) e))
