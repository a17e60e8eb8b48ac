-- Laws of the transform: of numbers of one variable more it is the transform of their sums and of their differences, half a list apart; and the transform
-- of the product of two transforms is 2 ^ n times the correlation, by induction over the variables. Read next: Bounds.
use mathlib.Core.Path.{◌≡◌, sym, ap, ap₂, ◌∙◌, subst}
use mathlib.Core.Bool.{Bool, true}
use Prim.Native.Nat.{ℕ, zero, suc, ◌+◌, ◌-◌, ◌^◌, ◌≤◌, ◌<◌}
use native.Mathlib.Nat.{lt_of_not-le, one-mul}
use native.Mathlib.Decide.{dec_le}
use native.Mathlib.Omega.{arith}
use lib.Bits.{xor_shifted}
use lib.IntN.{ℤ, pos, ◌+ℤ◌, ◌-ℤ◌, ◌*ℤ◌, one, +ℤ_idl, *ℤ_comm, *ℤ-one}
use Rattle.gf2.specs.Bits.{◌⊕◌, ◌⊻◌, bit}
use Rattle.gf2.specs.Parity.{odd}
use Rattle.gf2.proofs.Xor.{bit-xor, bit-big, bit-pow-self}
use Rattle.gf2.proofs.Odd.{odd-xor, odd-comm, odd-zero, odd_pow}
use Rattle.walsh.specs.Sums.{negated_if, total}
use Rattle.walsh.specs.Walsh.{walsh, correlation}
use Rattle.walsh.proofs.Whole.{sum-difference, difference-sum, *ℤ-sum, sum-*ℤ, difference-*ℤ, product-sums, product-differences, negated-twice, negated-sum, negated-difference}
use Rattle.walsh.proofs.Sums.{total_ext, total-sum, total-difference, total-halves, upper-lower, lower-upper, upper-upper}

-- ---- numbers that agree at all points, and sums and differences of numbers

pub walsh-ext : (n : ℕ) (g h : ℕ → ℤ) → ((w : ℕ) → w < 2 ^ n → g w ≡ h w) → (u : ℕ) → walsh n g u ≡ walsh n h u
unfolding walsh
walsh-ext n g h e u =
    total_ext (λ w. negated_if (odd u w) (g w)) (λ w. negated_if (odd u w) (h w)) (2 ^ n) (λ w l. ap (negated_if (odd u w)) (e w l))

walsh-sum : (n : ℕ) (g h : ℕ → ℤ) (u : ℕ) → walsh n (λ w. g w +ℤ h w) u ≡ walsh n g u +ℤ walsh n h u
unfolding walsh
walsh-sum n g h u =
    total_ext (λ w. negated_if (odd u w) (g w +ℤ h w)) (λ w. negated_if (odd u w) (g w) +ℤ negated_if (odd u w) (h w)) (2 ^ n)
    (λ w l. negated-sum (odd u w) (g w) (h w))
    ∙ total-sum (λ w. negated_if (odd u w) (g w)) (λ w. negated_if (odd u w) (h w)) (2 ^ n)

-- ---- one variable more

-- The point with the bit at place n set.
upper-odd : (n u w : ℕ) → w < 2 ^ n → odd u (2 ^ n + w) ≡ bit n u ⊻ odd u w
upper-odd n u w h =
    ap (odd u) (sym (rw (one-mul (2 ^ n)) at (xor_shifted 1 n w h))) ∙ odd-xor u (2 ^ n) w
    ∙ ap (λ (t : Bool). t ⊻ odd u w) (odd-comm u (2 ^ n) ∙ odd_pow n u)

upper-bit : (n u : ℕ) → u < 2 ^ n → bit n (2 ^ n + u) ≡ true
upper-bit n u h =
    ap (bit n) (sym (rw (one-mul (2 ^ n)) at (xor_shifted 1 n u h))) ∙ bit-xor n (2 ^ n) u ∙ ap₂ ◌⊻◌ (bit-pow-self n) (bit-big n u h)

module _ (n : ℕ) (g : ℕ → ℤ) (u : ℕ) (h : u < 2 ^ n) where
  upper : ℕ → ℤ
  upper v = g (2 ^ n + v)

  pub walsh-lower : walsh (suc n) g u ≡ walsh n (λ v. g v +ℤ g (2 ^ n + v)) u
  unfolding walsh upper
  walsh-lower =
      total-halves (λ w. negated_if (odd u w) (g w)) n
      ∙ sym (total-sum (λ w. negated_if (odd u w) (g w)) (λ w. negated_if (odd u (2 ^ n + w)) (upper w)) (2 ^ n))
      ∙ total_ext (λ w. negated_if (odd u w) (g w) +ℤ negated_if (odd u (2 ^ n + w)) (upper w)) (λ w. negated_if (odd u w) (g w +ℤ upper w)) (2 ^ n)
      (λ w l. ap (λ (t : Bool). negated_if (odd u w) (g w) +ℤ negated_if t (upper w))
      (upper-odd n u w l ∙ ap (λ (t : Bool). t ⊻ odd u w) (bit-big n u h)) ∙ sym (negated-sum (odd u w) (g w) (upper w)))

  -- The vector with the bit at place n set has in a point below 2 ^ n the bits of u, and in one above it one more.
  first-odd : (w : ℕ) → w < 2 ^ n → odd (2 ^ n + u) w ≡ odd u w
  first-odd w l =
      odd-comm (2 ^ n + u) w ∙ upper-odd n w u h ∙ ap (λ (t : Bool). t ⊻ odd w u) (bit-big n w l) ∙ odd-comm w u

  second-odd : (w : ℕ) → w < 2 ^ n → odd (2 ^ n + u) (2 ^ n + w) ≡ true ⊻ odd u w
  second-odd w l = upper-odd n (2 ^ n + u) w l ∙ ap₂ ◌⊻◌ (upper-bit n u h) (first-odd w l)

  pub walsh-upper : walsh (suc n) g (2 ^ n + u) ≡ walsh n (λ v. g v -ℤ g (2 ^ n + v)) u
  unfolding walsh upper
  walsh-upper =
      total-halves (λ w. negated_if (odd (2 ^ n + u) w) (g w)) n
      ∙ sym (total-sum (λ w. negated_if (odd (2 ^ n + u) w) (g w)) (λ w. negated_if (odd (2 ^ n + u) (2 ^ n + w)) (upper w)) (2 ^ n))
      ∙ total_ext (λ w. negated_if (odd (2 ^ n + u) w) (g w) +ℤ negated_if (odd (2 ^ n + u) (2 ^ n + w)) (upper w))
      (λ w. negated_if (odd u w) (g w -ℤ upper w)) (2 ^ n)
      (λ w l. ap₂ (λ (s t : Bool). negated_if s (g w) +ℤ negated_if t (upper w)) (first-odd w l) (second-odd w l)
      ∙ sym (negated-difference (odd u w) (g w) (upper w)))

-- No variable at all: one number, which stays.
pub walsh-none : (g : ℕ → ℤ) (u : ℕ) → u < 1 → walsh 0 g u ≡ g u
unfolding walsh total
walsh-none g u h =
    let e : u ≡ 0 = omega arith in
    rw e (ap (λ (t : Bool). pos 0 +ℤ negated_if t (g 0)) (odd-zero 0) ∙ +ℤ_idl (g 0))

-- ---- the correlation of numbers of one variable more, by their halves

module _ (n : ℕ) (g h : ℕ → ℤ) (a : ℕ) (small : a < 2 ^ n) where
  g' : ℕ → ℤ
  g' v = g (2 ^ n + v)

  h' : ℕ → ℤ
  h' v = h (2 ^ n + v)

  -- The correlations of the sums and of the differences of the halves.
  of-sums : ℤ
  of-sums = correlation n (λ v. g v +ℤ g (2 ^ n + v)) (λ v. h v +ℤ h (2 ^ n + v)) a

  of-differences : ℤ
  of-differences = correlation n (λ v. g v -ℤ g (2 ^ n + v)) (λ v. h v -ℤ h (2 ^ n + v)) a

  -- At the point w: the products of like halves, and those of unlike halves.
  like : ℕ → ℤ
  like w = g w *ℤ h (w ⊕ a) +ℤ g' w *ℤ h' (w ⊕ a)

  unlike : ℕ → ℤ
  unlike w = g w *ℤ h' (w ⊕ a) +ℤ g' w *ℤ h (w ⊕ a)

  correlation-lower : correlation (suc n) g h a ≡ total like (2 ^ n)
  unfolding correlation g' h' like
  correlation-lower =
      total-halves (λ w. g w *ℤ h (w ⊕ a)) n
      ∙ ap (λ (x : ℤ). total (λ w. g w *ℤ h (w ⊕ a)) (2 ^ n) +ℤ x)
      (total_ext (λ w. g' w *ℤ h ((2 ^ n + w) ⊕ a)) (λ w. g' w *ℤ h' (w ⊕ a)) (2 ^ n) (λ w l. ap (λ (p : ℕ). g' w *ℤ h p) (upper-lower n w a l small)))
      ∙ sym (total-sum (λ w. g w *ℤ h (w ⊕ a)) (λ w. g' w *ℤ h' (w ⊕ a)) (2 ^ n))

  correlation-upper : correlation (suc n) g h (2 ^ n + a) ≡ total unlike (2 ^ n)
  unfolding correlation g' h' unlike
  correlation-upper =
      total-halves (λ w. g w *ℤ h (w ⊕ (2 ^ n + a))) n
      ∙ ap₂ ◌+ℤ◌
      (total_ext (λ w. g w *ℤ h (w ⊕ (2 ^ n + a))) (λ w. g w *ℤ h' (w ⊕ a)) (2 ^ n) (λ w l. ap (λ (p : ℕ). g w *ℤ h p) (lower-upper n w a l small)))
      (total_ext (λ w. g' w *ℤ h ((2 ^ n + w) ⊕ (2 ^ n + a))) (λ w. g' w *ℤ h (w ⊕ a)) (2 ^ n)
      (λ w l. ap (λ (p : ℕ). g' w *ℤ h p) (upper-upper n w a l small)))
      ∙ sym (total-sum (λ w. g w *ℤ h' (w ⊕ a)) (λ w. g' w *ℤ h (w ⊕ a)) (2 ^ n))

  -- The terms of both, at the point w.
  sums_at : ℕ → ℤ
  sums_at w = (g w +ℤ g (2 ^ n + w)) *ℤ (h (w ⊕ a) +ℤ h (2 ^ n + (w ⊕ a)))

  differences-at : ℕ → ℤ
  differences-at w = (g w -ℤ g (2 ^ n + w)) *ℤ (h (w ⊕ a) -ℤ h (2 ^ n + (w ⊕ a)))

  terms : (w : ℕ) → (sums_at w ≡ like w +ℤ unlike w) × (differences-at w ≡ like w -ℤ unlike w)
  unfolding g' h' like unlike sums_at differences-at
  terms w = (product-sums (g w) (g' w) (h (w ⊕ a)) (h' (w ⊕ a)), product-differences (g w) (g' w) (h (w ⊕ a)) (h' (w ⊕ a)))

  twice-lower : of-sums +ℤ of-differences ≡ correlation (suc n) g h a +ℤ correlation (suc n) g h a
  unfolding correlation of-sums of-differences sums_at differences-at
  twice-lower =
      sym (total-sum sums_at differences-at (2 ^ n))
      ∙ total_ext (λ w. sums_at w +ℤ differences-at w) (λ w. like w +ℤ like w) (2 ^ n)
      (λ w l. ap₂ ◌+ℤ◌ (terms w).0 (terms w).1 ∙ sum-difference (like w) (unlike w))
      ∙ total-sum like like (2 ^ n) ∙ sym (ap₂ ◌+ℤ◌ correlation-lower correlation-lower)

  twice-upper : of-sums -ℤ of-differences ≡ correlation (suc n) g h (2 ^ n + a) +ℤ correlation (suc n) g h (2 ^ n + a)
  unfolding correlation of-sums of-differences sums_at differences-at
  twice-upper =
      sym (total-difference sums_at differences-at (2 ^ n))
      ∙ total_ext (λ w. sums_at w -ℤ differences-at w) (λ w. unlike w +ℤ unlike w) (2 ^ n)
      (λ w l. ap₂ ◌-ℤ◌ (terms w).0 (terms w).1 ∙ difference-sum (like w) (unlike w))
      ∙ total-sum unlike unlike (2 ^ n) ∙ sym (ap₂ ◌+ℤ◌ correlation-upper correlation-upper)

-- ---- the transform of the product of two transforms

walsh-difference : (n : ℕ) (g h : ℕ → ℤ) (u : ℕ) → walsh n (λ w. g w -ℤ h w) u ≡ walsh n g u -ℤ walsh n h u
unfolding walsh
walsh-difference n g h u =
    total_ext (λ w. negated_if (odd u w) (g w -ℤ h w)) (λ w. negated_if (odd u w) (g w) -ℤ negated_if (odd u w) (h w)) (2 ^ n)
    (λ w l. negated-difference (odd u w) (g w) (h w) ∙ ap (λ (x : ℤ). negated_if (odd u w) (g w) +ℤ x) (sym (negated-twice true (odd u w) (h w))))
    ∙ total-difference (λ w. negated_if (odd u w) (g w)) (λ w. negated_if (odd u w) (h w)) (2 ^ n)

-- A number that is 2 ^ n times a half of z is 2 ^ (n + 1) times that half.
doubled : (n : ℕ) (z : ℤ) → pos (2 ^ n) *ℤ (z +ℤ z) ≡ pos (2 ^ suc n) *ℤ z
doubled n z =
    let e : 2 ^ n + 2 ^ n ≡ 2 ^ suc n = omega arith in
    sum-*ℤ (pos (2 ^ n)) z z ∙ sym (*ℤ-sum (pos (2 ^ n)) (pos (2 ^ n)) z) ∙ ap (λ (k : ℕ). pos k *ℤ z) e

-- What is to be shown, of n variables.
Product : ℕ → Type 0
Product n = (g h : ℕ → ℤ) (a : ℕ) → a < 2 ^ n → walsh n (λ u. walsh n g u *ℤ walsh n h u) a ≡ pos (2 ^ n) *ℤ correlation n g h a

module _ (n : ℕ) (product : Product n) (g h : ℕ → ℤ) where
  -- The product of the transforms, and those of the sums and of the differences of the halves.
  whole : ℕ → ℤ
  whole u = walsh (suc n) g u *ℤ walsh (suc n) h u

  sums : ℕ → ℤ
  sums u = walsh n (λ v. g v +ℤ g (2 ^ n + v)) u *ℤ walsh n (λ v. h v +ℤ h (2 ^ n + v)) u

  differences : ℕ → ℤ
  differences u = walsh n (λ v. g v -ℤ g (2 ^ n + v)) u *ℤ walsh n (λ v. h v -ℤ h (2 ^ n + v)) u

  whole-lower : (u : ℕ) → u < 2 ^ n → whole u ≡ sums u
  unfolding whole sums
  whole-lower u k = ap₂ ◌*ℤ◌ (walsh-lower n g u k) (walsh-lower n h u k)

  whole-upper : (u : ℕ) → u < 2 ^ n → whole (2 ^ n + u) ≡ differences u
  unfolding whole differences
  whole-upper u k = ap₂ ◌*ℤ◌ (walsh-upper n g u k) (walsh-upper n h u k)

  module _ (b : ℕ) (k : b < 2 ^ n) where
    sums-product : walsh n sums b ≡ pos (2 ^ n) *ℤ of-sums n g h b k
    unfolding Product sums of-sums
    sums-product = product (λ v. g v +ℤ g (2 ^ n + v)) (λ v. h v +ℤ h (2 ^ n + v)) b k

    differences-product : walsh n differences b ≡ pos (2 ^ n) *ℤ of-differences n g h b k
    unfolding Product differences of-differences
    differences-product = product (λ v. g v -ℤ g (2 ^ n + v)) (λ v. h v -ℤ h (2 ^ n + v)) b k

    at-lower : walsh (suc n) whole b ≡ pos (2 ^ suc n) *ℤ correlation (suc n) g h b
    at-lower =
        walsh-lower n whole b k
        ∙ walsh-ext n (λ v. whole v +ℤ whole (2 ^ n + v)) (λ v. sums v +ℤ differences v) (λ v l. ap₂ ◌+ℤ◌ (whole-lower v l) (whole-upper v l)) b
        ∙ walsh-sum n sums differences b ∙ ap₂ ◌+ℤ◌ sums-product differences-product
        ∙ sym (sum-*ℤ (pos (2 ^ n)) (of-sums n g h b k) (of-differences n g h b k))
        ∙ ap (λ (x : ℤ). pos (2 ^ n) *ℤ x) (twice-lower n g h b k) ∙ doubled n (correlation (suc n) g h b)

    at-upper : walsh (suc n) whole (2 ^ n + b) ≡ pos (2 ^ suc n) *ℤ correlation (suc n) g h (2 ^ n + b)
    at-upper =
        walsh-upper n whole b k
        ∙ walsh-ext n (λ v. whole v -ℤ whole (2 ^ n + v)) (λ v. sums v -ℤ differences v) (λ v l. ap₂ ◌-ℤ◌ (whole-lower v l) (whole-upper v l)) b
        ∙ walsh-difference n sums differences b ∙ ap₂ ◌-ℤ◌ sums-product differences-product
        ∙ sym (difference-*ℤ (pos (2 ^ n)) (of-sums n g h b k) (of-differences n g h b k))
        ∙ ap (λ (x : ℤ). pos (2 ^ n) *ℤ x) (twice-upper n g h b k) ∙ doubled n (correlation (suc n) g h (2 ^ n + b))

product-next : (n : ℕ) → Product n → Product (suc n)
unfolding Product whole
product-next n product g h a l = go (dec_le (2 ^ n) a)
  where
    go : Dec (2 ^ n ≤ a) → walsh (suc n) (whole n product g h) a ≡ pos (2 ^ suc n) *ℤ correlation (suc n) g h a
    go (no i) = at-lower n product g h a (lt_of_not-le i)
    go (yes i) =
        let e : 2 ^ n + (a - 2 ^ n) ≡ a = omega arith in
        subst (λ (b : ℕ). walsh (suc n) (whole n product g h) b ≡ pos (2 ^ suc n) *ℤ correlation (suc n) g h b) e
        (at-upper n product g h (a - 2 ^ n) (omega arith))

product-none : Product 0
unfolding Product correlation total one
product-none g h a l =
    let e : a ≡ 0 = omega arith in
    walsh-none (λ u. walsh 0 g u *ℤ walsh 0 h u) a l
    ∙ rw e (ap₂ ◌*ℤ◌ (walsh-none g 0 (omega arith)) (walsh-none h 0 (omega arith))
    ∙ sym (*ℤ_comm (pos 1) (pos 0 +ℤ g 0 *ℤ h 0) ∙ *ℤ-one (pos 0 +ℤ g 0 *ℤ h 0) ∙ +ℤ_idl (g 0 *ℤ h 0)))

pub walsh-product : (n : ℕ) (g h : ℕ → ℤ) (a : ℕ) → a < 2 ^ n → walsh n (λ u. walsh n g u *ℤ walsh n h u) a ≡ pos (2 ^ n) *ℤ correlation n g h a
unfolding Product
walsh-product n = go n
  where
    go : (k : ℕ) → Product k
    go zero = product-none
    go (suc k) = product-next k (go k)
