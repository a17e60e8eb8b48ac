-- Laws of the parity of common bits: it is found by a count of ones, and it is linear in the point and in the mask. Read next: Span.
use mathlib.Core.Path.{◌≡◌, refl, sym, ap, ap₂, ◌∙◌}
use mathlib.Core.Bool.{Bool, false, ◌&&◌}
use Prim.Native.Nat.{ℕ, zero, suc, ◌+◌, ◌/◌, ◌%◌, ◌^◌, ◌<◌}
use native.Mathlib.Nat.{add-mod, zero-lt-suc}
use native.Mathlib.Omega.{arith}
use lib.Dec.{eqb}
use lib.Bits.{bit_and, and_shr, and_mod, and_comm}
use lib.Count.{ones, ones_step}
use lib.Pow.{pow_pos}
use Rattle.gf2.specs.Bits.{◌⊕◌, ◌⊻◌, bit}
use Rattle.gf2.specs.Parity.{odd_in, odd}
use Rattle.gf2.proofs.Logic.{⊻-assoc, ⊻-comm, ⊻-false, and-⊻}
use Rattle.gf2.proofs.Xor.{two_digits, xor-half, bit-xor}

-- ---- a count of ones gives the parity of the bits taken one by one (document 02, No. 2)

-- The parity of a sum.
sum-odd : (a b : ℕ) → eqb ((a + b) % 2) 1 ≡ eqb (a % 2) 1 ⊻ eqb (b % 2) 1
sum-odd a b = rw (add-mod a b 2) (two_digits (λ x y. eqb ((x + y) % 2) 1 ≡ eqb x 1 ⊻ eqb y 1) refl refl refl refl a b)

low_and : (m w : ℕ) → eqb (bit_and m w % 2 % 2) 1 ≡ bit 0 m && bit 0 w
unfolding bit
low_and m w = rw (and_mod m w 1) (two_digits (λ x y. eqb (bit_and x y % 2) 1 ≡ eqb x 1 && eqb y 1) refl refl refl refl m w)

-- In any width that holds the mask.
pub odd-count : (k m w : ℕ) → m < 2 ^ k → eqb (ones (bit_and m w) % 2) 1 ≡ odd_in k m w
unfolding odd_in ones
odd-count zero m w h = let e : m ≡ 0 = omega arith in rw e
odd-count (suc k) m w h =
    ap (λ (x : ℕ). eqb (x % 2) 1) (ones_step (bit_and m w)) ∙ sum-odd (bit_and m w % 2) (ones (bit_and m w / 2))
    ∙ ap₂ ◌⊻◌ (low_and m w) (ap (λ (x : ℕ). eqb (ones x % 2) 1) (and_shr m w 1) ∙ odd-count k (m / 2) (w / 2) (omega arith))

below-pow : (m : ℕ) → m < 2 ^ m
below-pow zero = zero-lt-suc 0
below-pow (suc m) = omega (arith, below-pow m)

pub odd-ones : (m w : ℕ) → odd m w ≡ eqb (ones (bit_and m w) % 2) 1
unfolding odd
odd-ones m w = sym (odd-count m m w (below-pow m))

-- So the width does not matter.
pub odd-width : (k m w : ℕ) → m < 2 ^ k → odd m w ≡ odd_in k m w
odd-width k m w h = odd-ones m w ∙ odd-count k m w h

-- ---- linear in the point and in the mask

exchange : (a b c d : Bool) → (a ⊻ b) ⊻ (c ⊻ d) ≡ (a ⊻ c) ⊻ (b ⊻ d)
exchange a b c d =
    ⊻-assoc a b (c ⊻ d)
    ∙ ap (λ (t : Bool). a ⊻ t) (sym (⊻-assoc b c d) ∙ ap (λ (t : Bool). t ⊻ d) (⊻-comm b c) ∙ ⊻-assoc c b d)
    ∙ sym (⊻-assoc a c (b ⊻ d))

odd_in-xor : (k m a b : ℕ) → odd_in k m (a ⊕ b) ≡ odd_in k m a ⊻ odd_in k m b
unfolding odd_in
odd_in-xor zero m a b = refl
odd_in-xor (suc k) m a b =
    rw (bit-xor 0 a b, and-⊻ (bit 0 m) (bit 0 a) (bit 0 b), xor-half a b, odd_in-xor k (m / 2) (a / 2) (b / 2))
    (exchange (bit 0 m && bit 0 a) (bit 0 m && bit 0 b) (odd_in k (m / 2) (a / 2)) (odd_in k (m / 2) (b / 2)))

pub odd-xor : (m a b : ℕ) → odd m (a ⊕ b) ≡ odd m a ⊻ odd m b
unfolding odd
odd-xor m a b = odd_in-xor m m a b

pub odd-comm : (m w : ℕ) → odd m w ≡ odd w m
odd-comm m w = odd-ones m w ∙ ap (λ (x : ℕ). eqb (ones x % 2) 1) (and_comm m w) ∙ sym (odd-ones w m)

pub odd-xor-mask : (a b w : ℕ) → odd (a ⊕ b) w ≡ odd a w ⊻ odd b w
odd-xor-mask a b w = odd-comm (a ⊕ b) w ∙ odd-xor w a b ∙ ap₂ ◌⊻◌ (odd-comm w a) (odd-comm w b)

pub odd-zero : (w : ℕ) → odd 0 w ≡ false
unfolding odd odd_in
odd-zero w = refl

-- A mask of one bit reads that bit.
odd_in-pow : (j w : ℕ) → odd_in (suc j) (2 ^ j) w ≡ bit j w
unfolding odd_in bit
odd_in-pow zero w = ⊻-false (eqb (w % 2) 1)
odd_in-pow (suc j) w =
    let e : 2 ^ suc j % 2 ≡ 0 = omega arith in
    let h : 2 ^ suc j / 2 ≡ 2 ^ j = omega arith in
    rw (e, h) (odd_in-pow j (w / 2))

pub odd_pow : (j w : ℕ) → odd (2 ^ j) w ≡ bit j w
odd_pow j w = odd-width (suc j) (2 ^ j) w (omega (arith, pow_pos j)) ∙ odd_in-pow j w
