-- Laws of XOR and of single bits: the bits of a XOR, numbers with the same bits, associativity and cancellation, bits above a bound.
-- Read next: Leads.
use mathlib.Core.Path.{◌≡◌, refl, sym, ap, ◌∙◌, subst}
use mathlib.Core.Bool.{true, false, not, ◌&&◌}
use mathlib.Core.Logic.{◌≢◌}
use Prim.Native.Nat.{ℕ, zero, suc, ◌-◌, ◌*◌, ◌/◌, ◌%◌, ◌^◌, ◌≤◌, ◌<◌}
use native.Mathlib.Nat.{div-one, le_of_suc-le-suc, lt_of_not-le, mod-lt, one-mul, zero-lt-suc}
use native.Mathlib.Numerals.{one-add}
use native.Mathlib.Decide.{dec_le}
use native.Mathlib.Omega.{arith}
use lib.Arith.{bin_ind}
use lib.Dec.{eqb, eqb-zero-suc, eqb-suc-zero, eqb-suc-suc, lit<}
use lib.Pow.{pow_mono, pow_pos, shl_exact, shr-shr}
use lib.Bits.{bit_and, and_shr, and_mod, xor_comm, xor_lt, xor_self, xor_zero_l, xor_zero_r, xor_shr, xor_mod}
use borrow.Author.Tests.{eq-eqb, ne_eqb}
use Rattle.gf2.specs.Bits.{◌⊕◌, ◌⊻◌, bit}
use Rattle.gf2.proofs.Logic.{⊻-assoc, ⊻-comm}

-- ---- bits

-- Halves and lowest digits.
pub xor-half : (a b : ℕ) → (a ⊕ b) / 2 ≡ (a / 2) ⊕ (b / 2)
xor-half a b = xor_shr a b 1

pub xor_low : (a b : ℕ) → (a ⊕ b) % 2 ≡ (a % 2) ⊕ (b % 2)
xor_low a b = xor_mod a b 1

-- A statement about two digits is one about four pairs.
pub two_digits : (P : ℕ → ℕ → Type 0) → P 0 0 → P 0 1 → P 1 0 → P 1 1 → (a b : ℕ) → P (a % 2) (b % 2)
two_digits P p q r s a b = go (a % 2) (b % 2) (mod-lt a (zero-lt-suc 1)) (mod-lt b (zero-lt-suc 1))
  where
    go : (x y : ℕ) → x < 2 → y < 2 → P x y
    go zero zero h k = p
    go zero (suc zero) h k = q
    go (suc zero) zero h k = r
    go (suc zero) (suc zero) h k = s
    go (suc (suc x)) y h k = absurd (omega arith)
    go zero (suc (suc y)) h k = absurd (omega arith)
    go (suc zero) (suc (suc y)) h k = absurd (omega arith)

-- XOR is the XOR of the bits, place by place; AND likewise.
pub bit-xor : (k a b : ℕ) → bit k (a ⊕ b) ≡ bit k a ⊻ bit k b
unfolding bit
bit-xor zero a b = rw (xor_low a b) (two_digits (λ x y. eqb (x ⊕ y) 1 ≡ eqb x 1 ⊻ eqb y 1) refl refl refl refl a b)
bit-xor (suc k) a b = rw (xor-half a b) (bit-xor k (a / 2) (b / 2))

pub bit-and : (k a b : ℕ) → bit k (bit_and a b) ≡ bit k a && bit k b
unfolding bit
bit-and zero a b = rw (and_mod a b 1) (two_digits (λ x y. eqb (bit_and x y) 1 ≡ eqb x 1 && eqb y 1) refl refl refl refl a b)
bit-and (suc k) a b = rw (and_shr a b 1) (bit-and k (a / 2) (b / 2))

pub bit-zero : (k : ℕ) → bit k 0 ≡ false
unfolding bit
bit-zero zero = refl
bit-zero (suc k) = bit-zero k

-- 1 shifted to place k, in a number of w bits.
pub shifted_one : (k w : ℕ) → k < w → 1 * 2 ^ k % 2 ^ w ≡ 2 ^ k
shifted_one k w h = shl_exact 1 k w (lit< tt) (omega arith) ∙ one-mul (2 ^ k)

-- A number below 2 ^ k has no bit at place k.
pub bit-big : (k x : ℕ) → x < 2 ^ k → bit k x ≡ false
unfolding bit
bit-big zero x h = let e : x ≡ 0 = omega arith in rw e
bit-big (suc k) x h = bit-big k (x / 2) (omega arith)

-- The bit at place k is the digit of 2 ^ k.
pub bit_is : (k x : ℕ) → bit k x ≡ eqb (x / 2 ^ k % 2) 1
unfolding bit
bit_is zero x = rw (div-one x)
bit_is (suc k) x = bit_is k (x / 2) ∙ ap (λ (n : ℕ). eqb (n % 2) 1) (shr-shr x 1 k ∙ ap (λ (j : ℕ). x / 2 ^ j) (one-add k))

-- The vector of one bit.
pub bit-pow : (j k : ℕ) → bit k (2 ^ j) ≡ eqb j k
unfolding bit
bit-pow zero zero = refl
bit-pow zero (suc k) = bit-zero k ∙ sym (eqb-zero-suc k)
bit-pow (suc j) zero = let e : 2 ^ suc j % 2 ≡ 0 = omega arith in rw e (sym (eqb-suc-zero j))
bit-pow (suc j) (suc k) = let h : 2 ^ suc j / 2 ≡ 2 ^ j = omega arith in rw h (bit-pow j k ∙ sym (eqb-suc-suc j k))

pub bit-pow-self : (j : ℕ) → bit j (2 ^ j) ≡ true
bit-pow-self j = bit-pow j j ∙ eq-eqb j j refl

pub bit-pow-other : (j k : ℕ) → j ≢ k → bit k (2 ^ j) ≡ false
bit-pow-other j k h = bit-pow j k ∙ ne_eqb j k h

-- The number of all n bits.
pub bit-ones : (n k : ℕ) → k < n → bit k (2 ^ n - 1) ≡ true
unfolding bit
bit-ones zero k h = absurd (omega arith)
bit-ones (suc n) zero h = let e : (2 ^ suc n - 1) % 2 ≡ 1 = omega (arith, pow_pos n) in rw e
bit-ones (suc n) (suc k) h =
    let e : (2 ^ suc n - 1) / 2 ≡ 2 ^ n - 1 = omega (arith, pow_pos n) in
    rw e (bit-ones n k (le_of_suc-le-suc h))

-- XOR with it turns the bits over.
pub bit-turned : (n k m : ℕ) → k < n → bit k (m ⊕ (2 ^ n - 1)) ≡ not (bit k m)
bit-turned n k m h = bit-xor k m (2 ^ n - 1) ∙ rw (bit-ones n k h) (⊻-comm (bit k m) true)

-- ---- two numbers with the same bits are equal

digit-ext : (a b : ℕ) → bit 0 a ≡ bit 0 b → a % 2 ≡ b % 2
unfolding bit
digit-ext a b = two_digits (λ x y. eqb x 1 ≡ eqb y 1 → x ≡ y) (λ e. refl) (λ e. cc) (λ e. cc) (λ e. refl) a b

zero-ext : (b : ℕ) → ((k : ℕ) → bit k b ≡ false) → b ≡ 0
unfolding bit
zero-ext = bin_ind (λ (b : ℕ). ((k : ℕ) → bit k b ≡ false) → b ≡ 0) (λ h. refl)
    (λ n ih h. let e : n / 2 ≡ 0 = ih (λ k. h (suc k)) in let f : n % 2 ≡ 0 % 2 = digit-ext n 0 (h 0) in omega arith)

pub bit-ext : (a b : ℕ) → ((k : ℕ) → bit k a ≡ bit k b) → a ≡ b
unfolding bit
bit-ext = bin_ind (λ (a : ℕ). (b : ℕ) → ((k : ℕ) → bit k a ≡ bit k b) → a ≡ b)
    (λ b h. sym (zero-ext b (λ k. sym (h k) ∙ bit-zero k)))
    (λ n ih b h. let e : n / 2 ≡ b / 2 = ih (b / 2) (λ k. h (suc k)) in let f : n % 2 ≡ b % 2 = digit-ext n b (h 0) in omega arith)

-- Below 2 ^ n, the n lowest bits are enough.
pub bit-ext-below : (n a b : ℕ) → a < 2 ^ n → b < 2 ^ n → ((k : ℕ) → k < n → bit k a ≡ bit k b) → a ≡ b
bit-ext-below n a b ha hb h = bit-ext a b (λ k. go k (dec_le (suc k) n))
  where
    go : (k : ℕ) → Dec (k < n) → bit k a ≡ bit k b
    go k (yes l) = h k l
    go k (no l) = let m = pow_mono (le_of_suc-le-suc (lt_of_not-le l)) in bit-big k a (omega arith) ∙ sym (bit-big k b (omega arith))

-- ---- the algebra of XOR (commutativity, `xor_self`, 0 and the bound `xor_lt` are in the kit's lib.Bits)

pub xor_assoc : (a b c : ℕ) → a ⊕ b ⊕ c ≡ a ⊕ (b ⊕ c)
xor_assoc a b c = bit-ext (a ⊕ b ⊕ c) (a ⊕ (b ⊕ c)) (λ k. simp (bit-xor, ⊻-assoc))

pub xor-cancel : (a b : ℕ) → a ⊕ b ⊕ b ≡ a
xor-cancel a b = xor_assoc a b b ∙ ap (λ (x : ℕ). a ⊕ x) (xor_self b) ∙ xor_zero_r a

-- A number that is not below 2 ^ n stays so.
pub xor_above : (n a b : ℕ) → 2 ^ n ≤ a → b < 2 ^ n → 2 ^ n ≤ a ⊕ b
xor_above n a b h l = elim (dec_le (2 ^ n) (a ⊕ b)) [
  | yes g ↦ g
  | no g ↦ absurd (omega (arith, subst (λ (z : ℕ). z < 2 ^ n) (xor-cancel a b) (xor_lt n (a ⊕ b) b (lt_of_not-le g) l)))
]

pub xor-cancel-l : (a b : ℕ) → a ⊕ (a ⊕ b) ≡ b
xor-cancel-l a b = sym (xor_assoc a a b) ∙ ap (λ (x : ℕ). x ⊕ b) (xor_self a)

pub xor-left-comm : (a b c : ℕ) → a ⊕ (b ⊕ c) ≡ b ⊕ (a ⊕ c)
xor-left-comm a b c = sym (xor_assoc a b c) ∙ ap (λ (x : ℕ). x ⊕ c) (xor_comm a b) ∙ xor_assoc b a c

pub xor-eq : (a b : ℕ) → a ⊕ b ≡ 0 → a ≡ b
xor-eq a b e = sym (xor-cancel a b) ∙ ap (λ (x : ℕ). x ⊕ b) e

pub xor-fix : (a b : ℕ) → a ⊕ b ≡ a → b ≡ 0
xor-fix a b e = sym (xor-cancel-l a b) ∙ ap (λ (x : ℕ). a ⊕ x) e ∙ xor_self a

-- The rules by which `simp` brings both sides of an equation between XORs to one form.
pub ruleset xors = (xor_assoc, xor_comm, xor-left-comm, xor_self, xor-cancel-l, xor_zero_l, xor_zero_r)

pub xor-swap : (a b c : ℕ) → a ⊕ b ⊕ c ≡ a ⊕ c ⊕ b
xor-swap a b c = simp xors

pub xor-pair : (a b c : ℕ) → (a ⊕ c) ⊕ (b ⊕ c) ≡ a ⊕ b
xor-pair a b c = simp xors
