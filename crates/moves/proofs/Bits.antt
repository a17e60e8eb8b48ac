-- Laws of the bits of a number under OR and shifts, for any width. Read next: Moves.
use mathlib.Core.Path.{◌≡◌, refl, sym, ap, ◌∙◌}
use mathlib.Core.Bool.{false, ◌||◌}
use Prim.Native.Nat.{ℕ, zero, suc, ◌+◌, ◌-◌, ◌*◌, ◌/◌, ◌%◌, ◌^◌, ◌<◌}
use native.Mathlib.Nat.{mul_assoc}
use native.Mathlib.Omega.{arith}
use lib.Dec.{eqb}
use lib.Pow.{pow-add, shl-shr, shr-shr, field, mod-mod-pow}
use lib.Bits.{bit_or, or_mod, or_shr, shifted_even}
use Rattle.gf2.specs.Bits.{bit}
use Rattle.gf2.proofs.Xor.{two_digits, bit_is, bit-pow, shifted_one}

pub bit-or : (k a b : ℕ) → bit k (bit_or a b) ≡ bit k a || bit k b
unfolding bit
bit-or zero a b = rw (or_mod a b 1) (two_digits (λ x y. eqb (bit_or x y) 1 ≡ eqb x 1 || eqb y 1) refl refl refl refl a b)
bit-or (suc k) a b = rw (or_shr a b 1) (bit-or k (a / 2) (b / 2))

-- The bit at place p set, in a number of w bits.
pub bit-put : (w k m p : ℕ) → p < w → bit k (bit_or m (1 * 2 ^ p % 2 ^ w)) ≡ bit k m || eqb p k
bit-put w k m p h = bit-or k m (1 * 2 ^ p % 2 ^ w) ∙ ap (λ t. bit k m || t) (ap (bit k) (shifted_one p w h) ∙ bit-pow p k)

-- Shifted down by s, shifted up by s, and cut to s bits.
pub bit-down : (k s x : ℕ) → bit k (x / 2 ^ s) ≡ bit (s + k) x
bit-down k s x = bit_is k (x / 2 ^ s) ∙ ap (λ (z : ℕ). eqb (z % 2) 1) (shr-shr x s k) ∙ sym (bit_is (s + k) x)

pub bit_up : (k s x : ℕ) → bit (s + k) (x * 2 ^ s) ≡ bit k x
bit_up k s x = sym (bit-down k s (x * 2 ^ s)) ∙ ap (bit k) (shl-shr x s)

pub bit-under : (k s x : ℕ) → k < s → bit k (x * 2 ^ s) ≡ false
bit-under k s x h =
    let j = s - suc k in
    let e : s ≡ suc j + k = omega arith in
    let f : x * 2 ^ s ≡ x * 2 ^ suc j * 2 ^ k = ap (λ (z : ℕ). x * 2 ^ z) e ∙ ap (λ (z : ℕ). x * z) (pow-add 2 (suc j) k) ∙ sym (mul_assoc x (2 ^ suc j) (2 ^ k)) in
    bit_is k (x * 2 ^ s) ∙ ap (λ (z : ℕ). eqb (z / 2 ^ k % 2) 1) f ∙ ap (λ (z : ℕ). eqb (z % 2) 1) (shl-shr (x * 2 ^ suc j) k) ∙ ap (λ (z : ℕ). eqb z 1) (shifted_even x j)

pub bit_cut : (k s x : ℕ) → k < s → bit k (x % 2 ^ s) ≡ bit k x
bit_cut k s x h =
    let j = s - suc k in
    let e : s ≡ (j + 1) + k = omega arith in
    bit_is k (x % 2 ^ s) ∙ ap (λ (z : ℕ). eqb (x % 2 ^ z / 2 ^ k % 2) 1) e ∙ ap (λ (z : ℕ). eqb (z % 2) 1) (field x (j + 1) k)
    ∙ ap (λ (z : ℕ). eqb z 1) (mod-mod-pow (x / 2 ^ k) j 1) ∙ sym (bit_is k x)
