-- Laws of the lead: it is the highest set bit, it is found by a count of leading zeros, and numbers are ordered by the highest bit
-- in which they differ. Read next: Odd.
use mathlib.Core.Path.{◌≡◌, refl, sym, ap, ap₂, ◌∙◌, subst}
use mathlib.Core.Bool.{Bool, true, false}
use mathlib.Core.Logic.{inl, inr, ◌≢◌}
use Prim.Native.Nat.{ℕ, zero, suc, ◌+◌, ◌/◌, ◌%◌, ◌^◌, ◌≤◌, ◌<◌}
use native.Mathlib.Nat.{eq-zero-or-pos, zero-div, div-eq_of_lt, div-add-mod', div-eq_of_lt-le, lt_of_not-le, mod-lt, zero-lt-suc, pos_of_ne-zero}
use native.Mathlib.Numerals.{one-add}
use native.Mathlib.Decide.{dec_le, ℕ_discrete}
use native.Mathlib.Omega.{arith}
use lib.Arith.{lt_of_le-ne}
use lib.Count.{count_leading_zeros, leading_top}
use lib.Dec.{ltb, eqb}
use lib.Pow.{pow_mono, shr-shr, pow_pos}
use lib.Bits.{xor_zero_r, xor_shr}
use borrow.Author.Tests.{ltb-true}
use Rattle.gf2.specs.Bits.{◌⊕◌, ◌⊻◌, bit, Highest, halvings, lead, has_lead}
use Rattle.gf2.proofs.Logic.{clash, ltb-same}
use Rattle.gf2.proofs.Xor.{xor-half, xor_low, two_digits, bit-xor, bit-big, bit_is, xor-cancel-l, xor-fix, xor-eq}

-- ---- the lead as a quotient: k is the place of the highest set bit of v exactly if v / 2 ^ k is 1

abbrev pub Lead : ℕ → ℕ → Type 0
Lead k v = v / 2 ^ k ≡ 1

pub lead_low : (k v : ℕ) → Lead k v → 2 ^ k ≤ v
lead_low k v e = omega (arith, rw e at (div-add-mod' v (2 ^ k)))

pub lead_high : (k v : ℕ) → Lead k v → v < 2 ^ suc k
lead_high k v e = omega (arith, rw e at (div-add-mod' v (2 ^ k)), mod-lt v (pow_pos k))

pub lead-of : (k v : ℕ) → 2 ^ k ≤ v → v < 2 ^ suc k → Lead k v
lead-of k v l h = div-eq_of_lt-le (2 ^ k) (omega arith) (omega arith)

pub lead-pos : (k v : ℕ) → Lead k v → 0 < v
lead-pos k v e = elim (eq-zero-or-pos v) [ inl z ↦ absurd (omega (arith, ap (λ (n : ℕ). n / 2 ^ k) z, zero-div (2 ^ k))) | inr p ↦ p ]

lead-le : (j k v : ℕ) → Lead j v → Lead k v → j ≤ k
lead-le j k v p q = elim (dec_le j k) [
  | yes h ↦ h
  | no h ↦
      absurd (omega (arith, pow_mono (lt_of_not-le h), lead_low j v p, lead_high k v q))
]

pub lead-unique : (j k v : ℕ) → Lead j v → Lead k v → j ≡ k
lead-unique j k v p q = omega (arith, lead-le j k v p q, lead-le k j v q p)

-- ---- `lead` finds it

halvings-lead : (k v : ℕ) → 0 < v → v ≤ k → Lead (halvings k v) v
unfolding halvings
halvings-lead zero v p h = absurd (omega arith)
halvings-lead (suc k) zero p h = absurd (omega arith)
halvings-lead (suc k) (suc zero) p h = refl
halvings-lead (suc k) (suc (suc v)) p h =
    let j = halvings k (suc (suc v) / 2) in
    sym (shr-shr (suc (suc v)) 1 j ∙ ap (λ (i : ℕ). suc (suc v) / 2 ^ i) (one-add j)) ∙ halvings-lead k (suc (suc v) / 2) (omega arith) (omega arith)

pub lead_is : (v : ℕ) → 0 < v → Lead (lead v) v
unfolding lead
lead_is v p = halvings-lead v v p (omega arith)

pub lead-eq : (k v : ℕ) → Lead k v → lead v ≡ k
lead-eq k v e = lead-unique (lead v) k v (lead_is v (lead-pos k v e)) e

-- The lead of a vector that is not 0 is its highest set bit (document 02, No. 2).
pub lead-highest : (v : ℕ) → 0 < v → Highest (lead v) v
lead-highest v p =
    let e = lead_is v p in
    record {
      set = bit_is (lead v) v ∙ rw e;
      above = λ j h. bit-big j v (omega (arith, lead_high (lead v) v e, pow_mono h));
    }

-- A number has one highest set bit.
highest-le : (j k v : ℕ) → Highest j v → Highest k v → j ≤ k
highest-le j k v p q = elim (dec_le j k) [ yes h ↦ h | no h ↦ clash p.set (q.above j (lt_of_not-le h)) ]

pub highest-unique : (j k v : ℕ) → Highest j v → Highest k v → j ≡ k
highest-unique j k v p q = omega (arith, highest-le j k v p q, highest-le k j v q p)

-- In a word of w digits the leading zeros and the digits from the lead down are all there is (document 02, No. 2).
pub lead-zeros : (w v : ℕ) → 0 < v → v < 2 ^ w → count_leading_zeros w v + suc (lead v) ≡ w
lead-zeros w v p h =
    let t = leading_top w v p h in
    rw (lead-eq t.0 v (lead-of t.0 v t.2 t.3)) t.1

-- ---- x ⊕ b is below x exactly if b's lead bit is set in x

lead-half : (k b : ℕ) → Lead (suc k) b → Lead k (b / 2)
lead-half k b e = shr-shr b 1 k ∙ ap (λ (j : ℕ). b / 2 ^ j) (one-add k) ∙ e

pub falls-bit : (k b x : ℕ) → Lead k b → ltb (x ⊕ b) x ≡ bit k x
unfolding bit
falls-bit zero b x e =
    let b1 : b ≡ 1 = omega arith in
    let h : (x ⊕ 1) / 2 ≡ x / 2 = xor-half x 1 ∙ xor_zero_r (x / 2) in
    let l : (x ⊕ 1) % 2 ≡ (x % 2) ⊕ 1 = xor_low x 1 in
    rw b1 (ltb-same (x ⊕ 1) x ((x % 2) ⊕ 1) (x % 2) (λ p. omega arith) (λ p. omega arith)
    ∙ two_digits (λ u v. ltb (u ⊕ 1) u ≡ eqb u 1) refl refl refl refl x 0)
falls-bit (suc k) b x e =
    let h : (x ⊕ b) / 2 ≡ (x / 2) ⊕ (b / 2) = xor-half x b in
    let ne : (x / 2) ⊕ (b / 2) ≢ (x / 2) = λ q. omega (arith, xor-fix (x / 2) (b / 2) q, lead-pos k (b / 2) (lead-half k b e)) in
    ltb-same (x ⊕ b) x ((x / 2) ⊕ (b / 2)) (x / 2) (λ p. omega arith) (λ p. omega arith) ∙ falls-bit k (b / 2) (x / 2) (lead-half k b e)

-- The highest bit in which a and b differ is set in a: b is below a.
pub order-by-bit : (k a b : ℕ) → Lead k (a ⊕ b) → bit k a ≡ true → b < a
order-by-bit k a b e t = rw (xor-cancel-l a b) at (ltb-true (a ⊕ (a ⊕ b)) a (falls-bit k (a ⊕ b) a e ∙ t))

pub falls-lead : (b x : ℕ) → 0 < b → ltb (x ⊕ b) x ≡ has_lead b x
falls-lead b x p = falls-bit (lead b) b x (lead_is b p)

pub has_lead-xor : (b x y : ℕ) → has_lead b (x ⊕ y) ≡ has_lead b x ⊻ has_lead b y
has_lead-xor b x y = bit-xor (lead b) x y

pub has_lead-self : (b : ℕ) → 0 < b → has_lead b b ≡ true
has_lead-self b p = (lead-highest b p).set

pub has_lead-ne : (b x : ℕ) → 0 < b → has_lead b x ≡ false → b ≢ x
has_lead-ne b x p e q = clash (has_lead-self b p) (subst (λ (z : ℕ). has_lead b z ≡ false) (sym q) e)

-- Clearing the lead bit lowers a number, setting it does not.
pub has_lead-lt : (b x : ℕ) → 0 < b → has_lead b x ≡ true → x ⊕ b < x
has_lead-lt b x p e = ltb-true (x ⊕ b) x (falls-lead b x p ∙ e)

-- ---- leads compared

-- The lead of a XOR of vectors with different leads is the higher one.
pub lead-xor : (k a b : ℕ) → Lead k b → a < 2 ^ k → Lead k (b ⊕ a)
lead-xor k a b e h = xor_shr b a k ∙ ap₂ ◌⊕◌ e (div-eq_of_lt h)

pub lead-below : (a b : ℕ) → lead a < lead b → a < 2 ^ lead b
lead-below zero b h = pow_pos (lead b)
lead-below (suc a) b h = omega (arith, lead_high (lead (suc a)) (suc a) (lead_is (suc a) (zero-lt-suc a)), pow_mono h)

pub lead-xor-higher : (a b : ℕ) → 0 < b → lead a < lead b → lead (b ⊕ a) ≡ lead b
lead-xor-higher a b p h = lead-eq (lead b) (b ⊕ a) (lead-xor (lead b) a b (lead_is b p) (lead-below a b h))

pub lead-lt : (a b : ℕ) → 0 < b → lead a < lead b → a < b
lead-lt a b p h = omega (arith, lead-below a b h, lead_low (lead b) b (lead_is b p))

-- Leads rise with the numbers.
pub lead-mono : (k j : ℕ) → 0 < k → k ≤ j → lead k ≤ lead j
lead-mono k j p h = elim (dec_le (lead k) (lead j)) [ yes i ↦ i | no i ↦ absurd (omega (arith, lead-lt j k p (lt_of_not-le i))) ]

-- b < c, and b's lead bit is not set in c: then b's lead is below c's.
pub lead-rise : (b c : ℕ) → 0 < b → b < c → has_lead b c ≡ false → lead b < lead c
lead-rise b c p h e = go (ℕ_discrete (lead b) (lead c)) (dec_le (lead b) (lead c))
  where
    go : Dec (lead b ≡ lead c) → Dec (lead b ≤ lead c) → lead b < lead c
    go (yes q) d = clash (rw q (has_lead-self c (omega arith))) e
    go (no n) (yes l) = omega arith
    go (no n) (no l) = absurd (omega (arith, lead-lt c b p (lt_of_not-le l)))

-- A lead bit that is set in x is no higher than x's lead, and lower if x's is not set in the vector.
pub lead-in : (b x : ℕ) → has_lead b x ≡ true → lead b ≤ lead x
lead-in b x e = elim (dec_le (lead b) (lead x)) [ yes h ↦ h | no h ↦ clash e (bit-big (lead b) x (lead-below x b (lt_of_not-le h))) ]

pub lead-under : (b c : ℕ) → 0 < b → has_lead b c ≡ true → has_lead c b ≡ false → lead b < lead c
lead-under b c p e f = lt_of_le-ne (lead-in b c e) (λ q. clash (has_lead-self b p) (rw q f))

-- The lead of a vector below 2 ^ n is below n.
pub lead-fits : (n v : ℕ) → 0 < v → v < 2 ^ n → lead v < n
lead-fits n v p h = elim (dec_le n (lead v)) [
  | yes l ↦ absurd (omega (arith, pow_mono l, lead_low (lead v) v (lead_is v p)))
  | no l ↦ lt_of_not-le l
]

pub lead-pow : (k : ℕ) → lead (2 ^ k) ≡ k
lead-pow k = lead-eq k (2 ^ k) (lead-of k (2 ^ k) (omega arith) (omega (arith, pow_pos k)))

-- ---- two points compared

pub differ-pos : (u v : ℕ) → u < v → 0 < u ⊕ v
differ-pos u v h = pos_of_ne-zero (λ e. omega (arith, xor-eq u v e))

-- The highest bit in which they differ is clear in the smaller and set in the larger.
pub differ-lower : (u v : ℕ) → u < v → bit (lead (u ⊕ v)) u ≡ false
differ-lower u v h = go (bit (lead (u ⊕ v)) u) refl
  where
    go : (t : Bool) → bit (lead (u ⊕ v)) u ≡ t → t ≡ false
    go false e = refl
    go true e = absurd (omega (arith, order-by-bit (lead (u ⊕ v)) u v (lead_is (u ⊕ v) (differ-pos u v h)) e))

pub differ-upper : (u v : ℕ) → u < v → bit (lead (u ⊕ v)) v ≡ true
differ-upper u v h = sym (rw (differ-lower u v h) at (bit-xor (lead (u ⊕ v)) u v)) ∙ has_lead-self (u ⊕ v) (differ-pos u v h)
