-- Laws of whole numbers that the kit doesn't have: sums exchanged, products over sums, negation, and the product of two sums. Read next: Sums.
use mathlib.Core.Path.{◌≡◌, refl, sym, ap, ap₂, ◌∙◌}
use mathlib.Core.Bool.{Bool, true, false}
use lib.IntN.{ℤ, pos, negsuc, neg_ℤ, ◌+ℤ◌, ◌-ℤ◌, ◌*ℤ◌, ℤ_ind, +ℤ_assoc, +ℤ_comm, +ℤ_idl, +ℤ_idr, +ℤ_invr, +ℤ_invl, +ℤ_one, -ℤ_one, neg_ℤ-neg_ℤ, neg_ℤ-+ℤ, *ℤ_comm, zero-*ℤ, suc_ℤ-*ℤ, pred_ℤ-*ℤ, +ℤ-suc_ℤ, +ℤ-pred_ℤ}
use Rattle.gf2.specs.Bits.{◌⊻◌}
use Rattle.walsh.specs.Sums.{negated_if}

-- ---- sums

pub +ℤ-exchange : (a b c d : ℤ) → (a +ℤ b) +ℤ (c +ℤ d) ≡ (a +ℤ c) +ℤ (b +ℤ d)
+ℤ-exchange a b c d =
    +ℤ_assoc a b (c +ℤ d)
    ∙ ap (λ (x : ℤ). a +ℤ x) (sym (+ℤ_assoc b c d) ∙ ap (λ (x : ℤ). x +ℤ d) (+ℤ_comm b c) ∙ +ℤ_assoc c b d)
    ∙ sym (+ℤ_assoc a c (b +ℤ d))

-- A sum and a difference of the same two, added and subtracted: twice the first, and twice the second.
pub sum-difference : (p q : ℤ) → (p +ℤ q) +ℤ (p -ℤ q) ≡ p +ℤ p
sum-difference p q = +ℤ-exchange p q p (neg_ℤ q) ∙ ap (λ (x : ℤ). (p +ℤ p) +ℤ x) (+ℤ_invr q) ∙ +ℤ_idr (p +ℤ p)

pub difference-sum : (p q : ℤ) → (p +ℤ q) -ℤ (p -ℤ q) ≡ q +ℤ q
difference-sum p q =
    ap (λ (x : ℤ). (p +ℤ q) +ℤ x) (neg_ℤ-+ℤ p (neg_ℤ q) ∙ ap (λ (x : ℤ). neg_ℤ p +ℤ x) (neg_ℤ-neg_ℤ q))
    ∙ +ℤ-exchange p q (neg_ℤ p) q ∙ ap (λ (x : ℤ). x +ℤ (q +ℤ q)) (+ℤ_invr p) ∙ +ℤ_idl (q +ℤ q)

-- ---- products

-- A product over a sum, by steps of one.
pub *ℤ-sum : (a b c : ℤ) → (a +ℤ b) *ℤ c ≡ a *ℤ c +ℤ b *ℤ c
*ℤ-sum a b c =
    ℤ_ind (λ (k : ℤ). (a +ℤ k) *ℤ c ≡ a *ℤ c +ℤ k *ℤ c)
    (ap (λ (x : ℤ). x *ℤ c) (+ℤ_idr a) ∙ sym (ap (λ (x : ℤ). a *ℤ c +ℤ x) (zero-*ℤ c) ∙ +ℤ_idr (a *ℤ c)))
    (λ n i. up (pos n) i) (λ n i. down (neg_ℤ (pos n)) i) b
  where
    up : (k : ℤ) → (a +ℤ k) *ℤ c ≡ a *ℤ c +ℤ k *ℤ c → (a +ℤ (k +ℤ pos 1)) *ℤ c ≡ a *ℤ c +ℤ (k +ℤ pos 1) *ℤ c
    up k i =
        ap (λ (x : ℤ). (a +ℤ x) *ℤ c) (+ℤ_one k) ∙ ap (λ (x : ℤ). x *ℤ c) (+ℤ-suc_ℤ a k) ∙ suc_ℤ-*ℤ (a +ℤ k) c ∙ ap (λ (x : ℤ). x +ℤ c) i
        ∙ +ℤ_assoc (a *ℤ c) (k *ℤ c) c ∙ ap (λ (x : ℤ). a *ℤ c +ℤ x) (sym (suc_ℤ-*ℤ k c) ∙ ap (λ (x : ℤ). x *ℤ c) (sym (+ℤ_one k)))

    down : (k : ℤ) → (a +ℤ k) *ℤ c ≡ a *ℤ c +ℤ k *ℤ c → (a +ℤ (k +ℤ negsuc 0)) *ℤ c ≡ a *ℤ c +ℤ (k +ℤ negsuc 0) *ℤ c
    down k i =
        ap (λ (x : ℤ). (a +ℤ x) *ℤ c) (-ℤ_one k) ∙ ap (λ (x : ℤ). x *ℤ c) (+ℤ-pred_ℤ a k) ∙ pred_ℤ-*ℤ (a +ℤ k) c ∙ ap (λ (x : ℤ). x -ℤ c) i
        ∙ +ℤ_assoc (a *ℤ c) (k *ℤ c) (neg_ℤ c) ∙ ap (λ (x : ℤ). a *ℤ c +ℤ x) (sym (pred_ℤ-*ℤ k c) ∙ ap (λ (x : ℤ). x *ℤ c) (sym (-ℤ_one k)))

pub sum-*ℤ : (c a b : ℤ) → c *ℤ (a +ℤ b) ≡ c *ℤ a +ℤ c *ℤ b
sum-*ℤ c a b = *ℤ_comm c (a +ℤ b) ∙ *ℤ-sum a b c ∙ ap₂ ◌+ℤ◌ (*ℤ_comm a c) (*ℤ_comm b c)

pub neg-*ℤ : (a b : ℤ) → neg_ℤ a *ℤ b ≡ neg_ℤ (a *ℤ b)
neg-*ℤ a b = opposite (a *ℤ b) (neg_ℤ a *ℤ b) (sym (*ℤ-sum a (neg_ℤ a) b) ∙ ap (λ (x : ℤ). x *ℤ b) (+ℤ_invr a) ∙ zero-*ℤ b)
  where
    opposite : (x y : ℤ) → x +ℤ y ≡ pos 0 → y ≡ neg_ℤ x
    opposite x y e = sym (+ℤ_idl y) ∙ ap (λ (z : ℤ). z +ℤ y) (sym (+ℤ_invl x)) ∙ +ℤ_assoc (neg_ℤ x) x y ∙ ap (λ (z : ℤ). neg_ℤ x +ℤ z) e ∙ +ℤ_idr (neg_ℤ x)

pub *ℤ-neg : (a b : ℤ) → a *ℤ neg_ℤ b ≡ neg_ℤ (a *ℤ b)
*ℤ-neg a b = *ℤ_comm a (neg_ℤ b) ∙ neg-*ℤ b a ∙ ap neg_ℤ (*ℤ_comm b a)

pub difference-*ℤ : (c a b : ℤ) → c *ℤ (a -ℤ b) ≡ c *ℤ a -ℤ c *ℤ b
difference-*ℤ c a b = sum-*ℤ c a (neg_ℤ b) ∙ ap (λ (x : ℤ). c *ℤ a +ℤ x) (*ℤ-neg c b)

-- The product of two sums, and of the two differences: the products of like terms, with or without those of unlike terms.
pub product-sums : (a b c d : ℤ) → (a +ℤ b) *ℤ (c +ℤ d) ≡ (a *ℤ c +ℤ b *ℤ d) +ℤ (a *ℤ d +ℤ b *ℤ c)
product-sums a b c d =
    *ℤ-sum a b (c +ℤ d) ∙ ap₂ ◌+ℤ◌ (sum-*ℤ a c d) (sum-*ℤ b c d ∙ +ℤ_comm (b *ℤ c) (b *ℤ d)) ∙ +ℤ-exchange (a *ℤ c) (a *ℤ d) (b *ℤ d) (b *ℤ c)

pub product-differences : (a b c d : ℤ) → (a -ℤ b) *ℤ (c -ℤ d) ≡ (a *ℤ c +ℤ b *ℤ d) -ℤ (a *ℤ d +ℤ b *ℤ c)
product-differences a b c d =
    product-sums a (neg_ℤ b) c (neg_ℤ d)
    ∙ ap₂ ◌+ℤ◌
    (ap (λ (x : ℤ). a *ℤ c +ℤ x) (neg-*ℤ b (neg_ℤ d) ∙ ap neg_ℤ (*ℤ-neg b d) ∙ neg_ℤ-neg_ℤ (b *ℤ d)))
    (ap₂ ◌+ℤ◌ (*ℤ-neg a d) (neg-*ℤ b c) ∙ sym (neg_ℤ-+ℤ (a *ℤ d) (b *ℤ c)))

-- ---- negation by a test

pub negated-twice : (a b : Bool) (z : ℤ) → negated_if a (negated_if b z) ≡ negated_if (a ⊻ b) z
negated-twice false b z = refl
negated-twice true false z = refl
negated-twice true true z = neg_ℤ-neg_ℤ z

pub negated-sum : (b : Bool) (x y : ℤ) → negated_if b (x +ℤ y) ≡ negated_if b x +ℤ negated_if b y
negated-sum true x y = neg_ℤ-+ℤ x y
negated-sum false x y = refl

pub negated-*ℤ : (b : Bool) (x y : ℤ) → negated_if b x *ℤ y ≡ negated_if b (x *ℤ y)
negated-*ℤ true x y = neg-*ℤ x y
negated-*ℤ false x y = refl

pub *ℤ-negated : (b : Bool) (x y : ℤ) → x *ℤ negated_if b y ≡ negated_if b (x *ℤ y)
*ℤ-negated true x y = *ℤ-neg x y
*ℤ-negated false x y = refl

-- Negating after a difference is taken, or before.
pub negated-difference : (b : Bool) (x y : ℤ) → negated_if b (x -ℤ y) ≡ negated_if b x +ℤ negated_if (true ⊻ b) y
negated-difference true x y = neg_ℤ-+ℤ x (neg_ℤ y) ∙ ap (λ (z : ℤ). neg_ℤ x +ℤ z) (neg_ℤ-neg_ℤ y)
negated-difference false x y = refl
