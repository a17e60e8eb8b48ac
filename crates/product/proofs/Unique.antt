-- A canonical product is known by its points: two canonical products of n variables with the same points are equal. Read next: Examples.
use mathlib.Core.Path.{◌≡◌, refl, sym, ap, ap₂, ◌∙◌, subst}
use mathlib.Core.Bool.{Bool, true, false, ◌&&◌}
use mathlib.Core.Logic.{inl, inr}
use mathlib.Core.List.{List, [], ◌∷◌}
use Prim.Native.Nat.{ℕ, zero, suc, ◌^◌, ◌≤◌, ◌<◌}
use native.Mathlib.Nat.{lt_of_not-le}
use native.Mathlib.Decide.{dec_le}
use native.Mathlib.Omega.{arith}
use lib.Bits.{xor_lt}
use lib.Dec.{eqb}
use lib.Pow.{pow_pos, pow-lt}
use Rattle.gf2.specs.Bits.{◌⊕◌, ◌⊻◌, bit}
use Rattle.gf2.specs.Finite.{Mem, In}
use Rattle.gf2.specs.Parity.{odd}
use Rattle.gf2.proofs.Logic.{and_l, clash}
use Rattle.gf2.proofs.Finite.{cons-all}
use Rattle.gf2.proofs.Xor.{bit-xor, bit-zero, bit-ext-below, xor-eq}
use Rattle.gf2.proofs.Odd.{odd-comm, odd_pow, odd-zero, odd-xor-mask}
use Rattle.product.specs.Lowest.{lowest}
use Rattle.product.specs.Product.{Factor, factor, factor_at, product_at, Fits, AllFit, Canonical}
use Rattle.product.proofs.LowestBit.{lowest_set, lowest-below}
use Rattle.product.proofs.Product.{factor-is, Separate, separate}
use Rattle.product.proofs.Points.{flip-below, first-turn, rest-keep, reach, some-point}

-- The mask m has the parity t at all points of the product.
abbrev Constant : ℕ → List Factor → ℕ → Bool → Type 0
Constant n fs m t = (w : ℕ) → In n (product_at fs) w → odd m w ≡ t

-- A mask that has none of the lowest bits and is constant on the product is 0.
no-mask : (n : ℕ) (fs : List Factor) → Separate fs → AllFit n fs → (m : ℕ) → m < 2 ^ n → ((f : Factor) → Mem f fs → bit (lowest f.mask) m ≡ false)
    → (t : Bool) → Constant n fs m t → m ≡ 0
unfolding product_at
no-mask n [] s a m h b t c = bit-ext-below n m 0 h (pow_pos n) (λ k l.
    sym (odd-comm m (2 ^ k) ∙ odd_pow k m) ∙ c (2 ^ k) (pow-lt l, refl) ∙ sym (c 0 (pow_pos n, refl)) ∙ odd-comm m 0 ∙ odd-zero m ∙ sym (bit-zero k))
no-mask n (f ∷ fs) s a m h b t c = no-mask n fs s.1 (λ g i. a g (inr i)) m h (λ g i. b g (inr i)) t
    (λ w i. let v = reach n f fs s a w i in sym (v.2 m (b f (inl refl))) ∙ c v.0 v.1)

-- The factors of a product are constant on it.
first-constant : (n : ℕ) (f : Factor) (fs : List Factor) → Constant n (f ∷ fs) f.mask (eqb f.constant 1)
unfolding product_at
first-constant n f fs w i = (factor-is f w).0 (and_l (factor_at f w) (product_at fs w) i.1)

-- So no mask that is constant on the product and not 0 has its lowest bit above all of theirs.
no-higher : (n : ℕ) (fs : List Factor) → Separate fs → AllFit n fs → (g : Factor) → Fits n g → ((f : Factor) → Mem f fs → lowest f.mask < lowest g.mask)
    → Constant n fs g.mask (eqb g.constant 1) → ⊥
no-higher n fs s a g h l c =
    let e = no-mask n fs s a g.mask h.below (λ f m. lowest-below g.mask h.some (lowest f.mask) (l f m)) (eqb g.constant 1) c in
    omega (arith, e, h.some)

-- ---- two canonical products with the same points

-- Two products of n variables have the same points.
abbrev Same : ℕ → List Factor → List Factor → Type 0
Same n gs hs = (w : ℕ) → w < 2 ^ n → product_at gs w ≡ product_at hs w

constant-same : (n : ℕ) (gs hs : List Factor) → Same n gs hs → (m : ℕ) (t : Bool) → Constant n gs m t → Constant n hs m t
constant-same n gs hs e m t c w i = c w (i.0, e w i.0 ∙ i.1)

same-sym : (n : ℕ) (gs hs : List Factor) → Same n gs hs → Same n hs gs
same-sym n gs hs e w l = sym (e w l)

-- The first mask of the one has not its lowest bit above that of the other.
first-le : (n : ℕ) (g h : Factor) (gs hs : List Factor) → Separate (h ∷ hs) → AllFit n (g ∷ gs) → AllFit n (h ∷ hs) → Same n (g ∷ gs) (h ∷ hs)
    → lowest g.mask ≤ lowest h.mask
first-le n g h gs hs s a b e = elim (dec_le (lowest g.mask) (lowest h.mask)) [
  | yes l ↦ l
  | no l ↦
      absurd (no-higher n (h ∷ hs) s b g (a g (inl refl))
      (cons-all (λ (f : Factor). lowest f.mask < lowest g.mask) h hs (lt_of_not-le l) (λ f m. omega (arith, lt_of_not-le l, (s.0 f m).falls)))
      (constant-same n (g ∷ gs) (h ∷ hs) e g.mask (eqb g.constant 1) (first-constant n g gs)))
]

digit-eq : (a b : ℕ) → a ≤ 1 → b ≤ 1 → eqb a 1 ≡ eqb b 1 → a ≡ b
digit-eq zero zero p q e = refl
digit-eq zero (suc zero) p q e = clash e refl
digit-eq (suc zero) zero p q e = clash refl e
digit-eq (suc zero) (suc zero) p q e = refl
digit-eq (suc (suc a)) b p q e = absurd (omega arith)
digit-eq zero (suc (suc b)) p q e = absurd (omega arith)
digit-eq (suc zero) (suc (suc b)) p q e = absurd (omega arith)

-- The first factors are equal: what differs in the masks has none of the lowest bits and is constant, so it is 0.
first-eq : (n : ℕ) (g h : Factor) (gs hs : List Factor) → Separate (g ∷ gs) → Separate (h ∷ hs) → AllFit n (g ∷ gs) → AllFit n (h ∷ hs)
    → Same n (g ∷ gs) (h ∷ hs) → g ≡ h
first-eq n g h gs hs s t a b e = ap₂ factor constants masks
  where
    fg : Fits n g
    fg = a g (inl refl)

    fh : Fits n h
    fh = b h (inl refl)

    l : lowest g.mask ≡ lowest h.mask
    l = omega (arith, first-le n g h gs hs t a b e, first-le n h g hs gs s b a (same-sym n (g ∷ gs) (h ∷ hs) e))

    other : Constant n (g ∷ gs) h.mask (eqb h.constant 1)
    other = constant-same n (h ∷ hs) (g ∷ gs) (same-sym n (g ∷ gs) (h ∷ hs) e) h.mask (eqb h.constant 1) (first-constant n h hs)

    none : (f : Factor) → Mem f (g ∷ gs) → bit (lowest f.mask) (g.mask ⊕ h.mask) ≡ false
    none = cons-all (λ (f : Factor). bit (lowest f.mask) (g.mask ⊕ h.mask) ≡ false) g gs
        (bit-xor (lowest g.mask) g.mask h.mask ∙ rw (lowest_set g.mask fg.some, l, lowest_set h.mask fh.some))
        (λ f m. bit-xor (lowest f.mask) g.mask h.mask ∙ ap₂ ◌⊻◌ (lowest-below g.mask fg.some (lowest f.mask) (s.0 f m).falls)
        (lowest-below h.mask fh.some (lowest f.mask) (omega (arith, l, (s.0 f m).falls))))

    masks : g.mask ≡ h.mask
    masks = xor-eq g.mask h.mask (no-mask n (g ∷ gs) s a (g.mask ⊕ h.mask) (xor_lt n g.mask h.mask fg.below fh.below) none
        (eqb g.constant 1 ⊻ eqb h.constant 1) (λ w i. odd-xor-mask g.mask h.mask w ∙ ap₂ ◌⊻◌ (first-constant n g gs w i) (other w i)))

    constants : g.constant ≡ h.constant
    constants =
        let w = some-point n (g ∷ gs) s a in
        digit-eq g.constant h.constant fg.binary fh.binary
        (sym (first-constant n g gs w.0 w.1) ∙ ap (λ (m : ℕ). odd m w.0) masks ∙ other w.0 w.1)

-- The products without the first factor have the same points too: where it is false, look at the flipped point.
rest-same : (n : ℕ) (f : Factor) (gs hs : List Factor) → Separate (f ∷ gs) → Separate (f ∷ hs) → AllFit n (f ∷ gs) → AllFit n (f ∷ hs)
    → Same n (f ∷ gs) (f ∷ hs) → Same n gs hs
unfolding product_at
rest-same n f gs hs s t a b e w l = go (factor_at f w) refl
  where
    v : ℕ
    v = w ⊕ 2 ^ lowest f.mask

    front : (u : ℕ) → factor_at f u ≡ true → factor_at f u && product_at gs u ≡ factor_at f u && product_at hs u → product_at gs u ≡ product_at hs u
    front u p q = rw p at q

    go : (z : Bool) → factor_at f w ≡ z → product_at gs w ≡ product_at hs w
    go true p = front w p (e w l)
    go false p =
        sym (rest-keep n f gs s a w)
        ∙ front v (first-turn n f gs s a w ∙ rw p) (e v (xor_lt n w (2 ^ lowest f.mask) l (flip-below n f gs s a)))
        ∙ rest-keep n f hs t b w

same-products : (n : ℕ) (gs hs : List Factor) → Separate gs → Separate hs → AllFit n gs → AllFit n hs → Same n gs hs → gs ≡ hs
same-products n [] [] s t a b e = refl
same-products n [] (h ∷ hs) s t a b e =
    absurd (no-higher n [] s a h (b h (inl refl)) (λ f m. absurd m)
    (constant-same n (h ∷ hs) [] (same-sym n [] (h ∷ hs) e) h.mask (eqb h.constant 1) (first-constant n h hs)))
same-products n (g ∷ gs) [] s t a b e =
    absurd (no-higher n [] t b g (a g (inl refl)) (λ f m. absurd m)
    (constant-same n (g ∷ gs) [] e g.mask (eqb g.constant 1) (first-constant n g gs)))
same-products n (g ∷ gs) (h ∷ hs) s t a b e =
    let q : g ≡ h = first-eq n g h gs hs s t a b e in
    ap₂ ◌∷◌ q (same-products n gs hs s.1 t.1 (λ f m. a f (inr m)) (λ f m. b f (inr m)) (rest-same n g gs hs s
    (subst (λ (f : Factor). Separate (f ∷ hs)) (sym q) t) a (subst (λ (f : Factor). AllFit n (f ∷ hs)) (sym q) b) (subst (λ (f : Factor). Same n (g ∷ gs) (f ∷ hs)) (sym q) e)))

pub canonical-unique : (n : ℕ) (gs hs : List Factor) → Canonical gs → Canonical hs → AllFit n gs → AllFit n hs
    → ((w : ℕ) → w < 2 ^ n → product_at gs w ≡ product_at hs w) → gs ≡ hs
canonical-unique n gs hs c d a b e = same-products n gs hs (separate gs c) (separate hs d) a b e
