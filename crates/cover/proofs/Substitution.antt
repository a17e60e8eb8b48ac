-- Laws of specs.Substitution: with the equations put in, a product is true at a point exactly if it was at the values of the y's there; and a
-- canonical product stays one (document 01, "The written form"). Read next: Primes.
use mathlib.Core.Path.{◌≡◌, refl, sym, ap, ap₂, ◌∙◌, subst}
use mathlib.Core.Bool.{Bool, true, false, not, cond, ◌&&◌, beq}
use mathlib.Core.Logic.{inl, inr, ◌≢◌}
use mathlib.Core.List.{List, [], ◌∷◌, map}
use Prim.Native.Nat.{ℕ, suc, ◌+◌, ◌^◌, ◌≤◌, ◌<◌}
use native.Mathlib.Nat.{lt-suc_self, one-mul, le_of_eq, lt_of_not-le}
use native.Mathlib.Decide.{ℕ_discrete, dec_le}
use native.Mathlib.Omega.{arith}
use lib.Dec.{eqb}
use lib.ListN.{length, length-map}
use lib.Pow.{pow_pos}
use lib.Bits.{bit_xor, xor_lt, xor_shifted}
use borrow.Author.Tests.{eq-eqb, ne_eqb}
use Rattle.gf2.specs.Bits.{◌⊕◌, ◌⊻◌, bit}
use Rattle.gf2.specs.Finite.{Mem, Ordered}
use Rattle.gf2.specs.Parity.{odd}
use Rattle.gf2.specs.Basis.{Reduced, is_lead, noncanonical_places}
use Rattle.gf2.proofs.Logic.{clash, cond_cases, and-false, and-true, ⊻-false}
use Rattle.gf2.proofs.Finite.{map-mem, ordered-map}
use Rattle.gf2.proofs.Xor.{bit-xor, bit-zero}
use Rattle.gf2.proofs.Odd.{odd-xor, odd-xor-mask, odd-comm, odd-zero, odd_pow}
use Rattle.gf2.proofs.Reduce.{reduced-pos}
use Rattle.gf2.proofs.Variables.{places-falling, noncanonical-mem}
use Rattle.space.specs.Restriction.{equation, equations, number, values}
use Rattle.space.proofs.Restriction.{number_step, number-below, equations-mem}
use Rattle.product.specs.Lowest.{Lowest, lowest}
use Rattle.product.specs.Product.{Factor, factor_at, product_at, AllFit, LowestApart, Canonical}
use Rattle.product.proofs.LowestBit.{lowest-is, lowest-eq, lowest-pos, lowest-fits}
use Rattle.product.proofs.Product.{separate, canonical-separate, canonical-is}
use Rattle.cover.specs.Substitution.{substitute_mask, substitute_factor, substitute_product}
use Rattle.cover.proofs.Equation.{equation-noncanonical, equation-under}

-- ---- a mask reads at w what it read at the values of the y's

top-sum : (t : Bool) (k x : ℕ) → x < 2 ^ k → cond t (2 ^ k) 0 + x ≡ cond t (2 ^ k) 0 ⊕ x
top-sum true k x h = sym (subst (λ (p : ℕ). bit_xor p x ≡ p + x) (one-mul (2 ^ k)) (xor_shifted 1 k x h))
top-sum false k x h = omega arith

-- The number with the given bits as an XOR.
pub number-sum : {A : Type 0} (f : A → Bool) (a : A) (l : List A) → number (map f (a ∷ l)) ≡ cond (f a) (2 ^ length l) 0 ⊕ number (map f l)
number-sum f a l = number_step f a l ∙ top-sum (f a) (length l) (number (map f l)) (number-below f l)

odd-cond : (m : ℕ) (t : Bool) (k : ℕ) → odd m (cond t (2 ^ k) 0) ≡ bit k m && t
odd-cond m true k = odd-comm m (2 ^ k) ∙ odd_pow k m ∙ sym (and-true (bit k m))
odd-cond m false k = odd-comm m 0 ∙ odd-zero m ∙ sym (and-false (bit k m))

odd-pick : (t : Bool) (e w : ℕ) → odd (cond t e 0) w ≡ t && odd e w
odd-pick true e w = refl
odd-pick false e w = odd-zero w

pub substitute-odd : (es : List ℕ) (m w : ℕ) → odd (substitute_mask es m) w ≡ odd m (values es w)
unfolding substitute_mask values number
substitute-odd [] m w = odd-zero w ∙ sym (odd-comm m 0 ∙ odd-zero m)
substitute-odd (e ∷ es) m w =
    odd-xor-mask (cond (bit (length es) m) e 0) (substitute_mask es m) w
    ∙ ap₂ ◌⊻◌ (odd-pick (bit (length es) m) e w ∙ sym (odd-cond m (odd e w) (length es))) (substitute-odd es m w)
    ∙ sym (ap (odd m) (number-sum (λ m. odd m w) e es) ∙ odd-xor m (cond (odd e w) (2 ^ length es) 0) (number (map (λ m. odd m w) es)))

pub substitute-factor : (es : List ℕ) (f : Factor) (w : ℕ) → factor_at (substitute_factor es f) w ≡ factor_at f (values es w)
unfolding factor_at substitute_factor
substitute-factor es f w = ap (λ t. beq t (eqb f.constant 1)) (substitute-odd es f.mask w)

pub substitute-product : (es : List ℕ) (fs : List Factor) (w : ℕ) → product_at (substitute_product es fs) w ≡ product_at fs (values es w)
unfolding product_at substitute_product
substitute-product es [] w = refl
substitute-product es (f ∷ fs) w = ap₂ ◌&&◌ (substitute-factor es f w) (substitute-product es fs w)

-- ---- the bits of the XOR

-- The place in the list that stands for the y of bit i, the last of the list for bit 0.
unfoldable pub slot : List ℕ → ℕ → ℕ
slot [] i = 0
slot (j ∷ js) i = cond (eqb i (length js)) j (slot js i)

slot-head : (j : ℕ) (js : List ℕ) → slot (j ∷ js) (length js) ≡ j
unfolding slot
slot-head j js = rw (eq-eqb (length js) (length js) refl)

slot-tail : (j : ℕ) (js : List ℕ) (i : ℕ) → i < length js → slot (j ∷ js) i ≡ slot js i
unfolding slot
slot-tail j js i h = rw (ne_eqb i (length js) (λ q. omega arith))

-- Bit i is that of the head, or of a later place.
pub slot_cases : (P : ℕ → ℕ → Type 0) (j : ℕ) (js : List ℕ) → P (length js) j → ((i : ℕ) → i < length js → P i (slot js i)) → (i : ℕ) → i < suc (length js) → P i (slot (j ∷ js) i)
slot_cases P j js a f i h = go (ℕ_discrete i (length js))
  where
    go : Dec (i ≡ length js) → P i (slot (j ∷ js) i)
    go (yes q) = rw (q, slot-head j js) a
    go (no q) = let l : i < length js = omega arith in rw (slot-tail j js i l) (f i l)

pub slot-mem : (js : List ℕ) (i : ℕ) → i < length js → Mem (slot js i) js
slot-mem [] i h = absurd (omega arith)
slot-mem (j ∷ js) i h = slot_cases (λ i k. Mem k (j ∷ js)) j js (inl refl) (λ i l. inr (slot-mem js i l)) i h

abbrev pub Falling : List ℕ → Type 0
Falling js = Ordered (λ (a b : ℕ). b < a) js

slot_lt : (js : List ℕ) → Falling js → (i k : ℕ) → i < k → k < length js → slot js i < slot js k
slot_lt [] f i k h l = absurd (omega arith)
slot_lt (j ∷ js) f i k h l = slot_cases (λ k s. i < k → slot (j ∷ js) i < s) j js
    (λ h. rw (slot-tail j js i h) (f.0 (slot js i) (slot-mem js i h)))
    (λ k l h. rw (slot-tail j js i (omega arith)) (slot_lt js f.1 i k h l)) k l h

module _ (bs : List ℕ) where
  -- A noncanonical place that is none of js.
  pub substitute-other : (js : List ℕ) (m k : ℕ) → is_lead bs k ≡ false → ((j : ℕ) → Mem j js → j ≢ k) → bit k (substitute_mask (map (equation bs) js) m) ≡ false
  unfolding substitute_mask
  substitute-other [] m k c h = bit-zero k
  substitute-other (j ∷ js) m k c h =
      bit-xor k (cond (bit (length (map (equation bs) js)) m) (equation bs j) 0) (substitute_mask (map (equation bs) js) m)
      ∙ ap₂ ◌⊻◌ (go (bit (length (map (equation bs) js)) m)) (substitute-other js m k c (λ i n. h i (inr n)))
    where
      go : (t : Bool) → bit k (cond t (equation bs j) 0) ≡ false
      go true = equation-noncanonical bs j k c ∙ ne_eqb j k (h j (inl refl))
      go false = bit-zero k

  -- The place of a y is set where the mask has the y.
  pub substitute-slot : (js : List ℕ) → Falling js → ((j : ℕ) → Mem j js → is_lead bs j ≡ false) → (m i : ℕ) → i < length js
      → bit (slot js i) (substitute_mask (map (equation bs) js) m) ≡ bit i m
  unfolding substitute_mask
  substitute-slot [] f c m i h = absurd (omega arith)
  substitute-slot (j ∷ js) f c m i h = slot_cases (λ i s. bit s (substitute_mask (equation bs j ∷ map (equation bs) js) m) ≡ bit i m) j js
      (bit-xor j (cond (bit (length (map (equation bs) js)) m) (equation bs j) 0) (substitute_mask (map (equation bs) js) m)
      ∙ rw (length-map js (equation bs), own (bit (length js) m), substitute-other js m j (c j (inl refl)) (λ k n q. omega (arith, f.0 k n))) (⊻-false (bit (length js) m)))
      (λ i l. bit-xor (slot js i) (cond (bit (length (map (equation bs) js)) m) (equation bs j) 0) (substitute_mask (map (equation bs) js) m)
      ∙ rw (off i l (bit (length (map (equation bs) js)) m)) (substitute-slot js f.1 (λ k n. c k (inr n)) m i l)) i h
    where
      own : (t : Bool) → bit j (cond t (equation bs j) 0) ≡ t
      own true = equation-noncanonical bs j j (c j (inl refl)) ∙ eq-eqb j j refl
      own false = bit-zero j

      off : (i : ℕ) → i < length js → (t : Bool) → bit (slot js i) (cond t (equation bs j) 0) ≡ false
      off i l true = equation-noncanonical bs j (slot js i) (c (slot js i) (inr (slot-mem js i l))) ∙ ne_eqb j (slot js i) (λ q. omega (arith, f.0 (slot js i) (slot-mem js i l)))
      off i l false = bit-zero (slot js i)

  -- No place below that of the mask's lowest y is set.
  substitute-under : (js : List ℕ) → ((c : ℕ) → Mem c bs → 0 < c) → (m k : ℕ) → ((i : ℕ) → i < length js → bit i m ≡ true → k < slot js i)
      → bit k (substitute_mask (map (equation bs) js) m) ≡ false
  unfolding substitute_mask
  substitute-under [] p m k h = bit-zero k
  substitute-under (j ∷ js) p m k h =
      bit-xor k (cond (bit (length (map (equation bs) js)) m) (equation bs j) 0) (substitute_mask (map (equation bs) js) m)
      ∙ rw (length-map js (equation bs)) (ap₂ ◌⊻◌ (go (bit (length js) m) refl) (substitute-under js p m k (λ i l e. rw (slot-tail j js i l) at (h i (omega arith) e))))
    where
      go : (t : Bool) → bit (length js) m ≡ t → bit k (cond t (equation bs j) 0) ≡ false
      go true e = equation-under bs p j k (rw (slot-head j js) at (h (length js) (lt-suc_self (length js)) e))
      go false e = bit-zero k

-- ---- a canonical product stays one

pub substitute-below : (n : ℕ) (es : List ℕ) → ((e : ℕ) → Mem e es → e < 2 ^ n) → (m : ℕ) → substitute_mask es m < 2 ^ n
unfolding substitute_mask
substitute-below n [] h m = pow_pos n
substitute-below n (e ∷ es) h m = xor_lt n (cond (bit (length es) m) e 0) (substitute_mask es m)
    (cond_cases (λ (z : ℕ). z < 2 ^ n) (bit (length es) m) e 0 (λ t. h e (inl refl)) (λ t. pow_pos n)) (substitute-below n es (λ d k. h d (inr k)) m)

module _ (n : ℕ) (bs : List ℕ) (r : Reduced bs) where
  pub falling : Falling (noncanonical_places n bs)
  falling = places-falling (λ k. not (is_lead bs k)) n

  slot-le : (i k : ℕ) → i ≤ k → k < length (noncanonical_places n bs) → slot (noncanonical_places n bs) i ≤ slot (noncanonical_places n bs) k
  slot-le i k h l = go (ℕ_discrete i k)
    where
      go : Dec (i ≡ k) → slot (noncanonical_places n bs) i ≤ slot (noncanonical_places n bs) k
      go (yes q) = le_of_eq (ap (slot (noncanonical_places n bs)) q)
      go (no q) = omega (arith, slot_lt (noncanonical_places n bs) falling i k (omega arith) l)

  -- Of the noncanonical variables the new mask has the images of those that the old one has.
  substitute-bit : (m i : ℕ) → i < length (noncanonical_places n bs) → bit (slot (noncanonical_places n bs) i) (substitute_mask (equations n bs) m) ≡ bit i m
  unfolding equations
  substitute-bit m i h = substitute-slot bs (noncanonical_places n bs) falling (λ j k. (noncanonical-mem n bs j k).1) m i h

  -- Its lowest bit is the image of the old lowest bit.
  substitute-lowest : (m i : ℕ) → i < length (noncanonical_places n bs) → Lowest i m → Lowest (slot (noncanonical_places n bs) i) (substitute_mask (equations n bs) m)
  unfolding equations
  substitute-lowest m i h l = record {
    set = substitute-bit m i h ∙ l.set;
    below = λ k q. substitute-under bs (noncanonical_places n bs) (reduced-pos bs r) m k (λ p lp e. elim (dec_le i p) [
      | yes z ↦ omega (arith, slot-le i p z lp)
      | no z ↦ clash e (l.below p (lt_of_not-le z))
    ]);
  }

  -- Of a factor in the y's: where its lowest bit goes, and that the new mask is not 0.
  substitute-image : (m : ℕ) → 0 < m → m < 2 ^ length (noncanonical_places n bs)
      → (lowest m < length (noncanonical_places n bs)) × (lowest (substitute_mask (equations n bs) m) ≡ slot (noncanonical_places n bs) (lowest m)) × (0 < substitute_mask (equations n bs) m)
  substitute-image m p h =
      let l = lowest-fits (length (noncanonical_places n bs)) m p h in
      let q = substitute-lowest m (lowest m) l (lowest-is m p) in (
        l,
        lowest-eq (slot (noncanonical_places n bs) (lowest m)) (substitute_mask (equations n bs) m) q,
        lowest-pos (slot (noncanonical_places n bs) (lowest m)) (substitute_mask (equations n bs) m) q,
      )

  pub substitute-canonical : (fs : List Factor) → AllFit (length (noncanonical_places n bs)) fs → Canonical fs → Canonical (substitute_product (equations n bs) fs)
  unfolding substitute_product substitute_factor
  substitute-canonical fs a c = (canonical-is (substitute_product (equations n bs) fs)).0 ((canonical-separate (substitute_product (equations n bs) fs)).1
      (ordered-map (λ (f g : Factor). LowestApart f.mask g.mask) (λ (f g : Factor). LowestApart f.mask g.mask) (substitute_factor (equations n bs)) fs apart (separate fs c)))
    where
      apart : (f g : Factor) → Mem f fs → Mem g fs → LowestApart f.mask g.mask → LowestApart (substitute_mask (equations n bs) f.mask) (substitute_mask (equations n bs) g.mask)
      apart f g mf mg h =
          let u = substitute-image f.mask (a f mf).some (a f mf).below in
          let v = substitute-image g.mask (a g mg).some (a g mg).below in
          record {
            falls = rw (u.1, v.1) (slot_lt (noncanonical_places n bs) falling (lowest g.mask) (lowest f.mask) h.falls u.0);
            later = rw u.1 (substitute-bit g.mask (lowest f.mask) u.0 ∙ h.later);
            earlier = rw v.1 (substitute-bit f.mask (lowest g.mask) v.0 ∙ h.earlier);
          }

  pub substitute-fits : ((c : ℕ) → Mem c bs → c < 2 ^ n) → (fs : List Factor) → AllFit (length (noncanonical_places n bs)) fs → AllFit n (substitute_product (equations n bs) fs)
  unfolding substitute_product substitute_factor
  substitute-fits h fs a g i =
      let k = map-mem (substitute_factor (equations n bs)) fs g i in
      rw k.2 (record {
        binary = (a k.0 k.1).binary;
        some = (substitute-image k.0.mask (a k.0 k.1).some (a k.0 k.1).below).2;
        below = substitute-below n (equations n bs) (λ e m. (equations-mem n bs r h e m).1) k.0.mask;
      })
