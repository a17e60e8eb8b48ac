-- Laws of masks moved by a vector: one bit of it exchanges blocks of places, and its bits one after the other are the whole vector. Read next: crates `point_sets` and `masks`.
use mathlib.Core.Path.{◌≡◌, refl, sym, ap, ap₂, ◌∙◌, subst}
use mathlib.Core.Bool.{Bool, true, false, not, cond, ◌&&◌, ◌||◌, or-false}
use mathlib.Core.Logic.{inl, inr}
use mathlib.Core.List.{List, [], ◌∷◌}
use Prim.Native.Nat.{ℕ, zero, suc, ◌+◌, ◌-◌, ◌*◌, ◌/◌, ◌%◌, ◌^◌, ◌≤◌, ◌<◌}
use native.Mathlib.Nat.{lt_of_not-le, lt_of_le_of_lt, mod-lt, mod-eq_of_lt, add_comm, one-mul, zero-mul}
use native.Mathlib.Decide.{dec_le}
use native.Mathlib.Omega.{arith}
use lib.Dec.{ltb, leb, eqb}
use lib.Pow.{pow_mono, pow-lt, pow_pos, shr_le, mod-pow-add}
use lib.Bits.{bit_and, bit_or, and_le_l, or_lt, xor_shifted, xor_zero_r}
use lib.ListN.{length, get_or, get_or-eq_default}
use borrow.Author.Tests.{ltb-true, leb-true, eqb-true, not-true}
use Rattle.gf2.specs.Bits.{◌⊕◌, bit}
use Rattle.gf2.specs.Finite.{all}
use Rattle.gf2.proofs.Logic.{and_l, and_r, and-false, and-true, or_cases}
use Rattle.gf2.proofs.Finite.{all-at}
use Rattle.gf2.proofs.Xor.{bit-and, bit-big, bit-zero, xor_assoc, xor_above}
use Rattle.moves.specs.Moves.{mask_size, low_places, Moved, EachMoved}
use Rattle.moves.proofs.Bits.{bit-or, bit-down, bit_up, bit-under, bit_cut}

-- ---- one bit

-- What the low places are, and where x XOR 2 ^ k is, for a place x with bit k set, and with it clear.
high_place : ℕ → ℕ → Bool
high_place k x = (leb (2 ^ k) x && eqb (x ⊕ 2 ^ k) (x - 2 ^ k)) && (not (bit x (low_places k)) && bit (x - 2 ^ k) (low_places k))

low_place : ℕ → ℕ → Bool
low_place k x = eqb (x ⊕ 2 ^ k) (2 ^ k + x) && (bit x (low_places k) && (ltb x (2 ^ k) || not (bit (x - 2 ^ k) (low_places k))))

all-places : all (λ k. all (λ x. cond (bit k x) (high_place k x) (low_place k x)) mask_size) 6 ≡ true
unfolding all bit high_place low_place
all-places = refl

record High (k x : ℕ) : Type 0 where
  above : 2 ^ k ≤ x
  to : x ⊕ 2 ^ k ≡ x - 2 ^ k
  out : bit x (low_places k) ≡ false
  low : bit (x - 2 ^ k) (low_places k) ≡ true

record Low (k x : ℕ) : Type 0 where
  to : x ⊕ 2 ^ k ≡ 2 ^ k + x
  low : bit x (low_places k) ≡ true
  out : 2 ^ k ≤ x → bit (x - 2 ^ k) (low_places k) ≡ false

high-place : (k x : ℕ) → high_place k x ≡ true → High k x
unfolding high_place
high-place k x e =
    let a = and_l (leb (2 ^ k) x && eqb (x ⊕ 2 ^ k) (x - 2 ^ k)) (not (bit x (low_places k)) && bit (x - 2 ^ k) (low_places k)) e in
    let b = and_r (leb (2 ^ k) x && eqb (x ⊕ 2 ^ k) (x - 2 ^ k)) (not (bit x (low_places k)) && bit (x - 2 ^ k) (low_places k)) e in
    record {
      above = leb-true (2 ^ k) x (and_l (leb (2 ^ k) x) (eqb (x ⊕ 2 ^ k) (x - 2 ^ k)) a);
      to = eqb-true (x ⊕ 2 ^ k) (x - 2 ^ k) (and_r (leb (2 ^ k) x) (eqb (x ⊕ 2 ^ k) (x - 2 ^ k)) a);
      out = not-true (bit x (low_places k)) (and_l (not (bit x (low_places k))) (bit (x - 2 ^ k) (low_places k)) b);
      low = and_r (not (bit x (low_places k))) (bit (x - 2 ^ k) (low_places k)) b;
    }

low-place : (k x : ℕ) → low_place k x ≡ true → Low k x
unfolding low_place
low-place k x e =
    let b = and_r (eqb (x ⊕ 2 ^ k) (2 ^ k + x)) (bit x (low_places k) && (ltb x (2 ^ k) || not (bit (x - 2 ^ k) (low_places k)))) e in
    let d = and_r (bit x (low_places k)) (ltb x (2 ^ k) || not (bit (x - 2 ^ k) (low_places k))) b in
    record {
      to = eqb-true (x ⊕ 2 ^ k) (2 ^ k + x) (and_l (eqb (x ⊕ 2 ^ k) (2 ^ k + x)) (bit x (low_places k) && (ltb x (2 ^ k) || not (bit (x - 2 ^ k) (low_places k)))) e);
      low = and_l (bit x (low_places k)) (ltb x (2 ^ k) || not (bit (x - 2 ^ k) (low_places k))) b;
      out = λ h. elim (or_cases (ltb x (2 ^ k)) (not (bit (x - 2 ^ k) (low_places k))) d) [
        | inl t ↦ absurd (omega (arith, ltb-true x (2 ^ k) t))
        | inr t ↦ not-true (bit (x - 2 ^ k) (low_places k)) t
      ];
    }

-- A mask of 64 places has no bit at place 64 or above.
pub bit-none : (x m : ℕ) → mask_size ≤ x → m < 2 ^ mask_size → bit x m ≡ false
bit-none x m h l = bit-big x m (omega (arith, pow_mono h))

-- The mask with blocks of 2 ^ k places exchanged.
abbrev pub exchanged : ℕ → ℕ → ℕ
exchanged k m = bit_or (bit_and (m / 2 ^ 2 ^ k) (low_places k)) (bit_and m (low_places k) * 2 ^ 2 ^ k % 2 ^ mask_size)

pub exchange-moved : (k m : ℕ) → k < 6 → m < 2 ^ mask_size → Moved (2 ^ k) m (exchanged k m)
exchange-moved k m h l x = elim (dec_le mask_size x) [
  | yes f ↦ bit-none x (exchanged k m) f fits ∙ sym (bit-none (x ⊕ 2 ^ k) m (xor_above 6 x (2 ^ k) f (pow-lt h)) l)
  | no f ↦ bit-or x (bit_and (m / 2 ^ 2 ^ k) (low_places k)) (bit_and m (low_places k) * 2 ^ 2 ^ k % 2 ^ mask_size)
      ∙ ap₂ ◌||◌ (bit-and x (m / 2 ^ 2 ^ k) (low_places k) ∙ ap (λ (t : Bool). t && bit x (low_places k)) (bit-down x (2 ^ k) m))
      (bit_cut x mask_size (bit_and m (low_places k) * 2 ^ 2 ^ k) (lt_of_not-le f))
      ∙ near (bit k x) refl (all-at (λ x. cond (bit k x) (high_place k x) (low_place k x)) mask_size
      (all-at (λ k. all (λ x. cond (bit k x) (high_place k x) (low_place k x)) mask_size) 6 all-places k h) x (lt_of_not-le f))
]
  where
    fits : exchanged k m < 2 ^ mask_size
    fits = or_lt mask_size (bit_and (m / 2 ^ 2 ^ k) (low_places k)) (bit_and m (low_places k) * 2 ^ 2 ^ k % 2 ^ mask_size)
        (lt_of_le_of_lt (and_le_l (m / 2 ^ 2 ^ k) (low_places k)) (lt_of_le_of_lt (shr_le m (2 ^ k)) l))
        (mod-lt (bit_and m (low_places k) * 2 ^ 2 ^ k) (pow_pos mask_size))

    second : (j : ℕ) → 2 ^ k + j ≡ x → bit x (bit_and m (low_places k) * 2 ^ 2 ^ k) ≡ bit j m && bit j (low_places k)
    second j q = ap (λ (z : ℕ). bit z (bit_and m (low_places k) * 2 ^ 2 ^ k)) (sym q) ∙ bit_up j (2 ^ k) (bit_and m (low_places k)) ∙ bit-and j m (low_places k)

    none : Low k x → Dec (2 ^ k ≤ x) → bit x (bit_and m (low_places k) * 2 ^ 2 ^ k) ≡ false
    none w (yes g) = second (x - 2 ^ k) (omega arith) ∙ ap (λ (t : Bool). bit (x - 2 ^ k) m && t) (w.out g) ∙ and-false (bit (x - 2 ^ k) m)
    none w (no g) = bit-under x (2 ^ k) (bit_and m (low_places k)) (lt_of_not-le g)

    near : (b : Bool) → bit k x ≡ b → cond b (high_place k x) (low_place k x) ≡ true
        → (bit (2 ^ k + x) m && bit x (low_places k)) || bit x (bit_and m (low_places k) * 2 ^ 2 ^ k) ≡ bit (x ⊕ 2 ^ k) m
    near true q t =
        let w = high-place k x t in
        ap₂ ◌||◌ (ap (λ (t : Bool). bit (2 ^ k + x) m && t) w.out ∙ and-false (bit (2 ^ k + x) m))
        (second (x - 2 ^ k) (omega (arith, w.above)) ∙ ap (λ (t : Bool). bit (x - 2 ^ k) m && t) w.low ∙ and-true (bit (x - 2 ^ k) m))
        ∙ ap (λ (z : ℕ). bit z m) (sym w.to)
    near false q t =
        let w = low-place k x t in
        ap₂ ◌||◌ (ap (λ (t : Bool). bit (2 ^ k + x) m && t) w.low ∙ and-true (bit (2 ^ k + x) m)) (none w (dec_le (2 ^ k) x))
        ∙ or-false (bit (2 ^ k + x) m) ∙ ap (λ (z : ℕ). bit z m) (sym w.to)

-- ---- the bits of a vector one after the other

moved_none : (m : ℕ) → Moved 0 m m
moved_none m x = ap (λ (z : ℕ). bit z m) (sym (xor_zero_r x))

-- A bit of v that is set moves by its place, one that is clear moves nothing.
pub moved-one : (v k m r : ℕ) → v / 2 ^ k % 2 ≡ 1 → Moved (2 ^ k) m r → Moved (v / 2 ^ k % 2 * 2 ^ k) m r
moved-one v k m r e = subst (λ (z : ℕ). Moved z m r) (sym (ap (λ (z : ℕ). z * 2 ^ k) e ∙ one-mul (2 ^ k)))

pub moved-clear : (v k m : ℕ) → v / 2 ^ k % 2 ≡ 0 → Moved (v / 2 ^ k % 2 * 2 ^ k) m m
moved-clear v k m e = subst (λ (z : ℕ). Moved z m m) (sym (ap (λ (z : ℕ). z * 2 ^ k) e ∙ zero-mul (2 ^ k))) (moved_none m)

-- By no bit at all.
pub moved-start : (v m : ℕ) → Moved (v % 2 ^ 0) m m
moved-start v m = let e : 0 ≡ v % 1 = omega arith in subst (λ (z : ℕ). Moved z m m) e (moved_none m)

-- The bit of v at place k moves on what was moved by the bits below it.
pub moved_on : (v k m t r : ℕ) → Moved (v % 2 ^ k) m t → Moved (v / 2 ^ k % 2 * 2 ^ k) t r → Moved (v % 2 ^ (k + 1)) m r
moved_on v k m t r a b x =
    b x ∙ a (x ⊕ v / 2 ^ k % 2 * 2 ^ k) ∙ ap (λ (z : ℕ). bit z m) (xor_assoc x (v / 2 ^ k % 2 * 2 ^ k) (v % 2 ^ k) ∙ ap (λ (z : ℕ). x ⊕ z) whole)
  where
    whole : v / 2 ^ k % 2 * 2 ^ k ⊕ v % 2 ^ k ≡ v % 2 ^ (k + 1)
    whole =
        xor_shifted (v / 2 ^ k % 2) k (v % 2 ^ k) (mod-lt v (pow_pos k)) ∙ sym (mod-pow-add v 1 k) ∙ ap (λ (z : ℕ). v % 2 ^ z) (add_comm 1 k)

-- By all six.
pub moved-end : (v k m r : ℕ) → v < mask_size → k ≡ 6 → Moved (v % 2 ^ k) m r → Moved v m r
moved-end v k m r h e = subst (λ (z : ℕ). Moved z m r) (ap (λ (z : ℕ). v % 2 ^ z) e ∙ mod-eq_of_lt h)

-- ---- several masks

-- Past four words there is none.
pub word-above : (s : List ℕ) (i : ℕ) → length s ≡ 4 → 4 ≤ i → get_or s i 0 ≡ 0
word-above s i l h = get_or-eq_default s 0 {n = i} (omega arith)

-- What holds of each of the four words, and past them of 0, holds at every place.
pub word-cases : (P : ℕ → ℕ → Type 0) (a b c d : ℕ) → P 0 a → P 1 b → P 2 c → P 3 d → ((i : ℕ) → 4 ≤ i → P i 0) → (i : ℕ) → P i (get_or (a ∷ b ∷ c ∷ d ∷ []) i 0)
word-cases P a b c d p q r s h zero = p
word-cases P a b c d p q r s h (suc zero) = q
word-cases P a b c d p q r s h (suc (suc zero)) = r
word-cases P a b c d p q r s h (suc (suc (suc zero))) = s
word-cases P a b c d p q r s h (suc (suc (suc (suc i)))) = h (suc (suc (suc (suc i)))) (omega arith)

-- The masks before place n are moved, those from n on stand as they were, and there are at most n.
pub each_of : (v n : ℕ) (s r : List ℕ) → ((i : ℕ) → i < n → Moved v (get_or s i 0) (get_or r i 0)) → ((i : ℕ) → n ≤ i → get_or r i 0 ≡ get_or s i 0)
    → length s ≤ n → EachMoved v s r
each_of v n s r p q l i = elim (dec_le n i) [
  | yes h ↦ rw (q i h, get_or-eq_default s 0 {n = i} (omega arith)) (λ x. bit-zero x ∙ sym (bit-zero (x ⊕ v)))
  | no h ↦ p i (lt_of_not-le h)
]

-- One turn for all masks: the bit of v at place k, which is set, or clear.
pub each-on : (v k : ℕ) (s t r : List ℕ) → v / 2 ^ k % 2 ≡ 1 → EachMoved (v % 2 ^ k) s t → EachMoved (2 ^ k) t r → EachMoved (v % 2 ^ (k + 1)) s r
each-on v k s t r e a b i =
    moved_on v k (get_or s i 0) (get_or t i 0) (get_or r i 0) (a i) (moved-one v k (get_or t i 0) (get_or r i 0) e (b i))

pub each-off : (v k : ℕ) (s t : List ℕ) → v / 2 ^ k % 2 ≡ 0 → EachMoved (v % 2 ^ k) s t → EachMoved (v % 2 ^ (k + 1)) s t
each-off v k s t e a i =
    moved_on v k (get_or s i 0) (get_or t i 0) (get_or t i 0) (a i) (moved-clear v k (get_or t i 0) e)
