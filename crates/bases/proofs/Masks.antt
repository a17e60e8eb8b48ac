-- The lead bits of a reduced basis as one number: what they say of its vectors and of the least points of its cosets. Read next: Table.
use mathlib.Core.Path.{◌≡◌, refl, sym, ap, ◌∙◌, subst}
use mathlib.Core.Bool.{Bool, true, false, ◌&&◌}
use mathlib.Core.Logic.{inl, inr, ◌↔◌}
use mathlib.Core.List.{List, [], ◌∷◌}
use Prim.Native.Nat.{ℕ, suc, ◌^◌, ◌<◌}
use native.Mathlib.Nat.{lt_of_not-le, le_of_suc-le-suc}
use native.Mathlib.Decide.{dec_le}
use native.Mathlib.Omega.{arith}
use lib.Dec.{eqb}
use lib.Pow.{pow_pos, pow_mono, pow-lt}
use lib.Bits.{bit_and, xor_lt}
use borrow.Author.Tests.{eqb-true, eq-eqb}
use Rattle.gf2.specs.Bits.{bit, lead, has_lead}
use Rattle.gf2.specs.Finite.{Mem}
use Rattle.gf2.specs.Basis.{Reduced, reduce, is_lead, lead_mask}
use Rattle.gf2.proofs.Logic.{clash, same, and-false}
use Rattle.gf2.proofs.Xor.{bit-and, bit-ext, bit-big, bit-zero}
use Rattle.gf2.proofs.Leads.{lead_is, lead_high, lead-fits}
use Rattle.gf2.proofs.Reduce.{reduced-pos, has_lead-reduce}
use Rattle.gf2.proofs.Variables.{is_lead-at, bit-lead_mask}
use Rattle.cubes.proofs.Counts.{reduce-fixed, mem-is_lead}

bit_mask : (bs : List ℕ) → Reduced bs → (c : ℕ) → Mem c bs → bit (lead c) (lead_mask bs) ≡ true
bit_mask bs r c m = bit-lead_mask bs r (lead c) ∙ mem-is_lead bs c m

-- p has none of the lead bits exactly if it is its own reduction, which is the least point of its coset.
pub mask-least : (bs : List ℕ) → Reduced bs → (p : ℕ) → eqb (bit_and p (lead_mask bs)) 0 ≡ eqb (reduce bs p) p
mask-least bs r p = same (eqb (bit_and p (lead_mask bs)) 0) (eqb (reduce bs p) p)
    (λ e. eq-eqb (reduce bs p) p (reduce-fixed bs p (λ c m. off c m (eqb-true (bit_and p (lead_mask bs)) 0 e))))
    (λ e. eq-eqb (bit_and p (lead_mask bs)) 0 (bit-ext (bit_and p (lead_mask bs)) 0 (λ k.
    bit-and k p (lead_mask bs) ∙ ap (λ (t : Bool). bit k p && t) (bit-lead_mask bs r k) ∙ none k (eqb-true (reduce bs p) p e) (is_lead bs k) refl ∙ sym (bit-zero k))))
  where
    left : (a b : Bool) → b ≡ true → a && b ≡ false → a ≡ false
    left true b e h = sym e ∙ h
    left false b e h = refl

    off : (c : ℕ) → Mem c bs → bit_and p (lead_mask bs) ≡ 0 → has_lead c p ≡ false
    off c m e = left (bit (lead c) p) (bit (lead c) (lead_mask bs)) (bit_mask bs r c m) (sym (bit-and (lead c) p (lead_mask bs)) ∙ ap (bit (lead c)) e ∙ bit-zero (lead c))

    none : (k : ℕ) → reduce bs p ≡ p → (t : Bool) → is_lead bs k ≡ t → bit k p && t ≡ false
    none k e false q = and-false (bit k p)
    none k e true q =
        let c = is_lead-at bs k q in
        ap (λ (s : Bool). s && true) (subst (λ (z : ℕ). bit z p ≡ false) c.2 (subst (λ (z : ℕ). has_lead c.0 z ≡ false) e (has_lead-reduce bs r p c.0 c.1)))

-- The lead bits lie below 2 ^ n exactly if the vectors do.
pub mask_below : (n : ℕ) (bs : List ℕ) → Reduced bs → (lead_mask bs < 2 ^ n) ↔ ((c : ℕ) → Mem c bs → c < 2 ^ n)
unfolding lead_mask
mask_below n bs r = (there, back bs r)
  where
    there : lead_mask bs < 2 ^ n → (c : ℕ) → Mem c bs → c < 2 ^ n
    there h c m = elim (dec_le (suc (lead c)) n) [
      | yes l ↦ omega (arith, lead_high (lead c) c (lead_is c (reduced-pos bs r c m)), pow_mono l)
      | no l ↦ let u = pow_mono (le_of_suc-le-suc (lt_of_not-le l)) in clash (bit_mask bs r c m) (bit-big (lead c) (lead_mask bs) (omega arith))
    ]

    back : (bs : List ℕ) → Reduced bs → ((c : ℕ) → Mem c bs → c < 2 ^ n) → lead_mask bs < 2 ^ n
    back [] r h = pow_pos n
    back (b ∷ bs) r h =
        xor_lt n (2 ^ lead b) (lead_mask bs) (pow-lt (lead-fits n b r.0 (h b (inl refl)))) (back bs r.2 (λ c m. h c (inr m)))
