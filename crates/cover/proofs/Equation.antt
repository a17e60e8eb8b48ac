-- The mask of a reduction equation bit by bit: of the noncanonical variables it has its own alone, and its own is its lowest bit.
-- Read next: CanonicalProduct.
use mathlib.Core.Path.{◌≡◌, refl, ap, ◌∙◌}
use mathlib.Core.Bool.{Bool, true, false, cond, ◌&&◌}
use mathlib.Core.Logic.{inl, inr}
use mathlib.Core.List.{List, [], ◌∷◌}
use Prim.Native.Nat.{ℕ, suc, ◌^◌, ◌<◌}
use native.Mathlib.Omega.{arith}
use lib.Dec.{eqb}
use lib.Pow.{pow_mono}
use borrow.Author.Tests.{eq-eqb, ne_eqb}
use Rattle.gf2.specs.Bits.{◌⊻◌, bit, lead}
use Rattle.gf2.specs.Finite.{Mem}
use Rattle.gf2.specs.Basis.{Reduced, is_lead}
use Rattle.gf2.proofs.Logic.{clash, and-false, or-none}
use Rattle.gf2.proofs.Xor.{bit-xor, bit-zero, bit-big, bit-pow}
use Rattle.gf2.proofs.Leads.{lead_is, lead_high}
use Rattle.gf2.proofs.Reduce.{reduced-pos}
use Rattle.space.specs.Restriction.{equation}
use Rattle.product.specs.Lowest.{Lowest}

pub bit-cond : (t : Bool) (j k : ℕ) → bit k (cond t (2 ^ j) 0) ≡ t && eqb j k
bit-cond true j k = bit-pow j k
bit-cond false j k = bit-zero k

equation-bit : (b : ℕ) (bs : List ℕ) (j k : ℕ) → bit k (equation (b ∷ bs) j) ≡ (bit j b && eqb (lead b) k) ⊻ bit k (equation bs j)
unfolding equation
equation-bit b bs j k = bit-xor k (cond (bit j b) (2 ^ lead b) 0) (equation bs j) ∙ ap (λ t. t ⊻ bit k (equation bs j)) (bit-cond (bit j b) (lead b) k)

-- Of the noncanonical variables the equation of place j has the one at place j alone.
pub equation-noncanonical : (bs : List ℕ) (j k : ℕ) → is_lead bs k ≡ false → bit k (equation bs j) ≡ eqb j k
unfolding equation is_lead
equation-noncanonical [] j k e = bit-pow j k
equation-noncanonical (b ∷ bs) j k e =
    let h = or-none (eqb (lead b) k) (is_lead bs k) e in
    equation-bit b bs j k ∙ rw (h.0, and-false (bit j b)) (equation-noncanonical bs j k h.1)

-- It has no bit below place j.
pub equation-under : (bs : List ℕ) → ((c : ℕ) → Mem c bs → 0 < c) → (j k : ℕ) → k < j → bit k (equation bs j) ≡ false
unfolding equation
equation-under [] p j k h = bit-pow j k ∙ ne_eqb j k (λ q. omega arith)
equation-under (b ∷ bs) p j k h = equation-bit b bs j k ∙ rw (go (bit j b) refl) (equation-under bs (λ c m. p c (inr m)) j k h)
  where
    go : (t : Bool) → bit j b ≡ t → t && eqb (lead b) k ≡ false
    go false e = refl
    go true e = ne_eqb (lead b) k (λ q. clash e (bit-big j b (omega (
      arith,
      lead_high (lead b) b (lead_is b (p b (inl refl))),
      ap (λ (z : ℕ). 2 ^ suc z) q,
      pow_mono h,
    ))))

-- So place j is its lowest bit.
pub equation-lowest : (bs : List ℕ) → Reduced bs → (j : ℕ) → is_lead bs j ≡ false → Lowest j (equation bs j)
equation-lowest bs r j e = record {
  set = equation-noncanonical bs j j e ∙ eq-eqb j j refl;
  below = λ k h. equation-under bs (reduced-pos bs r) j k h;
}
