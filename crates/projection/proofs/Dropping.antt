-- Laws of a place that is dropped: the bits of what is left, and a point projected to the places clear in a mask, the highest place of the mask dropped
-- first. Read next: Affine.
use mathlib.Core.Path.{◌≡◌, sym, ap, ap₂, ◌∙◌}
use mathlib.Core.Bool.{Bool, false, not}
use mathlib.Core.List.{List, ◌∷◌, map}
use Prim.Native.Nat.{ℕ, zero, suc, ◌+◌, ◌-◌, ◌*◌, ◌/◌, ◌%◌, ◌^◌, ◌≤◌, ◌<◌}
use native.Mathlib.Nat.{div-eq_of_lt, mod-eq_of_lt, mul-le-mul_right}
use native.Mathlib.Decide.{dec_le, ℕ_discrete, le_ind}
use native.Mathlib.Numerals.{add-one, one-add}
use native.Mathlib.Omega.{arith}
use lib.Arith.{lt_of_le-ne}
use lib.Bits.{block_half, block_odd}
use lib.Pow.{pow_mono, shr_le, shr_mono, shr-shr, field, mod-mod-pow, split}
use Rattle.gf2.specs.Bits.{◌⊕◌, ◌⊻◌, bit, Highest}
use Rattle.gf2.specs.Finite.{Mem}
use Rattle.gf2.specs.Basis.{places_at}
use Rattle.gf2.proofs.Logic.{⊻-false}
use Rattle.gf2.proofs.Finite.{map-ext}
use Rattle.gf2.proofs.Xor.{bit-xor, bit-pow-self, bit-pow-other, bit-big}
use Rattle.gf2.proofs.Variables.{places-ext, places-mem}
use Rattle.space.specs.Restriction.{number, project}
use Rattle.space.proofs.Steps.{project-kept}
use Rattle.projection.specs.Masks.{places_clear, drop_place}

-- ---- the bits that are left

-- Digit by digit: the lowest one is dropped, or stays and one of the others is.
drop-zero : (w : ℕ) → drop_place 0 w ≡ w / 2
unfolding drop_place
drop-zero w = omega arith

drop-half : (k w : ℕ) → drop_place (suc k) w / 2 ≡ drop_place k (w / 2)
unfolding drop_place
drop-half k w =
    block_half (w / 2 / 2 ^ suc k) k (w % 2 ^ suc k)
    ∙ ap₂ (λ (a b : ℕ). a * 2 ^ k + b) (sym (shr-shr (w / 2) 1 k ∙ ap (λ (j : ℕ). w / 2 / 2 ^ j) (one-add k))) (ap (λ (j : ℕ). w % 2 ^ j / 2) (sym (add-one k)) ∙ field w k 1)

drop-low : (k w : ℕ) → drop_place (suc k) w % 2 ≡ w % 2
unfolding drop_place
drop-low k w = block_odd (w / 2 / 2 ^ suc k) k (w % 2 ^ suc k) ∙ ap (λ (j : ℕ). w % 2 ^ j % 2) (sym (add-one k)) ∙ mod-mod-pow w k 1

-- Those below the place are as they were, those above it stand one place lower.
pub bit-drop-below : (k j w : ℕ) → j < k → bit j (drop_place k w) ≡ bit j w
unfolding bit
bit-drop-below zero j w h = absurd (omega arith)
bit-drop-below (suc k) zero w h = rw (drop-low k w)
bit-drop-below (suc k) (suc j) w h = ap (bit j) (drop-half k w) ∙ bit-drop-below k j (w / 2) (omega arith)

pub bit-drop-above : (k j w : ℕ) → k ≤ j → bit j (drop_place k w) ≡ bit (suc j) w
unfolding bit
bit-drop-above zero j w h = ap (bit j) (drop-zero w)
bit-drop-above (suc k) zero w h = absurd (omega arith)
bit-drop-above (suc k) (suc j) w h = ap (bit j) (drop-half k w) ∙ bit-drop-above k j (w / 2) (omega arith)

-- It doesn't grow, so a point of n variables stays one.
pub drop_le : (k w : ℕ) → drop_place k w ≤ w
unfolding drop_place
drop_le k w = omega (arith, mul-le-mul_right (2 ^ k) (shr_mono k (shr_le w 1)), split w k)

-- A place above its bits changes nothing.
drop-above : (k w : ℕ) → w < 2 ^ k → drop_place k w ≡ w
unfolding drop_place
drop-above k w h =
    let none : w / 2 / 2 ^ k ≡ 0 = div-eq_of_lt (omega (arith, shr_le w 1)) in
    rw (none, mod-eq_of_lt h) (omega arith)

-- ---- the highest place of a mask dropped

-- The mask without its highest bit: nothing is set there or above, and the bits below are as they were.
module _ (k mask : ℕ) (top : Highest k mask) where
  abbrev rest : ℕ
  rest = mask ⊕ 2 ^ k

  rest-above : (j : ℕ) → k ≤ j → bit j rest ≡ false
  rest-above j h = bit-xor j mask (2 ^ k) ∙ go (ℕ_discrete k j)
    where
      go : Dec (k ≡ j) → bit j mask ⊻ bit j (2 ^ k) ≡ false
      go (yes e) = rw (← e, top.set, bit-pow-self k)
      go (no e) = rw (top.above j (lt_of_le-ne h e), bit-pow-other k j e)

  rest_below : (j : ℕ) → j < k → bit j rest ≡ bit j mask
  rest_below j h = bit-xor j mask (2 ^ k) ∙ rw (bit-pow-other k j (λ e. omega arith)) (⊻-false (bit j mask))

  -- Of the places below k both have the same clear.
  clear-below : (n : ℕ) → n ≤ k → places_clear n rest ≡ places_clear n mask
  clear-below n h = places-ext (λ j. not (bit j rest)) (λ j. not (bit j mask)) n (λ j l. ap not (rest_below j (omega arith)))

  -- The bits at the clear places, one place more for the mask than for what is left of it.
  abbrev SameBits : ℕ → ℕ → Type 0
  SameBits w m = map (λ j. bit j w) (places_clear (suc m) mask) ≡ map (λ j. bit j (drop_place k w)) (places_clear m rest)

  same_bits : (w m : ℕ) → k ≤ m → SameBits w m
  unfolding places_at
  same_bits w = le_ind (SameBits w) first more
    where
      low : (j : ℕ) → Mem j (places_clear k mask) → bit j w ≡ bit j (drop_place k w)
      low j m = sym (bit-drop-below k j w (places-mem (λ i. not (bit i mask)) k j m).0)

      first : SameBits w k
      first = rw top.set (map-ext (λ j. bit j w) (λ j. bit j (drop_place k w)) (places_clear k mask) low ∙ ap (map (λ j. bit j (drop_place k w))) (sym (clear-below k (omega arith))))

      more : (m : ℕ) → k ≤ m → SameBits w m → SameBits w (suc m)
      more m h e = rw (top.above (suc m) (omega arith), rest-above m h, bit-drop-above k m w h) (ap (λ (l : List Bool). bit (suc m) w ∷ l) e)

  -- So a point of n variables gives the same number once the highest place of the mask is dropped, by the mask without it. What comes to stand at the
  -- highest place of the n is 0 and changes nothing.
  pub project-drop : (n w : ℕ) → w < 2 ^ n → project (places_clear n mask) w ≡ project (places_clear n rest) (drop_place k w)
  unfolding project
  project-drop n w h = go (dec_le n k)
    where
      inner : (m : ℕ) → n ≡ suc m → k ≤ m → project (places_clear n mask) w ≡ project (places_clear n rest) (drop_place k w)
      inner m e l =
          let none : bit m (drop_place k w) ≡ false = bit-drop-above k m w l ∙ bit-big (suc m) w (rw (← e) h) in
          rw e (ap number (same_bits w m l) ∙ sym (project-kept (λ j. not (bit j rest)) m (drop_place k w) (ap not (rest-above m l)) ∙ rw none (omega arith)))

      go : Dec (n ≤ k) → project (places_clear n mask) w ≡ project (places_clear n rest) (drop_place k w)
      go (yes l) = ap₂ project (sym (clear-below n l)) (sym (drop-above k w (omega (arith, pow_mono l))))
      go (no l) = inner (n - 1) (omega arith) (omega arith)
