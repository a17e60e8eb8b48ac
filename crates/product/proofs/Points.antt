-- The points of a canonical product of n variables: it has one, they are a pseudocube, and f factors leave 2 ^ (n - f) of them.
-- All rests on one fact: the lowest bit of a factor's mask stands in no other mask, so to flip it in a point turns that factor and leaves the
-- others. Read next: Unique.
use mathlib.Core.Path.{◌≡◌, refl, sym, ap, ap₂, ◌∙◌}
use mathlib.Core.Bool.{Bool, true, false, not, ◌&&◌, beq}
use mathlib.Core.Logic.{inl, inr}
use mathlib.Core.List.{List, [], ◌∷◌}
use Prim.Native.Nat.{ℕ, suc, ◌+◌, ◌-◌, ◌^◌, ◌≤◌, ◌<◌}
use native.Mathlib.Nat.{pow-suc}
use native.Mathlib.Omega.{arith}
use lib.Bits.{xor_lt}
use lib.Dec.{eqb}
use lib.ListN.{length}
use lib.Pow.{pow_pos, pow-lt}
use Rattle.gf2.specs.Bits.{◌⊕◌, ◌⊻◌, bit}
use Rattle.gf2.specs.Finite.{Mem, In, select}
use Rattle.gf2.specs.Parity.{odd}
use Rattle.gf2.specs.Span.{Pseudocube}
use Rattle.gf2.proofs.Logic.{and_i, ⊻-false}
use Rattle.gf2.proofs.Odd.{odd-xor, odd-comm, odd_pow}
use Rattle.product.specs.Lowest.{lowest}
use Rattle.product.specs.Product.{Factor, factor_at, product_at, AllFit, Canonical}
use Rattle.product.proofs.LowestBit.{lowest_set}
use Rattle.product.proofs.Product.{factor-is, product_is, fits-lowest, Separate, separate}
use Rattle.product.proofs.Count.{count, count-ext, count-all, count-split, count-xor}

-- ---- a bit flipped in a point

odd-flip : (m w k : ℕ) → odd m (w ⊕ 2 ^ k) ≡ odd m w ⊻ bit k m
odd-flip m w k = odd-xor m w (2 ^ k) ∙ ap (λ t. odd m w ⊻ t) (odd-comm m (2 ^ k) ∙ odd_pow k m)

-- A mask that has not the bit does not notice.
pub odd-keep : (m w k : ℕ) → bit k m ≡ false → odd m (w ⊕ 2 ^ k) ≡ odd m w
odd-keep m w k e = odd-flip m w k ∙ rw e (⊻-false (odd m w))

pub factor-turn : (f : Factor) (w k : ℕ) → bit k f.mask ≡ true → factor_at f (w ⊕ 2 ^ k) ≡ not (factor_at f w)
unfolding factor_at
factor-turn f w k e = rw (odd-flip f.mask w k, e) (go (odd f.mask w) (eqb f.constant 1))
  where
    go : (s t : Bool) → beq (s ⊻ true) t ≡ not (beq s t)
    go true true = refl
    go true false = refl
    go false true = refl
    go false false = refl

factor-keep : (f : Factor) (w k : ℕ) → bit k f.mask ≡ false → factor_at f (w ⊕ 2 ^ k) ≡ factor_at f w
unfolding factor_at
factor-keep f w k e = rw (odd-keep f.mask w k e)

pub product-keep : (fs : List Factor) (w k : ℕ) → ((f : Factor) → Mem f fs → bit k f.mask ≡ false) → product_at fs (w ⊕ 2 ^ k) ≡ product_at fs w
unfolding product_at
product-keep [] w k h = refl
product-keep (f ∷ fs) w k h = ap₂ ◌&&◌ (factor-keep f w k (h f (inl refl))) (product-keep fs w k (λ g m. h g (inr m)))

module _ (n : ℕ) (f : Factor) (fs : List Factor) (s : Separate (f ∷ fs)) (a : AllFit n (f ∷ fs)) where
  -- The vector of the lowest bit of the first mask.
  abbrev flip : ℕ
  flip = 2 ^ lowest f.mask

  pub flip-below : flip < 2 ^ n
  flip-below = pow-lt (fits-lowest (a f (inl refl)))

  pub first-turn : (w : ℕ) → factor_at f (w ⊕ flip) ≡ not (factor_at f w)
  first-turn w = factor-turn f w (lowest f.mask) (lowest_set f.mask (a f (inl refl)).some)

  pub rest-keep : (w : ℕ) → product_at fs (w ⊕ flip) ≡ product_at fs w
  rest-keep w = product-keep fs w (lowest f.mask) (λ g m. (s.0 g m).later)

  -- From a point where the other factors are true, one where the first is true as well: only the lowest bit of the first mask may differ.
  pub reach : (w : ℕ) → In n (product_at fs) w → (v : ℕ) × In n (product_at (f ∷ fs)) v × ((m : ℕ) → bit (lowest f.mask) m ≡ false → odd m v ≡ odd m w)
  unfolding product_at
  reach w i = go (factor_at f w) refl
    where
      go : (t : Bool) → factor_at f w ≡ t → (v : ℕ) × In n (product_at (f ∷ fs)) v × ((m : ℕ) → bit (lowest f.mask) m ≡ false → odd m v ≡ odd m w)
      go true e = (w, (i.0, and_i (factor_at f w) (product_at fs w) e i.1), λ m z. refl)
      go false e = (
        w ⊕ flip,
        (xor_lt n w flip i.0 flip-below, and_i (factor_at f (w ⊕ flip)) (product_at fs (w ⊕ flip)) (first-turn w ∙ rw e) (rest-keep w ∙ i.1)),
        λ m z. odd-keep m w (lowest f.mask) z,
      )

-- ---- it has a point

pub some-point : (n : ℕ) (fs : List Factor) → Separate fs → AllFit n fs → (w : ℕ) × In n (product_at fs) w
unfolding product_at
some-point n [] s a = (0, (pow_pos n, refl))
some-point n (f ∷ fs) s a =
    let w = some-point n fs s.1 (λ g m. a g (inr m)) in
    let v = reach n f fs s a w.0 w.1 in
    (v.0, v.1)

pub canonical-point : (n : ℕ) (fs : List Factor) → Canonical fs → AllFit n fs → (w : ℕ) × In n (product_at fs) w
canonical-point n fs c a = some-point n fs (separate fs c) a

-- ---- its points are a pseudocube

factor-triple : (f : Factor) (p q r : ℕ) → factor_at f p ≡ true → factor_at f q ≡ true → factor_at f r ≡ true → factor_at f (p ⊕ q ⊕ r) ≡ true
factor-triple f p q r hp hq hr = (factor-is f (p ⊕ q ⊕ r)).1
    (odd-xor f.mask (p ⊕ q) r ∙ rw (odd-xor f.mask p q, (factor-is f p).0 hp, (factor-is f q).0 hq, (factor-is f r).0 hr) (go (eqb f.constant 1)))
  where
    go : (t : Bool) → (t ⊻ t) ⊻ t ≡ t
    go true = refl
    go false = refl

pub product-triples : (n : ℕ) (fs : List Factor) (p q r : ℕ) → In n (product_at fs) p → In n (product_at fs) q → In n (product_at fs) r → In n (product_at fs) (p ⊕ q ⊕ r)
product-triples n fs p q r hp hq hr = (
  xor_lt n (p ⊕ q) r (xor_lt n p q hp.0 hq.0) hr.0,
  (product_is fs (p ⊕ q ⊕ r)).1 (λ f m. factor-triple f p q r ((product_is fs p).0 hp.1 f m) ((product_is fs q).0 hq.1 f m) ((product_is fs r).0 hr.1 f m)),
)

pub canonical-cube : (n : ℕ) (fs : List Factor) → Canonical fs → AllFit n fs → Pseudocube n (product_at fs)
canonical-cube n fs c a = record { some = canonical-point n fs c a; triples = product-triples n fs }

-- ---- how many there are

-- The lowest bits fall, so there are no more factors than places.
falls-room : (n : ℕ) (fs : List Factor) → Separate fs → ((f : Factor) → Mem f fs → lowest f.mask < n) → length fs ≤ n
falls-room n [] s h = omega arith
falls-room n (f ∷ fs) s h = omega (arith, h f (inl refl), falls-room (lowest f.mask) fs s.1 (λ g m. (s.0 g m).falls))

few-factors : (n : ℕ) (fs : List Factor) → Separate fs → AllFit n fs → length fs ≤ n
few-factors n fs s a = falls-room n fs s (λ f m. fits-lowest (a f m))

pub canonical-length : (n : ℕ) (fs : List Factor) → Canonical fs → AllFit n fs → length fs ≤ n
canonical-length n fs c a = few-factors n fs (separate fs c) a

-- One factor more in front leaves half of the points: the flip carries those where it is true to those where it is false.
half : (n : ℕ) (f : Factor) (fs : List Factor) → Separate (f ∷ fs) → AllFit n (f ∷ fs) → count (product_at (f ∷ fs)) (2 ^ n) + count (product_at (f ∷ fs)) (2 ^ n) ≡ count (product_at fs) (2 ^ n)
unfolding product_at
half n f fs s a =
    ap (λ (z : ℕ). count (product_at (f ∷ fs)) (2 ^ n) + z)
    (sym (count-xor n v (flip-below n f fs s a) (product_at (f ∷ fs)))
    ∙ count-ext (λ w. product_at (f ∷ fs) (w ⊕ v)) (λ w. not (factor_at f w) && product_at fs w) (2 ^ n) (λ w l. ap₂ ◌&&◌ (first-turn n f fs s a w) (rest-keep n f fs s a w)))
    ∙ count-split (factor_at f) (product_at fs) (2 ^ n)
  where
    v : ℕ
    v = 2 ^ lowest f.mask

points : (n : ℕ) (fs : List Factor) → Separate fs → AllFit n fs → count (product_at fs) (2 ^ n) ≡ 2 ^ (n - length fs)
unfolding product_at
points n [] s a = let e : n - 0 ≡ n = omega arith in rw e (count-all (product_at []) (2 ^ n) (λ w l. refl))
points n (f ∷ fs) s a =
    let e : n - length fs ≡ suc (n - suc (length fs)) = omega (arith, few-factors n (f ∷ fs) s a) in
    omega (
      arith,
      half n f fs s a,
      points n fs s.1 (λ g m. a g (inr m)),
      ap (λ (k : ℕ). 2 ^ k) e,
      pow-suc 2 (n - suc (length fs)),
    )

pub canonical-points : (n : ℕ) (fs : List Factor) → Canonical fs → AllFit n fs → length (select (product_at fs) (2 ^ n)) ≡ 2 ^ (n - length fs)
canonical-points n fs c a = points n fs (separate fs c) a
