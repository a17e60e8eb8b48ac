-- Laws of the first two passes: four numbers crossed after four others, and that the quarters, transformed, are the transform of the whole. Read next: the
-- proofs of the functions.
use mathlib.Core.Path.{◌≡◌, refl, ap₂, ◌∙◌}
use mathlib.Core.Logic.{◌≢◌}
use mathlib.Core.List.{List}
use Prim.Native.Nat.{ℕ, ◌+◌, ◌*◌, ◌≤◌, ◌<◌}
use native.Mathlib.Decide.{ℕ_discrete}
use native.Mathlib.Omega.{arith}
use lib.ListN.{length, set, length-set}
use lib.Seq.{get_or-set_same, get_or-set_other}
use lib.IntN.{ℤ, pos, ◌+ℤ◌, ◌-ℤ◌}
use mir.Syntax.{w64}
use mir.Val.{SFits}
use Rattle.walsh.specs.Numbers.{at, Summand, Summable, pair_crossed, four_crossed, PairCrossable, FourCrossable, PairCross, FourCross}
use Rattle.walsh.proofs.Bounds.{sum-far, difference-far, fits}

-- ---- sums of two and of four numbers fit

pub summand-fits : (z : ℤ) → Summand 4 z → SFits w64 z
summand-fits z h = fits z (omega arith)

pub sum_fits : (x y : ℤ) → Summand 4 x → Summand 4 y → SFits w64 (x +ℤ y)
sum_fits x y h k = fits (x +ℤ y) (omega (arith, sum-far x y))

pub difference-fits : (x y : ℤ) → Summand 4 x → Summand 4 y → SFits w64 (x -ℤ y)
difference-fits x y h k = fits (x -ℤ y) (omega (arith, difference-far x y))

module _ (a b c d : ℤ) (ha : Summand 4 a) (hb : Summand 4 b) (hc : Summand 4 c) (hd : Summand 4 d) where
  pub sums-fit : SFits w64 ((a +ℤ c) +ℤ (b +ℤ d))
  sums-fit = fits ((a +ℤ c) +ℤ (b +ℤ d)) (omega (arith, sum-far (a +ℤ c) (b +ℤ d), sum-far a c, sum-far b d))

  pub sums-apart-fit : SFits w64 ((a +ℤ c) -ℤ (b +ℤ d))
  sums-apart-fit = fits ((a +ℤ c) -ℤ (b +ℤ d)) (omega (arith, difference-far (a +ℤ c) (b +ℤ d), sum-far a c, sum-far b d))

  pub differences-fit : SFits w64 ((a -ℤ c) +ℤ (b -ℤ d))
  differences-fit = fits ((a -ℤ c) +ℤ (b -ℤ d)) (omega (arith, sum-far (a -ℤ c) (b -ℤ d), difference-far a c, difference-far b d))

  pub differences-apart-fit : SFits w64 ((a -ℤ c) -ℤ (b -ℤ d))
  differences-apart-fit = fits ((a -ℤ c) -ℤ (b -ℤ d)) (omega (arith, difference-far (a -ℤ c) (b -ℤ d), difference-far a c, difference-far b d))

-- ---- two numbers crossed, and the loop over a half: the places below u are crossed, the others as they were

pub pair_fits : (z : ℤ) → Summand 2 z → SFits w64 z
pair_fits z h = fits z (omega arith)

pub pair-sum-fits : (x y : ℤ) → Summand 2 x → Summand 2 y → SFits w64 (x +ℤ y)
pair-sum-fits x y h k = fits (x +ℤ y) (omega (arith, sum-far x y))

pub pair-difference-fits : (x y : ℤ) → Summand 2 x → Summand 2 y → SFits w64 (x -ℤ y)
pair-difference-fits x y h k = fits (x -ℤ y) (omega (arith, difference-far x y))

pub record Halving (h : ℕ) (xs : List ℤ) (u : ℕ) (ys : List ℤ) : Type 0 where
  pub long : length ys ≡ length xs
  pub done : (i : ℕ) → i < u → PairCross h (at xs) (at ys) i
  pub left : (i : ℕ) → u ≤ i → i < h → (at ys i ≡ at xs i) × (at ys (i + h) ≡ at xs (i + h))

pub halving-start : (h : ℕ) (xs : List ℤ) → Halving h xs 0 xs
halving-start h xs = record { long = refl; done = λ i k. absurd (omega arith); left = λ i k l. (refl, refl) }

module _ (h : ℕ) (xs : List ℤ) (whole : length xs ≡ h + h) (u : ℕ) (ys : List ℤ) (below : u < h) (so_far : Halving h xs u ys) where
  abbrev pair-here : (at ys u ≡ at xs u) × (at ys (u + h) ≡ at xs (u + h))
  pair-here = so_far.left u (omega arith) below

  pub halving-crossable : Summable 2 xs → PairCrossable ys u h
  halving-crossable small = record {
    inside = omega (arith, so_far.long, whole);
    first = rw pair-here.0 (small u);
    second = rw pair-here.1 (small (u + h));
  }

  -- The list after the first store.
  ys₁ : List ℤ
  ys₁ = set ys u (at ys u +ℤ at ys (u + h))

  long₁ : length ys₁ ≡ length xs
  unfolding ys₁
  long₁ = length-set ys u _ ∙ so_far.long

  pair-other : (p : ℕ) → p ≢ u → p ≢ u + h → at (pair_crossed ys u h) p ≡ at ys p
  unfolding ys₁
  pair-other p e f = get_or-set_other ys₁ (u + h) p _ (pos 0) f ∙ get_or-set_other ys u p _ (pos 0) e

  pair-new : PairCross h (at xs) (at (pair_crossed ys u h)) u
  unfolding ys₁
  pair-new = record {
    first =
        get_or-set_other ys₁ (u + h) u _ (pos 0) (λ e. omega arith) ∙ get_or-set_same ys u _ (pos 0) (omega (arith, so_far.long, whole))
        ∙ ap₂ ◌+ℤ◌ pair-here.0 pair-here.1;
    second = get_or-set_same ys₁ (u + h) _ (pos 0) (omega (arith, long₁, whole)) ∙ ap₂ ◌-ℤ◌ pair-here.0 pair-here.1;
  }

  pub halving-next : Halving h xs (u + 1) (pair_crossed ys u h)
  unfolding ys₁
  halving-next = record {
    long = length-set ys₁ (u + h) _ ∙ long₁;
    done = λ i k. go i k (ℕ_discrete i u);
    left = λ i k l.
        let was = so_far.left i (omega arith) l in (
          pair-other i (omega arith) (λ e. omega arith) ∙ was.0,
          pair-other (i + h) (λ e. omega arith) (λ e. omega arith) ∙ was.1,
        );
  }
    where
      go : (i : ℕ) → i < u + 1 → Dec (i ≡ u) → PairCross h (at xs) (at (pair_crossed ys u h)) i
      go i k (yes e) = rw e pair-new
      go i k (no e) =
          let was = so_far.done i (omega (arith, e)) in
          record {
            first = pair-other i e (λ f. omega arith) ∙ was.first;
            second = pair-other (i + h) (λ f. omega arith) (λ f. omega (arith, e)) ∙ was.second;
          }

-- ---- what the list holds once four numbers are crossed

module _ (xs : List ℤ) (u q : ℕ) (inside : u + q + q + q < length xs) (apart : 0 < q) where
  abbrev n₁ : ℤ
  n₁ = at xs u

  abbrev n₂ : ℤ
  n₂ = at xs (u + q)

  abbrev n₃ : ℤ
  n₃ = at xs (u + q + q)

  abbrev n₄ : ℤ
  n₄ = at xs (u + q + q + q)

  -- The list after one, two and three of the stores.
  xs₁ : List ℤ
  xs₁ = set xs u ((n₁ +ℤ n₃) +ℤ (n₂ +ℤ n₄))

  xs₂ : List ℤ
  xs₂ = set xs₁ (u + q) ((n₁ +ℤ n₃) -ℤ (n₂ +ℤ n₄))

  xs₃ : List ℤ
  xs₃ = set xs₂ (u + q + q) ((n₁ -ℤ n₃) +ℤ (n₂ -ℤ n₄))

  pub four-length : length (four_crossed xs u q) ≡ length xs
  four-length = simp length-set

  four-long₁ : length xs₁ ≡ length xs
  unfolding xs₁
  four-long₁ = simp length-set

  four-long₂ : length xs₂ ≡ length xs
  unfolding xs₁ xs₂
  four-long₂ = simp length-set

  four-long₃ : length xs₃ ≡ length xs
  unfolding xs₁ xs₂ xs₃
  four-long₃ = simp length-set

  pub four-here : FourCross q (at xs) (at (four_crossed xs u q)) u
  unfolding xs₁ xs₂ xs₃
  four-here = record {
    first =
        get_or-set_other xs₃ (u + q + q + q) u _ (pos 0) (λ e. omega arith)
        ∙ get_or-set_other xs₂ (u + q + q) u _ (pos 0) (λ e. omega arith)
        ∙ get_or-set_other xs₁ (u + q) u _ (pos 0) (λ e. omega arith)
        ∙ get_or-set_same xs u _ (pos 0) (omega arith);
    second =
        get_or-set_other xs₃ (u + q + q + q) (u + q) _ (pos 0) (λ e. omega arith)
        ∙ get_or-set_other xs₂ (u + q + q) (u + q) _ (pos 0) (λ e. omega arith)
        ∙ get_or-set_same xs₁ (u + q) _ (pos 0) (omega (arith, four-long₁));
    third =
        get_or-set_other xs₃ (u + q + q + q) (u + q + q) _ (pos 0) (λ e. omega arith)
        ∙ get_or-set_same xs₂ (u + q + q) _ (pos 0) (omega (arith, four-long₂));
    fourth = get_or-set_same xs₃ (u + q + q + q) _ (pos 0) (omega (arith, four-long₃));
  }

  pub four-other : (p : ℕ) → p ≢ u → p ≢ u + q → p ≢ u + q + q → p ≢ u + q + q + q → at (four_crossed xs u q) p ≡ at xs p
  unfolding xs₁ xs₂ xs₃
  four-other p e₁ e₂ e₃ e₄ =
      get_or-set_other xs₃ (u + q + q + q) p _ (pos 0) e₄
      ∙ get_or-set_other xs₂ (u + q + q) p _ (pos 0) e₃
      ∙ get_or-set_other xs₁ (u + q) p _ (pos 0) e₂
      ∙ get_or-set_other xs u p _ (pos 0) e₁

-- ---- the loop over a quarter: the places below u are crossed, the others as they were

-- Both lists hold the same at the four places from i on, q apart.
pub record Same (q : ℕ) (xs ys : List ℤ) (i : ℕ) : Type 0 where
  pub first : at ys i ≡ at xs i
  pub second : at ys (i + q) ≡ at xs (i + q)
  pub third : at ys (i + q + q) ≡ at xs (i + q + q)
  pub fourth : at ys (i + q + q + q) ≡ at xs (i + q + q + q)

pub record Quartering (q : ℕ) (xs : List ℤ) (u : ℕ) (ys : List ℤ) : Type 0 where
  pub long : length ys ≡ length xs
  pub done : (i : ℕ) → i < u → FourCross q (at xs) (at ys) i
  pub left : (i : ℕ) → u ≤ i → i < q → Same q xs ys i

pub quartering-start : (q : ℕ) (xs : List ℤ) → Quartering q xs 0 xs
quartering-start q xs = record {
  long = refl;
  done = λ i h. absurd (omega arith);
  left = λ i h l. record { first = refl; second = refl; third = refl; fourth = refl };
}

module _ (q : ℕ) (xs : List ℤ) (whole : length xs ≡ 4 * q) (u : ℕ) (ys : List ℤ) (below : u < q) (so_far : Quartering q xs u ys) where
  -- The numbers that are crossed are those of the start.
  here : Same q xs ys u
  here = so_far.left u (omega arith) below

  pub quartering-crossable : Summable 4 xs → FourCrossable ys u q
  quartering-crossable small = record {
    inside = omega (arith, so_far.long, whole);
    first = rw here.first (small u);
    second = rw here.second (small (u + q));
    third = rw here.third (small (u + q + q));
    fourth = rw here.fourth (small (u + q + q + q));
  }

  zs : List ℤ
  zs = four_crossed ys u q

  inside : u + q + q + q < length ys
  inside = omega (arith, so_far.long, whole)

  -- Another place of the quarter and its three fellows are as they were.
  elsewhere : (i : ℕ) → i < q → i ≢ u → Same q ys zs i
  unfolding zs
  elsewhere i h e = record {
    first = four-other ys u q inside (omega arith) i e (λ z. omega arith) (λ z. omega arith) (λ z. omega arith);
    second = four-other ys u q inside (omega arith) (i + q) (λ z. omega arith) (λ z. omega (arith, e)) (λ z. omega arith) (λ z. omega arith);
    third = four-other ys u q inside (omega arith) (i + q + q) (λ z. omega arith) (λ z. omega arith) (λ z. omega (arith, e)) (λ z. omega arith);
    fourth = four-other ys u q inside (omega arith) (i + q + q + q) (λ z. omega arith) (λ z. omega arith) (λ z. omega arith) (λ z. omega (arith, e));
  }

  new : FourCross q (at xs) (at zs) u
  unfolding zs
  new =
      let made = four-here ys u q inside (omega arith) in
      record {
        first = made.first ∙ rw (here.first, here.second, here.third, here.fourth);
        second = made.second ∙ rw (here.first, here.second, here.third, here.fourth);
        third = made.third ∙ rw (here.first, here.second, here.third, here.fourth);
        fourth = made.fourth ∙ rw (here.first, here.second, here.third, here.fourth);
      }

  old : (i : ℕ) → i < u → FourCross q (at xs) (at zs) i
  old i h =
      let was = so_far.done i h in
      let is = elsewhere i (omega arith) (omega arith) in
      record { first = is.first ∙ was.first; second = is.second ∙ was.second; third = is.third ∙ was.third; fourth = is.fourth ∙ was.fourth }

  pub quartering-next : Quartering q xs (u + 1) (four_crossed ys u q)
  unfolding zs
  quartering-next = record {
    long = four-length ys u q inside (omega arith) ∙ so_far.long;
    done = λ i h. go i h (ℕ_discrete i u);
    left = λ i h l.
        let was = so_far.left i (omega arith) l in
        let is = elsewhere i l (omega arith) in
        record { first = is.first ∙ was.first; second = is.second ∙ was.second; third = is.third ∙ was.third; fourth = is.fourth ∙ was.fourth };
  }
    where
      go : (i : ℕ) → i < u + 1 → Dec (i ≡ u) → FourCross q (at xs) (at zs) i
      go i h (yes e) = rw e new
      go i h (no e) = old i (omega (arith, e))
