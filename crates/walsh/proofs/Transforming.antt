-- The transform pass by pass: with k variables left, each block of 2 ^ k numbers transforms to its part of the whole. Read next: the proofs of the
-- functions.
use mathlib.Core.Path.{◌≡◌, refl, sym, ap, ◌∙◌, subst}
use mathlib.Core.List.{List}
use Prim.Native.Nat.{ℕ, zero, suc, ◌+◌, ◌-◌, ◌*◌, ◌/◌, ◌%◌, ◌^◌, ◌≤◌, ◌<◌}
use native.Mathlib.Nat.{lt_of_not-le, mod-lt, add-mul, mul-add, mul_assoc, mul-le-mul_left, mul-le-mul_right, div-add-mod', one-mul, suc-mul, zero-add, zero-mul, zero-lt-suc}
use native.Mathlib.Decide.{dec_le}
use native.Mathlib.Omega.{arith}
use lib.Pow.{pow_pos, pow_mono, pow-add}
use lib.ListN.{length, get_or-eq_default}
use lib.IntN.{ℤ, pos, nat_abs, ◌+ℤ◌, ◌-ℤ◌}
use Rattle.walsh.specs.Walsh.{walsh}
use Rattle.walsh.specs.Numbers.{at, from, Summand, Summable, PairCross, FourCross, Halved, Blocks, Passed, Transformable, Transformed, Transforming, InBlocks}
use Rattle.walsh.proofs.Walsh.{walsh-ext, walsh-lower, walsh-upper, walsh-none}
use Rattle.walsh.proofs.Bounds.{sum-far, difference-far}

-- ---- numbers crossed by halves, and by quarters: each part of the transform is the transform of a part

module _ (k : ℕ) (g h : ℕ → ℤ) (each : (u : ℕ) → u < 2 ^ k → PairCross (2 ^ k) g h u) (u : ℕ) (below : u < 2 ^ k) where
  pub first-half : walsh (suc k) g u ≡ walsh k h u
  first-half = walsh-lower k g u below ∙ walsh-ext k (λ v. g v +ℤ g (2 ^ k + v)) h (λ v l. go v l) u
    where
      go : (v : ℕ) → v < 2 ^ k → g v +ℤ g (2 ^ k + v) ≡ h v
      go v l = let e : 2 ^ k + v ≡ v + 2 ^ k = omega arith in rw e (sym (each v l).first)

  pub second-half : walsh (suc k) g (2 ^ k + u) ≡ walsh k (λ v. h (2 ^ k + v)) u
  second-half = walsh-upper k g u below ∙ walsh-ext k (λ v. g v -ℤ g (2 ^ k + v)) (λ v. h (2 ^ k + v)) (λ v l. go v l) u
    where
      go : (v : ℕ) → v < 2 ^ k → g v -ℤ g (2 ^ k + v) ≡ h (2 ^ k + v)
      go v l = let e : 2 ^ k + v ≡ v + 2 ^ k = omega arith in rw e (sym (each v l).second)

module _ (k : ℕ) (g h : ℕ → ℤ) (each : (u : ℕ) → u < 2 ^ k → FourCross (2 ^ k) g h u) where
  abbrev q : ℕ
  q = 2 ^ k

  twice : 2 ^ suc k ≡ q + q
  twice = omega arith

  -- The sums and the differences of the numbers half a block apart.
  sums : ℕ → ℤ
  sums v = g v +ℤ g (2 ^ suc k + v)

  differences : ℕ → ℤ
  differences v = g v -ℤ g (2 ^ suc k + v)

  module _ (v : ℕ) (l : v < q) where
    e₁ : q + v ≡ v + q
    e₁ = omega arith

    e₂ : 2 ^ suc k + v ≡ v + q + q
    e₂ = omega arith

    e₃ : 2 ^ suc k + (q + v) ≡ v + q + q + q
    e₃ = omega arith

    first-quarter-at : sums v +ℤ sums (q + v) ≡ h v
    unfolding sums
    first-quarter-at = rw (e₃, e₂, e₁) (sym (each v l).first)

    second-quarter-at : sums v -ℤ sums (q + v) ≡ h (v + q)
    unfolding sums
    second-quarter-at = rw (e₃, e₂, e₁) (sym (each v l).second)

    third-quarter-at : differences v +ℤ differences (q + v) ≡ h (v + q + q)
    unfolding differences
    third-quarter-at = rw (e₃, e₂, e₁) (sym (each v l).third)

    fourth-quarter-at : differences v -ℤ differences (q + v) ≡ h (v + q + q + q)
    unfolding differences
    fourth-quarter-at = rw (e₃, e₂, e₁) (sym (each v l).fourth)

  module _ (u : ℕ) (below : u < q) where
    first-quarter : walsh (suc (suc k)) g u ≡ walsh k h u
    unfolding sums
    first-quarter =
        walsh-lower (suc k) g u (omega arith) ∙ walsh-lower k sums u below
        ∙ walsh-ext k (λ v. sums v +ℤ sums (q + v)) h first-quarter-at u

    second-quarter : walsh (suc (suc k)) g (q + u) ≡ walsh k (λ v. h (v + q)) u
    unfolding sums
    second-quarter =
        walsh-lower (suc k) g (q + u) (omega arith) ∙ walsh-upper k sums u below
        ∙ walsh-ext k (λ v. sums v -ℤ sums (q + v)) (λ v. h (v + q)) second-quarter-at u

    third-quarter : walsh (suc (suc k)) g (2 ^ suc k + u) ≡ walsh k (λ v. h (v + q + q)) u
    unfolding differences
    third-quarter =
        walsh-upper (suc k) g u (omega arith) ∙ walsh-lower k differences u below
        ∙ walsh-ext k (λ v. differences v +ℤ differences (q + v)) (λ v. h (v + q + q)) third-quarter-at u

    fourth-quarter : walsh (suc (suc k)) g (2 ^ suc k + (q + u)) ≡ walsh k (λ v. h (v + q + q + q)) u
    unfolding differences
    fourth-quarter =
        walsh-upper (suc k) g (q + u) (omega arith) ∙ walsh-upper k differences u below
        ∙ walsh-ext k (λ v. differences v -ℤ differences (q + v)) (λ v. h (v + q + q + q)) fourth-quarter-at u

    -- The same by other names of the places.
    same : {place place' : ℕ} {at at' : ℕ → ℕ} → walsh (suc (suc k)) g place ≡ walsh k (λ v. h (at v)) u
        → ((v : ℕ) → at v ≡ at' v) → place ≡ place' → walsh (suc (suc k)) g place' ≡ walsh k (λ v. h (at' v)) u
    same {at = at} {at' = at'} w e p = rw (← p) (w ∙ walsh-ext k (λ v. h (at v)) (λ v. h (at' v)) (λ v l. ap h (e v)) u)

    -- The same of the quarter i, of which there are four.
    pub quarter : (i : ℕ) → i < 4 → walsh (suc (suc k)) g (i * q + u) ≡ walsh k (λ v. h (i * q + v)) u
    quarter zero l = same first-quarter (λ v. omega arith) (omega arith)
    quarter (suc zero) l = same second-quarter (λ v. omega arith) (omega arith)
    quarter (suc (suc zero)) l = same third-quarter (λ v. omega arith) (omega arith)
    quarter (suc (suc (suc zero))) l = same fourth-quarter (λ v. omega arith) (omega arith)
    quarter (suc (suc (suc (suc i)))) l = absurd (omega arith)

-- ---- how far from 0: what may be added 2 ^ (k + 1) times may, once two of them are added, be added 2 ^ k times

module _ (k : ℕ) (x y : ℤ) (hx : Summand (2 ^ suc k) x) (hy : Summand (2 ^ suc k) y) where
  two-summand : (z : ℤ) → nat_abs z ≤ nat_abs x + nat_abs y → Summand (2 ^ k) z
  two-summand z h =
      let e : 2 ^ suc k ≡ 2 ^ k + 2 ^ k = omega arith in
      let a : nat_abs x * 2 ^ k + nat_abs x * 2 ^ k ≤ 2 ^ 62 = rw (e, mul-add (nat_abs x) (2 ^ k) (2 ^ k)) at hx in
      let b : nat_abs y * 2 ^ k + nat_abs y * 2 ^ k ≤ 2 ^ 62 = rw (e, mul-add (nat_abs y) (2 ^ k) (2 ^ k)) at hy in
      omega (arith, a, b, mul-le-mul_right (2 ^ k) h, add-mul (nat_abs x) (nat_abs y) (2 ^ k))

  sum-summand : Summand (2 ^ k) (x +ℤ y)
  sum-summand = two-summand (x +ℤ y) (sum-far x y)

  difference-summand : Summand (2 ^ k) (x -ℤ y)
  difference-summand = two-summand (x -ℤ y) (difference-far x y)

-- A place past the end holds 0.
past_end : (k : ℕ) (ys : List ℤ) (w : ℕ) → length ys ≤ w → Summand k (at ys w)
past_end k ys w h = rw (get_or-eq_default ys (pos 0) {n = w} h, zero-mul k) (omega arith)

-- ---- pass by pass

-- All variables are left: there is one block.
pub transforming-start : (n : ℕ) (xs : List ℤ) → Transformable n xs → Transforming n (at xs) n xs
transforming-start n xs t = record { few = omega arith; long = t.long; small = t.small; each = go }
  where
    go : (b u : ℕ) → b * 2 ^ n < 2 ^ n → u < 2 ^ n → walsh n (from (b * 2 ^ n) xs) u ≡ walsh n (at xs) (b * 2 ^ n + u)
    go zero u h l = rw (zero-mul (2 ^ n), zero-add u) (walsh-ext n (λ v. at xs (0 + v)) (at xs) (λ v i. ap (at xs) (zero-add v)) u)
    go (suc b) u h l = absurd (omega (arith, h, suc-mul b (2 ^ n)))

-- No variable is left: a block is a number.
pub transforming-end : (n : ℕ) (xs ys : List ℤ) → Transforming n (at xs) 0 ys → Transformed n xs ys
transforming-end n xs ys t = record { long = t.long; each = λ u h. go u h }
  where
    go : (u : ℕ) → u < 2 ^ n → at ys u ≡ walsh n (at xs) u
    go u h =
        let e : u * 1 + 0 ≡ u = omega arith in
        subst (λ (p : ℕ). at ys p ≡ walsh n (at xs) p) e
        (sym (walsh-none (from (u * 1) ys) 0 (omega arith)) ∙ t.each u 0 (omega arith) (omega arith))

-- One pass by halves leaves one variable less.
pub transforming-halved : (k : ℕ) (xs ys : List ℤ) → Transformable (suc k) xs → Halved (2 ^ k) xs ys → Transforming (suc k) (at xs) k ys
transforming-halved k xs ys t m = record { few = omega arith; long = m.long ∙ t.long; small = small; each = each }
  where
    crossed : (u : ℕ) → u < 2 ^ k → PairCross (2 ^ k) (at xs) (at ys) u
    crossed = m.each

    small : Summable (2 ^ k) ys
    small w = go (dec_le (2 ^ k) w) (dec_le (2 ^ suc k) w)
      where
        go : Dec (2 ^ k ≤ w) → Dec (2 ^ suc k ≤ w) → Summand (2 ^ k) (at ys w)
        go i (yes l) = past_end (2 ^ k) ys w (omega (arith, m.long, t.long))
        go (no i) (no l) = rw (crossed w (lt_of_not-le i)).first (sum-summand k (at xs w) (at xs (w + 2 ^ k)) (t.small w) (t.small (w + 2 ^ k)))
        go (yes i) (no l) =
            let v = w - 2 ^ k in
            let e : v + 2 ^ k ≡ w = omega arith in
            let b : v < 2 ^ k = omega arith in
            subst (λ (p : ℕ). Summand (2 ^ k) (at ys p)) e
            (rw (crossed v b).second (difference-summand k (at xs v) (at xs (v + 2 ^ k)) (t.small v) (t.small (v + 2 ^ k))))

    each : (b u : ℕ) → b * 2 ^ k < 2 ^ suc k → u < 2 ^ k → walsh k (from (b * 2 ^ k) ys) u ≡ walsh (suc k) (at xs) (b * 2 ^ k + u)
    each zero u h l =
        rw (zero-mul (2 ^ k), zero-add u)
        (walsh-ext k (λ v. at ys (0 + v)) (at ys) (λ v i. ap (at ys) (zero-add v)) u ∙ sym (first-half k (at xs) (at ys) crossed u l))
    each (suc zero) u h l = rw (one-mul (2 ^ k)) (sym (second-half k (at xs) (at ys) crossed u l))
    each (suc (suc b)) u h l = absurd (omega (arith, h, suc-mul (suc b) (2 ^ k), suc-mul b (2 ^ k)))

-- ---- two passes by quarters leave two variables less

module _ (n : ℕ) (g : ℕ → ℤ) (k : ℕ) (ys : List ℤ) (so_far : Transforming n g (suc (suc k)) ys) where
  abbrev side : ℕ
  side = 2 ^ k

  four : 2 ^ suc (suc k) ≡ 4 * side
  four = omega arith

  -- The list is made of blocks of that size.
  pub transforming-blocks : Blocks (2 ^ k) ys
  transforming-blocks = record {
    some = pow_pos k;
    one = omega (arith, so_far.long, pow_mono so_far.few, four);
    blocks = 2 ^ (n - suc (suc k));
    whole =
        let e : n ≡ (n - suc (suc k)) + suc (suc k) = omega (arith, so_far.few) in
        so_far.long ∙ ap (λ (j : ℕ). 2 ^ j) e ∙ pow-add 2 (n - suc (suc k)) (suc (suc k)) ∙ ap (λ (m : ℕ). 2 ^ (n - suc (suc k)) * m) four;
    small = λ w. omega (arith, so_far.small w, mul-le-mul_left (nat_abs (at ys w)) (at_least k));
  }
    where
      at_least : (j : ℕ) → 4 ≤ 2 ^ suc (suc j)
      at_least j = omega (arith, pow_pos j)

  module _ (zs : List ℤ) (passed : Passed (2 ^ k) ys zs) where
    -- Four numbers of a block, once crossed, may be added 2 ^ k times.
    module _ (b v : ℕ) (below : v < side) (inside : b * (4 * side) < length ys) where
      abbrev s : ℕ
      s = b * (4 * side)

      abbrev x : FourCross side (from s ys) (from s zs) v
      x = passed.each b inside v below

      abbrev n₁ : ℤ
      n₁ = from s ys v

      abbrev n₂ : ℤ
      n₂ = from s ys (v + side)

      abbrev n₃ : ℤ
      n₃ = from s ys (v + side + side)

      abbrev n₄ : ℤ
      n₄ = from s ys (v + side + side + side)

      even_sum : Summand (2 ^ suc k) (n₁ +ℤ n₃)
      even_sum = sum-summand (suc k) n₁ n₃ (so_far.small (s + v)) (so_far.small (s + (v + side + side)))

      odd-sum : Summand (2 ^ suc k) (n₂ +ℤ n₄)
      odd-sum = sum-summand (suc k) n₂ n₄ (so_far.small (s + (v + side))) (so_far.small (s + (v + side + side + side)))

      even-difference : Summand (2 ^ suc k) (n₁ -ℤ n₃)
      even-difference = difference-summand (suc k) n₁ n₃ (so_far.small (s + v)) (so_far.small (s + (v + side + side)))

      odd-difference : Summand (2 ^ suc k) (n₂ -ℤ n₄)
      odd-difference = difference-summand (suc k) n₂ n₄ (so_far.small (s + (v + side))) (so_far.small (s + (v + side + side + side)))

      first_small : Summand side (at zs (s + v))
      first_small = rw x.first (sum-summand k (n₁ +ℤ n₃) (n₂ +ℤ n₄) even_sum odd-sum)

      second-small : Summand side (at zs (s + (v + side)))
      second-small = rw x.second (difference-summand k (n₁ +ℤ n₃) (n₂ +ℤ n₄) even_sum odd-sum)

      third-small : Summand side (at zs (s + (v + side + side)))
      third-small = rw x.third (sum-summand k (n₁ -ℤ n₃) (n₂ -ℤ n₄) even-difference odd-difference)

      fourth-small : Summand side (at zs (s + (v + side + side + side)))
      fourth-small = rw x.fourth (difference-summand k (n₁ -ℤ n₃) (n₂ -ℤ n₄) even-difference odd-difference)

    -- So may every number: it is one of four in its block.
    block-small : (b r : ℕ) → r < 4 * side → b * (4 * side) < length ys → Summand side (at zs (b * (4 * side) + r))
    block-small b r l h = go (dec_le side r) (dec_le (side + side) r) (dec_le (side + side + side) r)
      where
        moved : {j : ℕ} → j ≡ r → Summand side (at zs (b * (4 * side) + j)) → Summand side (at zs (b * (4 * side) + r))
        moved e t = subst (λ (j : ℕ). Summand side (at zs (b * (4 * side) + j))) e t

        go : Dec (side ≤ r) → Dec (side + side ≤ r) → Dec (side + side + side ≤ r) → Summand side (at zs (b * (4 * side) + r))
        go (no i) d e = first_small b r (lt_of_not-le i) h
        go (yes i) (no d) e = moved (omega arith) (second-small b (r - side) (omega arith) h)
        go (yes i) (yes d) (no e) = moved (omega arith) (third-small b (r - side - side) (omega arith) h)
        go (yes i) (yes d) (yes e) = moved (omega arith) (fourth-small b (r - side - side - side) (omega arith) h)

    passed-small : Summable side zs
    passed-small w = go (dec_le (length ys) w)
      where
        m : ℕ
        m = 4 * side

        some : 0 < m
        some = omega (arith, pow_pos k)

        go : Dec (length ys ≤ w) → Summand side (at zs w)
        go (yes l) = past_end side zs w (omega (arith, passed.long))
        go (no l) =
            let e : w / m * m + w % m ≡ w = div-add-mod' w m in
            subst (λ (p : ℕ). Summand side (at zs p)) e (block-small (w / m) (w % m) (mod-lt w some) (omega (arith, e)))

    -- The block c of 2 ^ k numbers is a quarter, that of number i, of the block b four times as large.
    module _ (c : ℕ) (inside : c * side < 2 ^ n) (u : ℕ) (below : u < side) where
      b : ℕ
      b = c / 4

      i : ℕ
      i = c % 4

      third : i < 4
      unfolding i
      third = mod-lt c (zero-lt-suc 3)

      place : c * side ≡ b * 2 ^ suc (suc k) + i * side
      unfolding b i
      place =
          ap (λ (j : ℕ). j * side) (sym (div-add-mod' c 4)) ∙ add-mul (c / 4 * 4) (c % 4) side
          ∙ ap (λ (j : ℕ). j + c % 4 * side) (mul_assoc (c / 4) 4 side ∙ ap (λ (j : ℕ). c / 4 * j) (sym four))

      begins : b * 2 ^ suc (suc k) < 2 ^ n
      begins = omega (arith, place)

      in_block : (j : ℕ) → j < 4 → j * side + u < 2 ^ suc (suc k)
      in_block zero l = omega (arith, four)
      in_block (suc zero) l = omega (arith, four)
      in_block (suc (suc zero)) l = omega (arith, four)
      in_block (suc (suc (suc zero))) l = omega (arith, four)
      in_block (suc (suc (suc (suc j)))) l = absurd (omega arith)

      crossed : (v : ℕ) → v < side → FourCross side (from (b * 2 ^ suc (suc k)) ys) (from (b * 2 ^ suc (suc k)) zs) v
      crossed v l = subst (λ (m : ℕ). FourCross side (from (b * m) ys) (from (b * m) zs) v) (sym four)
          (passed.each b (subst (λ (m : ℕ). b * m < length ys) four (omega (arith, begins, so_far.long))) v l)

      next : walsh k (from (c * side) zs) u ≡ walsh n g (c * side + u)
      next =
          let s = b * 2 ^ suc (suc k) in
          walsh-ext k (from (c * side) zs) (λ v. from s zs (i * side + v)) (λ v l. ap (at zs) (let e : c * side + v ≡ s + (i * side + v) = omega (arith, place) in e)) u
          ∙ sym (quarter k (from s ys) (from s zs) crossed u below i third)
          ∙ so_far.each b (i * side + u) begins (in_block i third)
          ∙ ap (walsh n g) (let e : s + (i * side + u) ≡ c * side + u = omega (arith, place) in e)

    pub transforming-next : Transforming n g k zs
    transforming-next = record {
      few = omega (arith, so_far.few);
      long = passed.long ∙ so_far.long;
      small = passed-small;
      each = λ c u h l. next c h u l;
    }

-- ---- two variables after two

-- Of a block of more than one number, whose variables are of an even number, a quarter is a block with two variables less.
module _ (n : ℕ) (xs : List ℤ) (block : ℕ) (ys : List ℤ) (more : 1 < block) (so_far : InBlocks n xs block ys) where
  fewer : (j : ℕ) × (so_far.pairs ≡ suc j)
  fewer = go so_far.pairs refl
    where
      go : (j : ℕ) → so_far.pairs ≡ j → (i : ℕ) × (so_far.pairs ≡ suc i)
      go zero e = absurd (omega (arith, more, so_far.size ∙ ap (λ (j : ℕ). 2 ^ (j + j)) e))
      go (suc j) e = (j, e)

  abbrev j : ℕ
  j = fewer.0

  all : so_far.pairs + so_far.pairs ≡ suc (suc (j + j))
  all = omega (arith, fewer.1)

  left : Transforming n (at xs) (suc (suc (j + j))) ys
  left = subst (λ (k : ℕ). Transforming n (at xs) k ys) all so_far.left

  quarter-size : block / 4 ≡ 2 ^ (j + j)
  quarter-size = let e : block ≡ 2 ^ suc (suc (j + j)) = so_far.size ∙ ap (λ (k : ℕ). 2 ^ k) all in omega (arith, e)

  pub blocks-asked : Blocks (block / 4) ys
  blocks-asked = rw quarter-size (transforming-blocks n (at xs) (j + j) ys left)

  pub blocks-next : (zs : List ℤ) → Passed (block / 4) ys zs → InBlocks n xs (block / 4) zs
  blocks-next zs p = record {
    pairs = j;
    size = quarter-size;
    left = transforming-next n (at xs) (j + j) ys left zs (subst (λ (q : ℕ). Passed q ys zs) quarter-size p);
  }

-- Before the first pass, where n is even; and after it, where n is odd.
pub blocks-even : (n : ℕ) (xs : List ℤ) → n % 2 ≡ 0 → Transformable n xs → InBlocks n xs (length xs) xs
blocks-even n xs e t =
    let h : n ≡ n / 2 + n / 2 = omega arith in
    record { pairs = n / 2; size = t.long ∙ ap (λ (k : ℕ). 2 ^ k) h; left = subst (λ (k : ℕ). Transforming n (at xs) k xs) h (transforming-start n xs t) }

module _ (n : ℕ) (xs : List ℤ) (odd : n % 2 ≡ 1) (t : Transformable n xs) where
  half : n ≡ suc (n / 2 + n / 2)
  half = omega arith

  half-size : length xs / 2 ≡ 2 ^ (n / 2 + n / 2)
  half-size = let e : length xs ≡ 2 ^ suc (n / 2 + n / 2) = t.long ∙ ap (λ (k : ℕ). 2 ^ k) half in omega (arith, e)

  pub halves-whole : length xs ≡ length xs / 2 + length xs / 2
  halves-whole = let e : length xs ≡ 2 ^ suc (n / 2 + n / 2) = t.long ∙ ap (λ (k : ℕ). 2 ^ k) half in omega (arith, e)

  pub halves_small : Summable 2 xs
  halves_small w =
      let e : 2 ≤ 2 ^ n = rw half (omega (arith, pow_pos (n / 2 + n / 2))) in
      omega (arith, t.small w, mul-le-mul_left (nat_abs (at xs w)) e)

  pub blocks-odd : (ys : List ℤ) → Halved (length xs / 2) xs ys → InBlocks n xs (length xs / 2) ys
  blocks-odd ys m = record {
    pairs = n / 2;
    size = half-size;
    left = subst (λ (k : ℕ). Transforming k (at xs) (n / 2 + n / 2) ys) (sym half)
        (transforming-halved (n / 2 + n / 2) xs ys (subst (λ (k : ℕ). Transformable k xs) half t) (subst (λ (q : ℕ). Halved q xs ys) half-size m));
  }

-- Where a block is one number, all is done.
pub blocks_end : (n : ℕ) (xs : List ℤ) (block : ℕ) (ys : List ℤ) → block ≤ 1 → InBlocks n xs block ys → Transformed n xs ys
blocks_end n xs block ys h t = go t.pairs refl
  where
    go : (j : ℕ) → t.pairs ≡ j → Transformed n xs ys
    go zero e = transforming-end n xs ys (subst (λ (j : ℕ). Transforming n (at xs) (j + j) ys) e t.left)
    go (suc j) e =
        let two : suc j + suc j ≡ suc (suc (j + j)) = omega arith in
        absurd (omega (arith, h, pow_pos (j + j), t.size ∙ ap (λ (i : ℕ). 2 ^ (i + i)) e ∙ ap (λ (i : ℕ). 2 ^ i) two))
