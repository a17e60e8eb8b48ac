-- Lists of whole numbers, one to a point, as the transform finds and leaves them. Read next: crate `autocorrelation`.
use Rattle.std.specs.Prelude.{◌≡◌, List, ℕ, ◌+◌, ◌*◌, ◌^◌, ◌≤◌, ◌<◌, length, get_or, set, ℤ, pos, nat_abs, ◌+ℤ◌, ◌-ℤ◌}
use Rattle.walsh.specs.Walsh.{walsh}

-- The number at a point; past the end of the list there are zeros.
abbrev pub at : List ℤ → ℕ → ℤ
at xs w = get_or xs w (pos 0)

-- k numbers like z may be added and subtracted: 64 bits with a sign hold every result, and one bit is left over.
abbrev pub Summand : ℕ → ℤ → Type 0
Summand k z = nat_abs z * k ≤ 2 ^ 62

-- So may any k numbers of the list.
abbrev pub Summable : ℕ → List ℤ → Type 0
Summable k xs = (w : ℕ) → Summand k (at xs w)

-- ---- the whole transform

-- The list may be transformed: it has one number to a point of n variables, and as many may be added and subtracted.
pub record Transformable (n : ℕ) (xs : List ℤ) : Type 0 where
  pub long : length xs ≡ 2 ^ n
  pub small : Summable (2 ^ n) xs

-- The list ys is the transform of xs: each number equals its defining sum.
pub record Transformed (n : ℕ) (xs ys : List ℤ) : Type 0 where
  pub long : length ys ≡ 2 ^ n
  pub each : (u : ℕ) → u < 2 ^ n → at ys u ≡ walsh n (at xs) u

-- ---- its passes, one or two at a time: numbers a half or a quarter of a block apart are added and subtracted

-- Of two numbers, h apart, the sum and the difference, in place.
abbrev pub pair_crossed : List ℤ → ℕ → ℕ → List ℤ
pair_crossed xs u h = set (set xs u (at xs u +ℤ at xs (u + h))) (u + h) (at xs u -ℤ at xs (u + h))

-- Of four numbers, q apart: those two quarters apart are added and subtracted first, then the results a quarter apart.
abbrev pub four_crossed : List ℤ → ℕ → ℕ → List ℤ
four_crossed xs u q =
    let a = at xs u in
    let b = at xs (u + q) in
    let c = at xs (u + q + q) in
    let d = at xs (u + q + q + q) in
    set
    (set (set (set xs u ((a +ℤ c) +ℤ (b +ℤ d))) (u + q) ((a +ℤ c) -ℤ (b +ℤ d))) (u + q + q) ((a -ℤ c) +ℤ (b -ℤ d)))
    (u + q + q + q)
    ((a -ℤ c) -ℤ (b -ℤ d))

-- The two numbers, or the four, are in the list, and may be added and subtracted.
pub record PairCrossable (xs : List ℤ) (u h : ℕ) : Type 0 where
  pub inside : u + h < length xs
  pub first : Summand 2 (at xs u)
  pub second : Summand 2 (at xs (u + h))

pub record FourCrossable (xs : List ℤ) (u q : ℕ) : Type 0 where
  pub inside : u + q + q + q < length xs
  pub first : Summand 4 (at xs u)
  pub second : Summand 4 (at xs (u + q))
  pub third : Summand 4 (at xs (u + q + q))
  pub fourth : Summand 4 (at xs (u + q + q + q))

-- At u and its fellow, k holds the sum and the difference of the numbers of g.
pub record PairCross (h : ℕ) (g k : ℕ → ℤ) (u : ℕ) : Type 0 where
  pub first : k u ≡ g u +ℤ g (u + h)
  pub second : k (u + h) ≡ g u -ℤ g (u + h)

-- At u and its three fellows, k holds the sums and differences of the four numbers of g.
pub record FourCross (q : ℕ) (g k : ℕ → ℤ) (u : ℕ) : Type 0 where
  pub first : k u ≡ (g u +ℤ g (u + q + q)) +ℤ (g (u + q) +ℤ g (u + q + q + q))
  pub second : k (u + q) ≡ (g u +ℤ g (u + q + q)) -ℤ (g (u + q) +ℤ g (u + q + q + q))
  pub third : k (u + q + q) ≡ (g u -ℤ g (u + q + q)) +ℤ (g (u + q) -ℤ g (u + q + q + q))
  pub fourth : k (u + q + q + q) ≡ (g u -ℤ g (u + q + q)) -ℤ (g (u + q) -ℤ g (u + q + q + q))

-- All numbers of a list of two halves are crossed, or of four quarters.
pub record Halved (h : ℕ) (xs ys : List ℤ) : Type 0 where
  pub long : length ys ≡ length xs
  pub each : (u : ℕ) → u < h → PairCross h (at xs) (at ys) u

pub record Quartered (q : ℕ) (xs ys : List ℤ) : Type 0 where
  pub long : length ys ≡ length xs
  pub each : (u : ℕ) → u < q → FourCross q (at xs) (at ys) u

-- The numbers of the list from place s on.
abbrev pub from : ℕ → List ℤ → ℕ → ℤ
from s xs v = at xs (s + v)

-- The list is made of one or more blocks of four times q numbers, which may be added and subtracted by fours.
pub record Blocks (q : ℕ) (xs : List ℤ) : Type 0 where
  pub some : 0 < q
  pub one : 4 * q ≤ length xs
  pub blocks : ℕ
  pub whole : length xs ≡ blocks * (4 * q)
  pub small : Summable 4 xs

-- All numbers of each block are crossed.
pub record Passed (q : ℕ) (xs ys : List ℤ) : Type 0 where
  pub long : length ys ≡ length xs
  pub each : (b : ℕ) → b * (4 * q) < length xs → (u : ℕ) → u < q → FourCross q (from (b * (4 * q)) xs) (from (b * (4 * q)) ys) u

-- ---- what holds between passes

-- With k variables left, each block of 2 ^ k numbers of ys still has to be transformed, and gives its part of the transform of g; and that many of its
-- numbers may be added and subtracted.
pub record Transforming (n : ℕ) (g : ℕ → ℤ) (k : ℕ) (ys : List ℤ) : Type 0 where
  pub few : k ≤ n
  pub long : length ys ≡ 2 ^ n
  pub small : Summable (2 ^ k) ys
  pub each : (b u : ℕ) → b * 2 ^ k < 2 ^ n → u < 2 ^ k → walsh k (from (b * 2 ^ k) ys) u ≡ walsh n g (b * 2 ^ k + u)

-- The same of blocks of this size, with an even number of variables left, so that two passes at a time end the transform of xs.
pub record InBlocks (n : ℕ) (xs : List ℤ) (block : ℕ) (ys : List ℤ) : Type 0 where
  pub pairs : ℕ
  pub size : block ≡ 2 ^ (pairs + pairs)
  pub left : Transforming n (at xs) (pairs + pairs) ys
