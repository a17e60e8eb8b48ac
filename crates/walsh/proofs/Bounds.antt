-- How far from 0 sums, differences, squares and transforms lie, and that 64 bits with a sign hold them. Read next: Crossing.
use mathlib.Core.Path.{◌≡◌, refl}
use mathlib.Core.Bool.{Bool, true, false, cond}
use Prim.Native.Nat.{ℕ, zero, suc, ◌+◌, ◌-◌, ◌*◌, ◌^◌, ◌≤◌, ◌<◌}
use native.Mathlib.Nat.{lt-suc_self, suc-mul}
use native.Mathlib.Omega.{arith}
use lib.Dec.{ltb}
use lib.IntN.{ℤ, pos, negsuc, neg_ℤ, nat_abs, sub_ℕ, ◌+ℤ◌, ◌-ℤ◌, ◌*ℤ◌}
use lib.Signed.{mag}
use mir.Syntax.{w64}
use mir.Val.{SFits}
use borrow.Author.Tests.{ltb-true}
use Rattle.gf2.specs.Parity.{odd}
use Rattle.walsh.specs.Sums.{negated_if, total}
use Rattle.walsh.specs.Walsh.{walsh}

-- ---- how far from 0

mag-far : (z : ℤ) → mag z ≤ nat_abs z
mag-far (pos n) = omega arith
mag-far (negsuc n) = omega arith

neg-far : (z : ℤ) → nat_abs (neg_ℤ z) ≡ nat_abs z
neg-far (pos zero) = refl
neg-far (pos (suc n)) = refl
neg-far (negsuc n) = refl

pub negated-far : (t : Bool) (z : ℤ) → nat_abs (negated_if t z) ≡ nat_abs z
negated-far true z = neg-far z
negated-far false z = refl

subtracted-far : (a b : ℕ) → nat_abs (sub_ℕ a b) ≤ a + b
subtracted-far a b = go (ltb a b) refl
  where
    go : (t : Bool) → ltb a b ≡ t → nat_abs (cond t (negsuc (b - suc a)) (pos (a - b))) ≤ a + b
    go true e = omega (arith, ltb-true a b e)
    go false e = omega arith

pub sum-far : (x y : ℤ) → nat_abs (x +ℤ y) ≤ nat_abs x + nat_abs y
sum-far (pos a) (pos b) = omega arith
sum-far (pos a) (negsuc b) = subtracted-far a (suc b)
sum-far (negsuc a) (pos b) = omega (arith, subtracted-far b (suc a))
sum-far (negsuc a) (negsuc b) = omega arith

pub difference-far : (x y : ℤ) → nat_abs (x -ℤ y) ≤ nat_abs x + nat_abs y
difference-far x y = omega (arith, sum-far x (neg_ℤ y), neg-far y)

pub square-far : (z : ℤ) → nat_abs (z *ℤ z) ≡ nat_abs z * nat_abs z
square-far (pos n) = refl
square-far (negsuc n) = refl

-- ---- a transform lies at most 2 ^ n times as far as the numbers

total-far : (g : ℕ → ℤ) (m k : ℕ) → ((w : ℕ) → w < k → nat_abs (g w) ≤ m) → nat_abs (total g k) ≤ k * m
unfolding total
total-far g m zero h = omega arith
total-far g m (suc k) h = omega (arith, sum-far (total g k) (g k), total-far g m k (λ w l. h w (omega arith)), h k (lt-suc_self k), suc-mul k m)

pub walsh-far : (n : ℕ) (g : ℕ → ℤ) (m : ℕ) → ((w : ℕ) → w < 2 ^ n → nat_abs (g w) ≤ m) → (u : ℕ) → nat_abs (walsh n g u) ≤ 2 ^ n * m
unfolding walsh
walsh-far n g m h u = total-far (λ w. negated_if (odd u w) (g w)) m (2 ^ n) (λ w l. rw (negated-far (odd u w) (g w)) (h w l))

-- ---- 64 bits with a sign hold what lies at most 2 ^ 62 from 0

pub fits : (z : ℤ) → nat_abs z ≤ 2 ^ 62 → SFits w64 z
fits z h = record { sfits = omega (arith, mag-far z) }
