-- `walsh::cross_four` meets its contract: each sum and difference fits, so that a machine number read back is the number itself. Assumes nothing.
use mathlib.Core.Path.{◌≡◌}
use mathlib.Core.List.{List}
use Prim.Native.Nat.{ℕ, ◌+◌}
use native.Mathlib.Omega.{arith}
use lib.ListN.{length-set}
use lib.IntN.{ℤ, ◌+ℤ◌, ◌-ℤ◌}
use mir.Syntax.{w64}
use mir.Val.{SFits, to_z, of_z}
use mir.ValLaws.{to_z-of_z}
use Rattle.walsh.specs.Numbers.{at, FourCrossable}
use Rattle.walsh.proofs.Crossing.{summand-fits, sum_fits, difference-fits, sums-fit, sums-apart-fit, differences-fit, differences-apart-fit}
use Rattle.walsh.proofs.cross_four.Reads as reads
use Rattle.walsh.proofs.cross_four.Lts as lts
use Rattle.walsh.proofs.cross_four.Goals as goal

-- Once all four are read: the numbers, and what is known of them.
module _ (c : lts.After-d reads.Pre reads.Post) where
  abbrev numbers : List ℤ
  numbers = c.before.before.before.before.args.numbers.now

  abbrev u : ℕ
  u = c.before.before.before.before.args.u

  abbrev q : ℕ
  q = c.before.before.before.before.args.quarter

  abbrev asked : FourCrossable numbers u q
  asked = c.before.before.before.before.requires

  abbrev n₁ : ℤ
  n₁ = at numbers u

  abbrev n₂ : ℤ
  n₂ = at numbers (u + q)

  abbrev n₃ : ℤ
  n₃ = at numbers (u + q + q)

  abbrev n₄ : ℤ
  n₄ = at numbers (u + q + q + q)

  -- The machine's numbers, read back.
  back₁ : to_z w64 (of_z w64 n₁) ≡ n₁
  back₁ = to_z-of_z w64 n₁ (summand-fits n₁ asked.first)

  back₂ : to_z w64 (of_z w64 n₂) ≡ n₂
  back₂ = to_z-of_z w64 n₂ (summand-fits n₂ asked.second)

  back₃ : to_z w64 (of_z w64 n₃) ≡ n₃
  back₃ = to_z-of_z w64 n₃ (summand-fits n₃ asked.third)

  back₄ : to_z w64 (of_z w64 n₄) ≡ n₄
  back₄ = to_z-of_z w64 n₄ (summand-fits n₄ asked.fourth)

  -- Sums and differences of two fit, and are read back.
  even-sum-fits : SFits w64 (n₁ +ℤ n₃)
  even-sum-fits = sum_fits n₁ n₃ asked.first asked.third

  odd-sum-fits : SFits w64 (n₂ +ℤ n₄)
  odd-sum-fits = sum_fits n₂ n₄ asked.second asked.fourth

  even-difference-fits : SFits w64 (n₁ -ℤ n₃)
  even-difference-fits = difference-fits n₁ n₃ asked.first asked.third

  odd-difference-fits : SFits w64 (n₂ -ℤ n₄)
  odd-difference-fits = difference-fits n₂ n₄ asked.second asked.fourth

  even_sum : to_z w64 (of_z w64 (n₁ +ℤ n₃)) ≡ n₁ +ℤ n₃
  even_sum = to_z-of_z w64 (n₁ +ℤ n₃) even-sum-fits

  odd-sum : to_z w64 (of_z w64 (n₂ +ℤ n₄)) ≡ n₂ +ℤ n₄
  odd-sum = to_z-of_z w64 (n₂ +ℤ n₄) odd-sum-fits

  even-difference : to_z w64 (of_z w64 (n₁ -ℤ n₃)) ≡ n₁ -ℤ n₃
  even-difference = to_z-of_z w64 (n₁ -ℤ n₃) even-difference-fits

  odd-difference : to_z w64 (of_z w64 (n₂ -ℤ n₄)) ≡ n₂ -ℤ n₄
  odd-difference = to_z-of_z w64 (n₂ -ℤ n₄) odd-difference-fits

  -- So do those of four.
  first_fits : SFits w64 ((n₁ +ℤ n₃) +ℤ (n₂ +ℤ n₄))
  first_fits = sums-fit n₁ n₂ n₃ n₄ asked.first asked.second asked.third asked.fourth

  second_fits : SFits w64 ((n₁ +ℤ n₃) -ℤ (n₂ +ℤ n₄))
  second_fits = sums-apart-fit n₁ n₂ n₃ n₄ asked.first asked.second asked.third asked.fourth

  third-fits : SFits w64 ((n₁ -ℤ n₃) +ℤ (n₂ -ℤ n₄))
  third-fits = differences-fit n₁ n₂ n₃ n₄ asked.first asked.second asked.third asked.fourth

  fourth-fits : SFits w64 ((n₁ -ℤ n₃) -ℤ (n₂ -ℤ n₄))
  fourth-fits = differences-apart-fit n₁ n₂ n₃ n₄ asked.first asked.second asked.third asked.fourth

pub overflow_add-even_sum : goal.overflow_add-even_sum
overflow_add-even_sum c = rw (back₁ c, back₃ c) (even-sum-fits c)

pub overflow_add-odd_sum : goal.overflow_add-odd_sum
overflow_add-odd_sum c = rw (back₂ c, back₄ c) (odd-sum-fits c)

pub overflow_sub-even_difference : goal.overflow_sub-even_difference
overflow_sub-even_difference c = rw (back₁ c, back₃ c) (even-difference-fits c)

pub overflow_sub-odd_difference : goal.overflow_sub-odd_difference
overflow_sub-odd_difference c = rw (back₂ c, back₄ c) (odd-difference-fits c)

pub overflow_add-numbers : goal.overflow_add-numbers
overflow_add-numbers c = rw (back₁ c, back₂ c, back₃ c, back₄ c, even_sum c, odd-sum c) (first_fits c)

pub overflow_sub-numbers : goal.overflow_sub-numbers
overflow_sub-numbers c = rw (back₁ c, back₂ c, back₃ c, back₄ c, even_sum c, odd-sum c) (second_fits c)

pub bounds-numbers-v : goal.bounds-numbers-v
bounds-numbers-v c = simp length-set (omega (arith, (asked c).inside))

pub overflow_add-numbers-2 : goal.overflow_add-numbers-2
overflow_add-numbers-2 c = rw (back₁ c, back₂ c, back₃ c, back₄ c, even-difference c, odd-difference c) (third-fits c)

pub bounds-numbers-w : goal.bounds-numbers-w
bounds-numbers-w c = simp length-set (omega (arith, (asked c).inside))

pub overflow_sub-numbers-2 : goal.overflow_sub-numbers-2
overflow_sub-numbers-2 c = rw (back₁ c, back₂ c, back₃ c, back₄ c, even-difference c, odd-difference c) (fourth-fits c)

pub returns : goal.returns
returns c = rw (
  back₁ c,
  back₂ c,
  back₃ c,
  back₄ c,
  even_sum c,
  odd-sum c,
  even-difference c,
  odd-difference c,
  to_z-of_z w64 _ (first_fits c),
  to_z-of_z w64 _ (second_fits c),
  to_z-of_z w64 _ (third-fits c),
  to_z-of_z w64 _ (fourth-fits c),
)
