-- `walsh::cross_pair` meets its contract: sum and difference fit, so that a machine number read back is the number itself. Assumes nothing.
use mathlib.Core.Path.{◌≡◌}
use mathlib.Core.List.{List}
use Prim.Native.Nat.{ℕ, ◌+◌}
use lib.ListN.{length-set}
use lib.IntN.{ℤ, ◌+ℤ◌, ◌-ℤ◌}
use mir.Syntax.{w64}
use mir.Val.{SFits, to_z, of_z}
use mir.ValLaws.{to_z-of_z}
use Rattle.walsh.specs.Numbers.{at, PairCrossable}
use Rattle.walsh.proofs.Crossing.{pair_fits, pair-sum-fits, pair-difference-fits}
use Rattle.walsh.proofs.cross_pair.Reads as reads
use Rattle.walsh.proofs.cross_pair.Lts as lts
use Rattle.walsh.proofs.cross_pair.Goals as goal

-- Once both are read: the numbers, and what is known of them.
module _ (c : lts.After-b reads.Pre reads.Post) where
  abbrev numbers : List ℤ
  numbers = c.before.before.args.numbers.now

  abbrev u : ℕ
  u = c.before.before.args.u

  abbrev h : ℕ
  h = c.before.before.args.half

  abbrev asked : PairCrossable numbers u h
  asked = c.before.before.requires

  abbrev n₁ : ℤ
  n₁ = at numbers u

  abbrev n₂ : ℤ
  n₂ = at numbers (u + h)

  -- The machine's numbers, read back.
  back₁ : to_z w64 (of_z w64 n₁) ≡ n₁
  back₁ = to_z-of_z w64 n₁ (pair_fits n₁ asked.first)

  back₂ : to_z w64 (of_z w64 n₂) ≡ n₂
  back₂ = to_z-of_z w64 n₂ (pair_fits n₂ asked.second)

  sum_fits : SFits w64 (n₁ +ℤ n₂)
  sum_fits = pair-sum-fits n₁ n₂ asked.first asked.second

  difference-fits : SFits w64 (n₁ -ℤ n₂)
  difference-fits = pair-difference-fits n₁ n₂ asked.first asked.second

pub overflow_add-numbers : goal.overflow_add-numbers
overflow_add-numbers c = rw (back₁ c, back₂ c) (sum_fits c)

pub overflow_sub-numbers : goal.overflow_sub-numbers
overflow_sub-numbers c = rw (back₁ c, back₂ c) (difference-fits c)

pub bounds-numbers-v : goal.bounds-numbers-v
bounds-numbers-v c = simp length-set (asked c).inside

pub returns : goal.returns
returns c = rw (back₁ c, back₂ c, to_z-of_z w64 _ (sum_fits c), to_z-of_z w64 _ (difference-fits c))
