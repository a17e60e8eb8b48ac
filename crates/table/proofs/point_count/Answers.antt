-- `table::point_count` meets its contract: 2 ^ 12 moved down 12 - n places is 2 ^ n and fits 16 digits. Assumes nothing.
use mathlib.Core.Path.{◌≡◌, ap, ◌∙◌}
use Prim.Native.Nat.{ℕ, ◌+◌, ◌-◌, ◌/◌, ◌^◌, ◌≤◌}
use native.Mathlib.Omega.{arith}
use lib.Pow.{pow-add, shl-shr, shr_le}
use borrow.Author.Rules.{rules}
use Rattle.gf2.specs.Limits.{max_variables}
use Rattle.table.proofs.point_count.Goals as goal

-- 2 ^ m moved down m - n places.
moved : (m n : ℕ) → n ≤ m → 2 ^ m / 2 ^ (m - n) ≡ 2 ^ n
moved m n h =
    let e : m ≡ n + (m - n) = omega arith in
    ap (λ (k : ℕ). 2 ^ k / 2 ^ (m - n)) e ∙ rw (pow-add 2 n (m - n)) (shl-shr (2 ^ n) (m - n))

pub overflow_cast-result : goal.overflow_cast-result
overflow_cast-result c = omega (arith, shr_le (2 ^ max_variables) (max_variables - c.args.n))

pub returns : goal.returns
returns c = moved max_variables c.args.n (search rules)
