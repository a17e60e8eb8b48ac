-- Whole numbers with a sign: negation by a test, and sums. Read next: Walsh.
use Rattle.std.specs.Prelude.{Bool, true, false, ℕ, zero, suc, ℤ, pos, neg_ℤ, ◌+ℤ◌}

-- z, negated if the test says so.
abbrev pub negated_if : Bool → ℤ → ℤ
negated_if true z = neg_ℤ z
negated_if false z = z

-- The sum of g 0 to g (k - 1).
unfoldable pub total : (ℕ → ℤ) → ℕ → ℤ
total g zero = pos 0
total g (suc k) = total g k +ℤ g k
