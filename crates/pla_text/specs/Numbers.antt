-- Decimal numbers. Read next: Statements.
use Rattle.std.specs.Prelude.{Bool, cond, ◌&&◌, List, [], ◌∷◌, ℕ, ◌+◌, ◌*◌, ◌-◌, leb, ltb}
use Rattle.std.specs.Prelude.{Option, None, Some}

-- Numbers are below this.
abbrev pub number_limit : ℕ
number_limit = 1000000000

-- A decimal digit, and its worth.
abbrev pub is_digit : ℕ → Bool
is_digit byte = leb 48 byte && leb byte 57

-- A number with one digit more. A byte that is no digit gives no number, and neither does a number that has become too large.
unfoldable pub with_digit : ℕ → ℕ → Option ℕ
with_digit value byte = cond (is_digit byte && ltb (10 * value + (byte - 48)) number_limit) (Some (10 * value + (byte - 48))) None

-- The digits of a word after those that are worth the value, if they are.
unfoldable pub number_from : Option ℕ → List ℕ → Option ℕ
number_from value [] = value
number_from None (byte ∷ rest) = None
number_from (Some value) (byte ∷ rest) = number_from (with_digit value byte) rest

-- The number that a word stands for.
abbrev pub number_of : List ℕ → Option ℕ
number_of word = number_from (Some 0) word
