-- A number in decimal: its digits in ASCII, the most significant first, with no zero in front. That this is the number is `decimal-value`.
-- Read next: Pieces.
use Rattle.std.specs.Prelude.{cond, List, [], ◌∷◌, ◌++◌, ℕ, zero, suc, ◌+◌, ◌/◌, ◌%◌, ltb}

-- The byte of a digit: `0` is 48.
abbrev pub digit : ℕ → ℕ
digit d = 48 + d

-- The digits of n in decimal, where at most the given number of divisions by 10 is made.
unfoldable pub decimal_in : ℕ → ℕ → List ℕ
decimal_in zero n = digit n ∷ []
decimal_in (suc divisions) n = cond (ltb n 10) (digit n ∷ []) (decimal_in divisions (n / 10) ++ (digit (n % 10) ∷ []))

-- The digits of n in decimal. n divisions by 10 are more than enough.
unfoldable pub decimal : ℕ → List ℕ
decimal n = decimal_in n n
