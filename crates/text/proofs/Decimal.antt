-- What a number in decimal is: its digits are bytes `0` to `9`, their value is the number, there is no zero in front, and a number below 10 ^ k has
-- at most k digits. Read next: Pieces.
use mathlib.Core.Path.{◌≡◌, refl, sym, ap, ◌∙◌}
use mathlib.Core.Logic.{inl, inr}
use mathlib.Core.List.{List, [], ◌∷◌, ◌++◌}
use Prim.Native.Nat.{ℕ, zero, suc, ◌+◌, ◌-◌, ◌*◌, ◌/◌, ◌%◌, ◌^◌, ◌≤◌, ◌<◌}
use native.Mathlib.Decide.{dec_lt}
use native.Mathlib.Omega.{arith}
use lib.ListN.{length, get_or, length-append, get_or-append}
use borrow.Author.Tests.{lt-ltb, le-ltb}
use Rattle.gf2.specs.Finite.{Mem}
use Rattle.text.specs.Decimal.{digit, decimal_in, decimal}

-- A number below 10 is one digit.
digits-one : (k n : ℕ) → n < 10 → decimal_in k n ≡ digit n ∷ []
unfolding decimal_in
digits-one zero n h = refl
digits-one (suc k) n h = rw (lt-ltb n 10 h)

-- Of any other number the digits of a tenth come first.
digits_more : (k n : ℕ) → 10 ≤ n → decimal_in (suc k) n ≡ decimal_in k (n / 10) ++ (digit (n % 10) ∷ [])
unfolding decimal_in
digits_more k n h = rw (le-ltb n 10 h)

-- With enough divisions their number does not matter.
digits-enough : (j k n : ℕ) → n ≤ j → n ≤ k → decimal_in j n ≡ decimal_in k n
digits-enough zero k n h g = digits-one 0 n (omega arith) ∙ sym (digits-one k n (omega arith))
digits-enough (suc j) zero n h g = digits-one (suc j) n (omega arith) ∙ sym (digits-one 0 n (omega arith))
digits-enough (suc j) (suc k) n h g = go (dec_lt n 10) (λ t. digits-enough j k (n / 10) (omega arith) (omega arith))
  where
    go : Dec (n < 10) → (10 ≤ n → decimal_in j (n / 10) ≡ decimal_in k (n / 10)) → decimal_in (suc j) n ≡ decimal_in (suc k) n
    go (yes l) same = digits-one (suc j) n l ∙ sym (digits-one (suc k) n l)
    go (no l) same = rw (digits_more j n (omega arith), digits_more k n (omega arith), same (omega arith))

pub decimal-one : (n : ℕ) → n < 10 → decimal n ≡ digit n ∷ []
unfolding decimal
decimal-one n h = digits-one n n h

pub decimal-more : (n : ℕ) → 10 ≤ n → decimal n ≡ decimal (n / 10) ++ (digit (n % 10) ∷ [])
unfolding decimal
decimal-more zero h = absurd (omega arith)
decimal-more (suc k) h = rw (digits_more k (suc k) h, digits-enough k (suc k / 10) (suc k / 10) (omega arith) (omega arith))

-- What holds of one digit, and of a number where it holds of a tenth of it, holds of every number.
by-tenths : (P : ℕ → Type 0) → ((n : ℕ) → n < 10 → P n) → ((n : ℕ) → 10 ≤ n → P (n / 10) → P n) → (n : ℕ) → P n
by-tenths P one more n = below n n (omega arith)
  where
    below : (k m : ℕ) → m ≤ k → P m
    below zero m h = one m (omega arith)
    below (suc k) m h = elim (dec_lt m 10) [ yes l ↦ one m l | no l ↦ more m (omega arith) (below k (m / 10) (omega arith)) ]

-- The value of digits, the first the most significant, after digits of the given value.
unfoldable pub value_from : ℕ → List ℕ → ℕ
value_from before [] = before
value_from before (d ∷ ds) = value_from (10 * before + (d - digit 0)) ds

value-last : (before : ℕ) (ds : List ℕ) (d : ℕ) → value_from before (ds ++ (d ∷ [])) ≡ 10 * value_from before ds + (d - digit 0)
unfolding value_from
value-last before [] d = refl
value-last before (c ∷ ds) d = value-last (10 * before + (c - digit 0)) ds d

-- The digits of n have the value n.
pub decimal-value : (n : ℕ) → value_from 0 (decimal n) ≡ n
unfolding value_from
decimal-value = by-tenths (λ n. value_from 0 (decimal n) ≡ n) (λ n h. ap (value_from 0) (decimal-one n h) ∙ omega arith) (λ n h e. ap (value_from 0) (decimal-more n h) ∙ value-last 0 (decimal (n / 10)) (digit (n % 10)) ∙ omega (arith, e))

-- A number has a digit, and the first is no zero unless the number is 0.
pub decimal-some : (n : ℕ) → 0 < length (decimal n)
decimal-some = by-tenths (λ n. 0 < length (decimal n)) (λ n h. rw (decimal-one n h) (omega arith)) (λ n h e. rw (decimal-more n h) (omega (arith, length-append (decimal (n / 10)) (digit (n % 10) ∷ []))))

pub decimal-first : (n : ℕ) → 0 < n → digit 0 < get_or (decimal n) 0 0
decimal-first =
    by-tenths (λ n. 0 < n → digit 0 < get_or (decimal n) 0 0)
    (λ n h some. rw (decimal-one n h) (omega arith))
    (λ n h e some. rw (decimal-more n h, get_or-append (decimal (n / 10)) (digit (n % 10) ∷ []) 0 0 (decimal-some (n / 10))) (e (omega arith)))

-- Every digit is a byte from `0` to `9`.
pub decimal-digits : (n d : ℕ) → Mem d (decimal n) → (digit 0 ≤ d) × (d ≤ digit 9)
decimal-digits n d = by-tenths (λ m. Mem d (decimal m) → (digit 0 ≤ d) × (d ≤ digit 9)) one more n
  where
    last : (ds : List ℕ) (c : ℕ) → c < 10 → (Mem d ds → (digit 0 ≤ d) × (d ≤ digit 9)) → Mem d (ds ++ (digit c ∷ [])) → (digit 0 ≤ d) × (d ≤ digit 9)
    last [] c h f (inl e) = (omega arith, omega arith)
    last [] c h f (inr m) = absurd m
    last (b ∷ ds) c h f (inl e) = f (inl e)
    last (b ∷ ds) c h f (inr m) = last ds c h (λ k. f (inr k)) m

    one : (m : ℕ) → m < 10 → Mem d (decimal m) → (digit 0 ≤ d) × (d ≤ digit 9)
    one m h i = last [] m h (λ k. absurd k) (rw (decimal-one m h) at i)

    more : (m : ℕ) → 10 ≤ m → (Mem d (decimal (m / 10)) → (digit 0 ≤ d) × (d ≤ digit 9)) → Mem d (decimal m) → (digit 0 ≤ d) × (d ≤ digit 9)
    more m h f i = last (decimal (m / 10)) (m % 10) (omega arith) f (rw (decimal-more m h) at i)

-- A number below 10 ^ k has at most k digits, for k of 1 or more.
pub decimal-length : (k n : ℕ) → n < 10 ^ suc k → length (decimal n) ≤ suc k
decimal-length zero n h = rw (decimal-one n (omega arith)) (omega arith)
decimal-length (suc k) n h = go (dec_lt n 10) (λ t. decimal-length k (n / 10) t)
  where
    go : Dec (n < 10) → (n / 10 < 10 ^ suc k → length (decimal (n / 10)) ≤ suc k) → length (decimal n) ≤ suc (suc k)
    go (yes l) f = rw (decimal-one n l) (omega arith)
    go (no l) f = rw (decimal-more n (omega arith)) (omega (arith, length-append (decimal (n / 10)) (digit (n % 10) ∷ []), f (omega arith)))
