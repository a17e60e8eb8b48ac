-- Members of a list, rising lists, tests over a list and over all numbers below a bound, and the numbers below a bound that pass a test. Read next: Bits.
use Rattle.std.specs.Prelude.{◌≡◌, Bool, true, false, cond, ◌&&◌, ◌||◌, ◌⊎◌, List, [], ◌∷◌, ◌++◌, ℕ, zero, suc, ◌^◌, ◌≤◌, ◌<◌, eqb}

-- x stands in the list.
abbrev pub Mem : {A : Type 0} → A → List A → Type 0
Mem x [] = ⊥
Mem x (b ∷ bs) = (x ≡ b) ⊎ Mem x bs

-- x stands in the list of numbers, as a test.
unfoldable pub holds : List ℕ → ℕ → Bool
holds [] x = false
holds (y ∷ ys) x = eqb y x || holds ys x

-- Each element of the list stands in the relation to all that follow it; in a rising list each number is below them.
abbrev pub Ordered : {A : Type 0} → (A → A → Type 0) → List A → Type 0
Ordered R [] = Unit {0}
Ordered {A} R (a ∷ l) = ((b : A) → Mem b l → R a b) × Ordered R l

abbrev pub Rising : List ℕ → Type 0
Rising ps = Ordered ◌<◌ ps

-- Every element of the list passes the test.
abbrev pub every : {A : Type 0} → (A → Bool) → List A → Bool
every t [] = true
every t (x ∷ xs) = t x && every t xs

-- Every number below k passes the test.
unfoldable pub all : (ℕ → Bool) → ℕ → Bool
all f zero = true
all f (suc k) = f k && all f k

-- The numbers below k that pass the test, rising.
unfoldable pub select : (ℕ → Bool) → ℕ → List ℕ
select f zero = []
select f (suc k) = cond (f k) (select f k ++ (k ∷ [])) (select f k)

-- x is the first number from low on, below high, that passes the test, or high if none does.
pub record First (f : ℕ → Bool) (low high x : ℕ) : Type 0 where
  pub from : low ≤ x
  pub until : x ≤ high
  pub before : (y : ℕ) → low ≤ y → y < x → f y ≡ false
  pub passes : x < high → f x ≡ true

-- The set of points of n variables that a test gives: a point is a number below 2 ^ n.
abbrev pub In : ℕ → (ℕ → Bool) → ℕ → Type 0
In n P x = (x < 2 ^ n) × (P x ≡ true)
