-- The tests of a table, n variables with a list of on points and a list of free points, and what an accepted table is
-- (document 01, "Points and spaces" and "Refusal numbers"). A call that takes on points alone has no free points. Read next: Flags.
use Rattle.std.specs.Prelude.{Bool, false, ◌||◌, List, [], ◌∷◌, ℕ, ◌^◌, ◌≤◌, ◌<◌, eqb, leb, ltb}
use Rattle.gf2.specs.Limits.{max_variables}
use Rattle.gf2.specs.Finite.{Mem, holds, Rising}
use Rattle.table.specs.Refusal.{Test, test, first_fault, variables_fault, point_fault, order_fault, shared_fault}

-- Refusal 1: n is 0 or above the largest number of variables.
unfoldable pub bad_count : ℕ → Bool
bad_count n = eqb n 0 || ltb max_variables n

-- Refusal 2: a point of the list is 2 ^ n or more.
unfoldable pub outside : ℕ → List ℕ → Bool
outside n [] = false
outside n (p ∷ ps) = leb (2 ^ n) p || outside n ps

-- The list begins with a point that isn't greater than p, the point before it.
unfoldable pub not_above : ℕ → List ℕ → Bool
not_above p [] = false
not_above p (q ∷ qs) = leb q p

-- Refusal 3: a point isn't greater than the one before it in its list.
unfoldable pub unordered : List ℕ → Bool
unordered [] = false
unordered (p ∷ ps) = not_above p ps || unordered ps

-- Refusal 4: a point stands in both lists.
unfoldable pub shared : List ℕ → List ℕ → Bool
shared [] free = false
shared (p ∷ on) free = holds free p || shared on free

-- The tests of a table in the order of document 01, "Refusal numbers", each over both lists before the next.
unfoldable pub table_tests : ℕ → List ℕ → List ℕ → List Test
table_tests n on free =
    test variables_fault (bad_count n) ∷
    test point_fault (outside n on || outside n free) ∷
    test order_fault (unordered on || unordered free) ∷
    test shared_fault (shared on free) ∷
    []

-- The refusal number of a table, or 0 where it has none.
unfoldable pub table_fault : ℕ → List ℕ → List ℕ → ℕ
table_fault n on free = first_fault (table_tests n on free)

-- An accepted table (document 01, "Primes"): none of refusals 1 to 4 applies to it. That these are the tables without a refusal is
-- `accepted` and `no-refusal`.
pub record Accepted (n : ℕ) (on free : List ℕ) : Type 0 where
  pub some : 1 ≤ n
  pub few : n ≤ max_variables
  pub on_below : (p : ℕ) → Mem p on → p < 2 ^ n
  pub free-below : (p : ℕ) → Mem p free → p < 2 ^ n
  pub on-rising : Rising on
  pub free-rising : Rising free
  pub apart : (p : ℕ) → Mem p on → Mem p free → ⊥
