-- The numbers of candidates of no variables to six: document 01's, computed from the law for any number of variables. Read next: Degrees.
use mathlib.Core.Path.{◌≡◌, refl, sym, ap, ap₂, ◌∙◌, subst}
use mathlib.Core.List.{List, [], ◌∷◌, map, flat_map}
use Prim.Native.Nat.{ℕ, zero, suc, ◌≤◌}
use native.Mathlib.Omega.{arith}
use lib.Dec.{leb}
use lib.ListN.{get_or}
use borrow.Author.Tests.{leb-true}
use Rattle.gf2.specs.Bits.{bit, halvings, lead}
use Rattle.gf2.specs.Finite.{all, select}
use Rattle.gf2.proofs.Finite.{all-at}
use Rattle.cubes.specs.Lists.{keep}
use Rattle.cubes.specs.Candidates.{bases, candidate_count}
use Rattle.cubes.proofs.Counts.{total, candidates-total}

totals : map (λ n. total n n) (0 ∷ 1 ∷ 2 ∷ 3 ∷ 4 ∷ 5 ∷ 6 ∷ []) ≡ 1 ∷ 3 ∷ 11 ∷ 51 ∷ 307 ∷ 2451 ∷ 26387 ∷ []
unfolding total bases flat_map keep select bit halvings lead
totals = refl

each : (ns : List ℕ) → map candidate_count ns ≡ map (λ n. total n n) ns
each [] = refl
each (n ∷ ns) = ap₂ ◌∷◌ (candidates-total n) (each ns)

-- One candidate without variables, and 3, 11, 51, 307, 2,451 and 26,387 for one to six variables.
pub counts : map candidate_count (0 ∷ 1 ∷ 2 ∷ 3 ∷ 4 ∷ 5 ∷ 6 ∷ []) ≡ 1 ∷ 3 ∷ 11 ∷ 51 ∷ 307 ∷ 2451 ∷ 26387 ∷ []
counts = each (0 ∷ 1 ∷ 2 ∷ 3 ∷ 4 ∷ 5 ∷ 6 ∷ []) ∙ totals

-- The same for one number of variables.
pub count_at : (n : ℕ) → n ≤ 6 → candidate_count n ≡ get_or (1 ∷ 3 ∷ 11 ∷ 51 ∷ 307 ∷ 2451 ∷ 26387 ∷ []) n 0
count_at zero h = ap (λ l. get_or l 0 0) counts
count_at (suc zero) h = ap (λ l. get_or l 1 0) counts
count_at (suc (suc zero)) h = ap (λ l. get_or l 2 0) counts
count_at (suc (suc (suc zero))) h = ap (λ l. get_or l 3 0) counts
count_at (suc (suc (suc (suc zero)))) h = ap (λ l. get_or l 4 0) counts
count_at (suc (suc (suc (suc (suc zero))))) h = ap (λ l. get_or l 5 0) counts
count_at (suc (suc (suc (suc (suc (suc zero)))))) h = ap (λ l. get_or l 6 0) counts
count_at (suc (suc (suc (suc (suc (suc (suc n))))))) h = absurd (omega arith)

-- There are at most as many candidates as six variables have.
pub count_most : (n : ℕ) → n ≤ 6 → candidate_count n ≤ 26387
unfolding all
count_most n h =
    subst (λ (k : ℕ). k ≤ 26387) (sym (count_at n h))
    (leb-true (get_or (1 ∷ 3 ∷ 11 ∷ 51 ∷ 307 ∷ 2451 ∷ 26387 ∷ []) n 0) 26387
    (all-at (λ k. leb (get_or (1 ∷ 3 ∷ 11 ∷ 51 ∷ 307 ∷ 2451 ∷ 26387 ∷ []) k 0) 26387) 7 refl n (omega arith)))
