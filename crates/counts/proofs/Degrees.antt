-- The number of candidates of each degree, by computation, and whole degrees passed at once. What a listing goes by.
use mathlib.Core.Path.{◌≡◌, refl, sym, ap, ◌∙◌}
use mathlib.Core.Bool.{true}
use mathlib.Core.List.{List, [], ◌∷◌, flat_map}
use Prim.Native.Nat.{ℕ, zero, suc, ◌+◌, ◌-◌, ◌*◌, ◌^◌, ◌≤◌, ◌<◌}
use native.Mathlib.Omega.{arith}
use lib.Dec.{eqb}
use lib.ListN.{length, get_or, drop}
use lib.Seq.{drop-append-add}
use borrow.Author.Tests.{eqb-true}
use Rattle.gf2.specs.Bits.{bit, halvings, lead}
use Rattle.gf2.specs.Finite.{all, select}
use Rattle.gf2.proofs.Finite.{all-at}
use Rattle.cubes.specs.Lists.{keep}
use Rattle.cubes.specs.Candidates.{bases, candidates_of, candidates_from}
use Rattle.cubes.proofs.Counts.{basis_count, degree-count}

-- Seven numbers for each number of variables from 0 to 6: those of degree 0 to 6.
abbrev pub degree_counts : List ℕ
degree_counts =
    1 ∷ 0 ∷ 0 ∷ 0 ∷ 0 ∷ 0 ∷ 0 ∷ 2 ∷ 1 ∷ 0 ∷ 0 ∷ 0 ∷ 0 ∷ 0 ∷ 4 ∷ 6 ∷ 1 ∷ 0 ∷ 0 ∷ 0 ∷ 0 ∷ 8 ∷ 28 ∷ 14 ∷ 1 ∷ 0 ∷ 0 ∷ 0 ∷ 16 ∷ 120 ∷ 140 ∷ 30 ∷ 1 ∷ 0 ∷ 0 ∷ 32 ∷ 496 ∷ 1240 ∷ 620 ∷ 62 ∷ 1 ∷ 0 ∷ 64 ∷ 2016 ∷ 10416 ∷ 11160 ∷ 2604 ∷ 126 ∷ 1 ∷ []

all-degrees : all (λ n. all (λ d. eqb (get_or degree_counts (n * 7 + d) 0) (basis_count n d * 2 ^ (n - d))) 7) 7 ≡ true
unfolding all bases flat_map keep select bit halvings lead
all-degrees = refl

pub degree-at : (n d : ℕ) → n ≤ 6 → d ≤ 6 → get_or degree_counts (n * 7 + d) 0 ≡ length (candidates_of n d)
degree-at n d h k =
    eqb-true (get_or degree_counts (n * 7 + d) 0) (basis_count n d * 2 ^ (n - d))
    (all-at (λ d. eqb (get_or degree_counts (n * 7 + d) 0) (basis_count n d * 2 ^ (n - d))) 7
    (all-at (λ n. all (λ d. eqb (get_or degree_counts (n * 7 + d) 0) (basis_count n d * 2 ^ (n - d))) 7) 7 all-degrees n (omega arith)) d (omega arith))
    ∙ sym (degree-count n d)

-- A whole degree passed: what is behind it is so many less of the next.
pub degree-passed : (n d skip count : ℕ) → 0 < d → count ≡ length (candidates_of n d) → count ≤ skip
    → drop skip (candidates_from n d) ≡ drop (skip - count) (candidates_from n (d - 1))
unfolding candidates_from
degree-passed n zero skip count h e l = absurd (omega arith)
degree-passed n (suc d) skip count h e l =
    let q : skip ≡ length (candidates_of n (suc d)) + (skip - count) = omega arith in
    let r : d ≡ suc d - 1 = omega arith in
    ap (λ (k : ℕ). drop k (candidates_from n (suc d))) q ∙ drop-append-add (candidates_of n (suc d)) (candidates_from n d) (skip - count)
    ∙ ap (λ (k : ℕ). drop (skip - count) (candidates_from n k)) r
