-- The table is right, by computation: of the reduced bases of six variables, and so of every smaller number of variables.
use mathlib.Core.Path.{◌≡◌, refl, sym, ap, ◌∙◌}
use mathlib.Core.Bool.{Bool, true}
use mathlib.Core.List.{List, map}
use Prim.Native.Nat.{ℕ, ◌+◌, ◌*◌, ◌^◌, ◌≤◌, ◌<◌}
use native.Mathlib.Omega.{arith}
use lib.Dec.{eqb}
use lib.Bits.{bit_and}
use lib.ListN.{length, get_or, length-map}
use borrow.Author.Tests.{eqb-true}
use Rattle.gf2.specs.Finite.{all}
use Rattle.gf2.proofs.Finite.{all-at}
use Rattle.cubes.specs.Lists.{keep}
use Rattle.cubes.specs.Candidates.{candidates_at}
use Rattle.cubes.proofs.Lists.{keep-ext, keep-map}
use Rattle.bases.specs.Entries.{entries}
use Rattle.bases.specs.Bases.{entries_of, mask_of, avoided, takes_point}
use Rattle.bases.specs.Entry.{candidate_at}
use Rattle.bases.proofs.Table.{entries_at}
use Rattle.bases.proofs.LeadBits.{avoided-small, takes-mask}
use Rattle.point_counts.specs.PointCounts.{point_counts}

-- ---- bases without some lead bits

-- How many of these have none of the bits of a.
avoiding : ℕ → List ℕ → ℕ
avoiding a masks = length (keep (λ m. eqb (bit_and a m) 0) masks)

-- The 64 numbers of d, compared with the lead bits of the bases of d vectors, which are computed once.
right : ℕ → List ℕ → Bool
right d masks = all (λ a. eqb (get_or point_counts (d * 64 + a) 0) (avoiding a masks)) 64

all_right : all (λ d. right d (map mask_of (entries_of d))) 7 ≡ true
unfolding all keep entries entries_of point_counts avoiding right
all_right = refl

avoiding-at : (d a : ℕ) → d ≤ 6 → a < 64 → get_or point_counts (d * 64 + a) 0 ≡ length (keep (λ e. eqb (bit_and a (mask_of e)) 0) (entries_of d))
unfolding avoiding right
avoiding-at d a h k =
    eqb-true (get_or point_counts (d * 64 + a) 0) (avoiding a (map mask_of (entries_of d)))
    (all-at (λ a. eqb (get_or point_counts (d * 64 + a) 0) (avoiding a (map mask_of (entries_of d)))) 64 (all-at (λ d. right d (map mask_of (entries_of d))) 7 all_right d (omega arith)) a k)
    ∙ ap length (keep-map mask_of (λ m. eqb (bit_and a m) 0) (entries_of d)) ∙ length-map (keep (λ e. eqb (bit_and a (mask_of e)) 0) (entries_of d)) mask_of

-- ---- candidates of a least point

-- The candidates of n variables and degree d with least point p are as many as the table says.
pub point-count : (n d p : ℕ) → n ≤ 6 → d ≤ 6 → p < 2 ^ n → get_or point_counts (d * 64 + avoided n p) 0 ≡ length (candidates_at n d p)
point-count n d p h k l =
    avoiding-at d (avoided n p) k (avoided-small n p h l)
    ∙ ap length (sym (keep-ext (takes_point n p) (λ e. eqb (bit_and (avoided n p) (mask_of e)) 0) (entries_of d) (λ e m. takes-mask n d p e h k l m)))
    ∙ sym (length-map (keep (takes_point n p) (entries_of d)) (candidate_at d p)) ∙ ap length (sym (entries_at n d p h k))
