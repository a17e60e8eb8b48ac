-- `subspace_search::search` meets its contract: at each turn of the loop the first vectors below k are done. The measure is the number of vectors that may
-- still be put in. Assumes nothing.
use mathlib.Core.Path.{◌≡◌}
use mathlib.Core.Bool.{true, false}
use Prim.Native.Nat.{ℕ, ◌-◌, ◌^◌, ◌≤◌, ◌<◌}
use Rattle.basis.specs.Short.{listed, short}
use Rattle.point_sets.specs.Sets.{set_size, member}
use Rattle.subspace_search.proofs.Steps.{found_below}
use Rattle.subspace_search.proofs.+search.Given as goal

-- What is found is what was found before the loop, or something longer that begins with a vector below k.
abbrev pub invariant-loop-k : goal.invariant-loop-k
invariant-loop-k l =
    (0 < l.left) × (l.size ≡ 2 ^ l.n) × (0 < l.k) × (l.k ≤ set_size)
    × (l.found ≡ short (found_below l.n (l.left - 1) (listed l.initial.found) (listed l.prefix) (member l.set) l.k))
    × ((x : ℕ) → 2 ^ l.n ≤ x → x < l.k → member l.set x ≡ false) × (l.k < set_size → member l.set l.k ≡ true)

abbrev pub decreases-loop-k : goal.decreases-loop-k
decreases-loop-k l = set_size - l.k

abbrev pub decreases-search : goal.decreases-search
decreases-search l = l.left
