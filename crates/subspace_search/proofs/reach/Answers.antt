-- `subspace_search::reach` meets its contract: leads rise, and those of a reduced basis are different. Assumes nothing.
use mathlib.Core.Path.{◌≡◌}
use Prim.Native.Nat.{ℕ, ◌^◌, ◌≤◌, ◌<◌}
use native.Mathlib.Omega.{arith}
use Rattle.gf2.specs.Bits.{lead}
use Rattle.gf2.proofs.Leads.{lead-fits}
use Rattle.point_sets.specs.Sets.{member}
use Rattle.subspace_search.specs.Search.{longest}
use Rattle.subspace_search.proofs.Longest.{passes_none, passes-reach, longest-passes}
use Rattle.subspace_search.proofs.reach.Goals as goal

-- The lead of the least vector, which is one of n variables.
fits : (n k size : ℕ) → 1 ≤ k → k < size → size ≡ 2 ^ n → lead k < n
fits n k size p h e = lead-fits n k (omega arith) (omega (arith, e))

pub overflow_sub-result : goal.overflow_sub-result
overflow_sub-result c =
    omega (arith, fits c.args.n c.least_from-k.result c.point_count.result c.least_from-k.ensures.above c.if-k-point_count.true c.point_count.ensures, c.lead.ensures)

pub returns-then-k-point_count : goal.returns-then-k-point_count
returns-then-k-point_count c d =
    let n = c.args.n in
    let set = member c.args.set.now in
    let k = c.least_from-k.result in
    let m = c.least_from-k.ensures in
    let below = fits n k c.point_count.result m.above c.if-k-point_count.true c.point_count.ensures in
    omega (
      arith,
      below,
      c.lead.ensures,
      passes-reach n set k m.none (omega (arith, m.above)) (omega (arith, below)) (longest n d set) (longest-passes n d set),
    )

pub returns : goal.returns
returns c d =
    let n = c.args.n in
    let set = member c.args.set.now in
    let k = c.least_from-k.result in
    let high : 2 ^ n ≤ k = omega (arith, c.if-k-point_count.false, c.point_count.ensures) in
    omega (arith, passes_none n set k c.least_from-k.ensures.none high (longest n d set) (longest-passes n d set))
