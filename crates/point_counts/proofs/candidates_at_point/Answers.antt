-- `point_counts::candidates_at_point` meets its contract: the place in the table is that of `point-count`. Assumes nothing.
use mathlib.Core.Path.{ap₂, ◌∙◌}
use mathlib.Core.List.{List}
use Prim.Native.Nat.{ℕ, ◌+◌, ◌*◌, ◌<◌}
use native.Mathlib.Omega.{arith}
use lib.ListN.{get_or}
use Rattle.bases.proofs.LeadBits.{avoided-small}
use Rattle.point_counts.proofs.PointCounts.{point-count}
use Rattle.point_counts.proofs.candidates_at_point.Goals as goal
use Rattle.point_counts.proofs.candidates_at_point.Goals.{After-avoided-avoided}

-- The lead bits avoided are a number below 64.
below : (c : After-avoided-avoided) → c.avoided-avoided.result < 64
below c = omega (arith, c.avoided-avoided.ensures, avoided-small c.args.n c.args.p c.requires.n_le_max_listed c.requires.p_bound)

pub overflow_add-d : goal.overflow_add-d
overflow_add-d c = omega (arith, below (goal.at.overflow_add-d c).After-avoided-avoided, c.requires.d_le_max_listed)

pub offset_bounds-table-d : goal.offset_bounds-table-d
offset_bounds-table-d c = omega (arith, below (goal.at.offset_bounds-table-d c).After-avoided-avoided, c.requires.d_le_max_listed)

pub bounds-table-d : goal.bounds-table-d
bounds-table-d c = omega (arith, below (goal.at.bounds-table-d c).After-avoided-avoided, c.requires.d_le_max_listed)

pub returns : goal.returns
returns c =
    let a = c.args in
    c.wide.ensures ∙ ap₂ (λ (l : List ℕ) (z : ℕ). get_or l (a.d * 64 + z) 0) c.table.ensures c.avoided-avoided.ensures
    ∙ point-count a.n a.d a.p c.requires.n_le_max_listed c.requires.d_le_max_listed c.requires.p_bound
