-- `closure_set::spread_points` meets its contract: the vectors not passed yet are what is left to be spread over. Assumes nothing.
use mathlib.Core.Path.{sym, ap, ◌∙◌, fun_ext}
use mathlib.Core.Bool.{Bool}
use mathlib.Core.List.{List}
use Prim.Native.Nat.{ℕ, ◌+◌}
use native.Mathlib.Omega.{arith}
use lib.ListN.{drop, get_or}
use Rattle.basis.proofs.Values.{item-mem, items-next, items-end}
use Rattle.point_sets.specs.Sets.{member}
use Rattle.cubes.specs.Primes.{some_point}
use Rattle.closure_set.specs.ClosureSet.{spread}
use Rattle.closure_set.proofs.Steps.{spread-next}
use Rattle.closure_set.proofs.spread_points.Goals as goal

pub loop-b-init : goal.loop-b-init
unfolding spread
loop-b-init c = λ w. ap (λ (t : ℕ → Bool). some_point t c.as_slice-b-items.result.now w) (fun_ext c.set_of-points.ensures)

-- The vector is one of the basis.
pub moved_set-moved-requires : goal.moved_set-moved-requires
moved_set-moved-requires c =
    let s = c.as_slice-b-items in
    c.requires.basis_within.below (get_or s.result.now c.loop-b.b-index 0)
    (item-mem c.args.basis c.requires.basis_within.basis s.result.now s.ensures c.loop-b.b-index (omega arith))

pub loop-b-preserved : goal.loop-b-preserved
loop-b-preserved c =
    let l = c.loop-b in
    let vs = c.as_slice-b-items.result.now in
    let i = l.b-index in
    λ w. spread-next (member c.either-points.result) (member l.points) (member c.moved_set-moved.result) (get_or vs i 0) (drop (i + 1) vs)
    c.moved_set-moved.ensures c.either-points.ensures w
    ∙ ap (λ bs. some_point (member l.points) bs w) (sym (items-next vs i (omega arith))) ∙ l.invariant w

pub returns : goal.returns
unfolding some_point
returns c w =
    let l = c.loop-b in
    let s = c.as_slice-b-items in
    ap (λ bs. some_point (member l.points) bs w) (sym (items-end s.result.now l.b-index (omega arith))) ∙ l.invariant w
    ∙ ap (λ (bs : List ℕ). spread c.args.on.now bs w) s.ensures
