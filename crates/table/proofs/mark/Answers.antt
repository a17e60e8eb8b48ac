-- `table::mark` meets its contract. The loop's invariant: the points from this one on are what is left to be marked. Assumes nothing.
use mathlib.Core.Path.{◌≡◌, sym, ◌∙◌}
use mathlib.Core.List.{[]}
use native.Mathlib.Omega.{arith}
use lib.ListN.{drop_of_length-le, length-set, drop}
use Rattle.gf2.specs.Limits.{max_variables}
use Rattle.table.specs.Flags.{marked}
use Rattle.table.proofs.Table.{inside-at}
use Rattle.table.proofs.Flags.{marked_next}
use Rattle.table.proofs.mark.Goals as goal

pub bounds-flags-flag_place : goal.bounds-flags-flag_place
bounds-flags-flag_place c = omega (arith, inside-at max_variables c.args.points.now c.requires c.loop-point.point-index (omega arith))

pub loop-point-preserved : goal.loop-point-preserved
loop-point-preserved c =
    let next = marked_next c.args.points.now c.loop-point.flags c.loop-point.point-index (omega arith) in
    (simp length-set c.loop-point.invariant.0, rw c.flag_place.ensures (sym next ∙ c.loop-point.invariant.1))

pub returns : goal.returns
unfolding marked
returns c =
    let end : drop c.loop-point.point-index c.args.points.now ≡ [] = drop_of_length-le c.args.points.now {i = c.loop-point.point-index} (omega arith) in
    rw end at c.loop-point.invariant.1
