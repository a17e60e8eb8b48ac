-- `table::shared` meets its contract. The free points are looked up in the flags of the on points, by `flag-known`; the loop's invariant:
-- the free points from this one on decide the answer. Assumes nothing.
use mathlib.Core.Path.{◌≡◌, sym, ◌∙◌}
use mathlib.Core.Bool.{true, false}
use mathlib.Core.List.{[]}
use native.Mathlib.Omega.{arith}
use lib.ListN.{drop_of_length-le, drop, get_or}
use Rattle.gf2.specs.Limits.{max_variables}
use Rattle.gf2.specs.Finite.{holds}
use Rattle.table.specs.Table.{shared}
use Rattle.table.proofs.Table.{inside-at, shared-next, shared-comm}
use Rattle.table.proofs.Flags.{flag-known}
use Rattle.table.proofs.shared.Goals as goal

pub bounds-flags-flag_place : goal.bounds-flags-flag_place
bounds-flags-flag_place c =
    let free = c.args.free.now in
    let i = c.loop-point.point-index in
    omega (arith, inside-at max_variables free c.requires.free_value i (omega arith))

pub returns-then-flags-flag_place : goal.returns-then-flags-flag_place
returns-then-flags-flag_place c =
    let free = c.args.free.now in
    let on = c.args.on.now in
    let loop = c.loop-point in
    let small = inside-at max_variables free c.requires.free_value loop.point-index (omega arith) in
    let held : holds on (get_or free loop.point-index 0) ≡ true = sym (flag-known on (get_or free loop.point-index 0) c.flags_of-flags.ensures c.flag_place.ensures small) ∙ c.if-flags-flag_place.true in
    sym (shared-comm on free ∙ sym loop.invariant ∙ (rw held at (shared-next free on loop.point-index (omega arith))))

pub loop-point-preserved : goal.loop-point-preserved
loop-point-preserved c =
    let free = c.args.free.now in
    let on = c.args.on.now in
    let loop = c.loop-point in
    let small = inside-at max_variables free c.requires.free_value loop.point-index (omega arith) in
    let held : holds on (get_or free loop.point-index 0) ≡ false = sym (flag-known on (get_or free loop.point-index 0) c.flags_of-flags.ensures c.flag_place.ensures small) ∙ c.if-flags-flag_place.false in
    sym (rw held at (shared-next free on loop.point-index (omega arith))) ∙ loop.invariant

pub returns : goal.returns
unfolding shared
returns c =
    let loop = c.loop-point in
    let end : drop loop.point-index c.args.free.now ≡ [] = drop_of_length-le c.args.free.now {i = loop.point-index} (omega arith) in
    (rw end at loop.invariant) ∙ shared-comm c.args.free.now c.args.on.now
