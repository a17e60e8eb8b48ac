-- `pla_cubes::flags_with` meets its contract. The loop's invariant: the flags below its place are marked, the others as they were. Assumes nothing.
use mathlib.Core.Path.{◌≡◌, sym, ◌∙◌}
use Prim.Native.Nat.{◌<◌}
use native.Mathlib.Omega.{arith}
use lib.ListN.{length, length-set}
use Rattle.table.specs.Flags.{max_points}
use Rattle.pla_cubes.proofs.Marking.{marking-start, marking-next, said-covered, said-left, flagged-next, flagged-same}
use Rattle.pla_cubes.proofs.flags_with.Goals as goal
use Rattle.pla_cubes.proofs.flags_with.Goals.{then-covers, else-covers}

pub returns-then-not-is_input : goal.returns-then-not-is_input
returns-then-not-is_input c = λ rows f. flagged-same c.args.inputs.now c.args.symbol rows c.args.flags.now (sym c.if-not-is_input.ensures) f

pub loop-point-init : goal.loop-point-init
loop-point-init c = (c.told-flags, marking-start c.args.inputs.now c.args.symbol c.args.flags.now)

pub loop-point-preserved : goal.loop-point-preserved
loop-point-preserved c =
    let loop = c.loop-point in
    let inside : loop.point < length loop.said-items = omega (arith, loop.invariant.0) in
    elim c.if-covers.branch [
      | then-covers w ↦ rw w.said-items-is (simp length-set loop.invariant.0, marking-next _ inside (said-covered _ _ _ _ _ (sym c.covers.ensures ∙ w.if-covers.true) w.marked.ensures) loop.invariant.1)
      | else-covers w ↦ rw w.said-items-is (simp length-set loop.invariant.0, marking-next _ inside (said-left _ _ _ _ (sym c.covers.ensures ∙ w.if-covers.false)) loop.invariant.1)
    ]

pub returns : goal.returns
returns c =
    let loop = c.loop-point in
    let e : loop.point ≡ max_points = omega arith in
    λ rows f. flagged-next c.args.inputs.now c.args.symbol rows c.args.flags.now loop.said-items f (rw e at loop.invariant.1)
