-- `pla_cubes::covers` meets its contract. The loop's invariant: the inputs that are left decide the answer. Assumes nothing.
use mathlib.Core.Path.{◌≡◌, sym, ◌∙◌}
use mathlib.Core.Bool.{true, false}
use Prim.Native.Nat.{◌-◌}
use native.Mathlib.Omega.{arith}
use lib.ListN.{length, get_or}
use Rattle.gf2.specs.Bits.{bit}
use Rattle.pla_cubes.specs.Cubes.{allows}
use Rattle.pla_cubes.proofs.Covering.{covers-next, covers-end}
use Rattle.pla_cubes.proofs.covers.Goals as goal

pub returns-then-not-allows : goal.returns-then-not-allows
returns-then-not-allows c =
    let inputs = c.args.inputs.now in
    let loop = c.loop-i in
    let no : allows (get_or inputs loop.i 0) (bit (length inputs - 1 - loop.i) c.args.point) ≡ false = rw (← c.bit.ensures, ← c.allows.ensures) c.if-not-allows.true in
    sym (sym loop.invariant ∙ (rw no at (covers-next inputs loop.i c.args.point (omega arith))))

pub loop-i-preserved : goal.loop-i-preserved
loop-i-preserved c =
    let inputs = c.args.inputs.now in
    let loop = c.loop-i in
    let yes : allows (get_or inputs loop.i 0) (bit (length inputs - 1 - loop.i) c.args.point) ≡ true = rw (← c.bit.ensures, ← c.allows.ensures) c.if-not-allows.false in
    sym (rw yes at (covers-next inputs loop.i c.args.point (omega arith))) ∙ loop.invariant

pub returns : goal.returns
returns c = let loop = c.loop-i in sym (covers-end c.args.inputs.now loop.i c.args.point (omega arith)) ∙ loop.invariant
