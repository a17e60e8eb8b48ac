-- `pla_cubes::is_cube` meets its contract. The loop's invariant: what is left decides whether it is a cube with what is to come. Assumes nothing.
use mathlib.Core.Path.{◌≡◌, sym, ◌∙◌}
use mathlib.Core.Bool.{◌&&◌}
use mathlib.Core.List.{[]}
use native.Mathlib.Omega.{arith}
use borrow.Author.Tests.{eq-eqb, ne_eqb}
use lib.Dec.{eqb}
use Rattle.pla_text.specs.Text.{symbols_of}
use Rattle.pla_cubes.specs.Cubes.{is_cube}
use Rattle.pla_cubes.proofs.Shapes.{symbols-blank, symbols-byte, symbols-end, cube-input, cube-output, cube-wrong, cube-end}
use Rattle.pla_cubes.proofs.is_cube.Goals as goal
use Rattle.pla_cubes.proofs.is_cube.Goals.{After-loop-symbol}

pub loop-symbol-preserved-then-is_blank : goal.loop-symbol-preserved-then-is_blank
loop-symbol-preserved-then-is_blank c =
    let args = c.args in
    let l = c.loop-symbol in
    let e = symbols-blank args.content.now l.symbol-index (omega arith) (sym c.is_blank.ensures ∙ c.if-is_blank.true) in
    rw (← e) l.invariant

pub returns-then-not-takes : goal.returns-then-not-takes
returns-then-not-takes c =
    let l = c.loop-symbol in
    let args = c.args in
    let e = symbols-byte args.content.now l.symbol-index (omega arith) (sym c.is_blank.ensures ∙ c.if-is_blank.false) in
    sym (sym l.invariant ∙ rw e (cube-wrong l.n l.o _ _ (sym c.takes.ensures ∙ c.if-not-takes.true)))

pub loop-symbol-preserved-then-n-gt0 : goal.loop-symbol-preserved-then-n-gt0
loop-symbol-preserved-then-n-gt0 c =
    let l = c.loop-symbol in
    let args = c.args in
    let e = symbols-byte args.content.now l.symbol-index (omega arith) (sym c.is_blank.ensures ∙ c.if-is_blank.false) in
    sym (rw e (cube-input l.n l.o _ _ c.if-n-gt0.true (sym c.takes.ensures ∙ c.if-not-takes.false))) ∙ l.invariant

pub overflow_sub-o : goal.overflow_sub-o
overflow_sub-o c =
    let loop = c.loop-symbol in
    omega (arith, (cube-output loop.n loop.o _ [] c.if-n-gt0.false (sym c.takes.ensures ∙ c.if-not-takes.false)).0)

pub loop-symbol-preserved : goal.loop-symbol-preserved
loop-symbol-preserved c =
    let l = c.loop-symbol in
    let args = c.args in
    let e = symbols-byte args.content.now l.symbol-index (omega arith) (sym c.is_blank.ensures ∙ c.if-is_blank.false) in
    sym (rw e (cube-output l.n l.o _ _ c.if-n-gt0.false (sym c.takes.ensures ∙ c.if-not-takes.false)).1) ∙ l.invariant

-- Where no symbol is left.
ended : (c : After-loop-symbol) → eqb c.loop-symbol.n 0 && eqb c.loop-symbol.o 0 ≡ is_cube c.args.inputs c.args.outputs (symbols_of c.args.content.now)
ended c =
    let l = c.loop-symbol in
    sym (rw (symbols-end c.args.content.now l.symbol-index (omega arith)) (cube-end l.n l.o)) ∙ l.invariant

pub returns-then-n-eq0 : goal.returns-then-n-eq0
returns-then-n-eq0 c = rw (eq-eqb _ _ c.if-n-eq0.true) at (ended (goal.at.returns-then-n-eq0 c).After-loop-symbol)

pub returns-else-n-eq0 : goal.returns-else-n-eq0
returns-else-n-eq0 c = ne_eqb _ _ c.if-n-eq0.false ∙ rw (ne_eqb _ _ c.if-n-eq0.false) at (ended (goal.at.returns-else-n-eq0 c).After-loop-symbol)
