-- `pla_lines::read_cube` meets its contract: the cube is judged by itself, then its row with those before it. Assumes nothing.
use mathlib.Core.Path.{◌≡◌, refl}
use mathlib.Core.List.{List, ◌∷◌}
use native.Mathlib.Omega.{arith}
use Rattle.std.proofs.Common.{rules, Err}
use Rattle.pla_text.specs.Text.{symbols_of}
use Rattle.pla_cubes.specs.Cubes.{Row, row_of}
use Rattle.pla_cubes.specs.Flagging.{Flagged}
use Rattle.pla_lines.specs.Lines.{variables_of}
use Rattle.pla_lines.proofs.Judging.{shape-cube, cube-refused, cube-clashes, cube-accepted, given}
use Rattle.pla_lines.proofs.read_cube.Goals as goal
use Rattle.pla_lines.proofs.read_cube.Goals.{After-clashes}

pub returns-in_err-n : goal.returns-in_err-n
returns-in_err-n c =
    let args = c.args in
    let fault = c.in_err-n.field-0.0 in
    let e : c.from_residual.result ≡ Err fault = search rules in
    λ number rows f. rw e (cube-refused number args.reading.now.head args.output (symbols_of args.content.now) rows args.reading.now fault c.in_err-n.ensures.fault refl f)

pub inputs_of-inputs-requires-clause-n_in_bounds : goal.inputs_of-inputs-requires-clause-n_in_bounds
inputs_of-inputs-requires-clause-n_in_bounds c =
    let ok = c.in_ok-n.ensures in
    omega (arith, shape-cube c.args.reading.now.head (symbols_of c.args.content.now) ok.fault, given _ _ ok.sizes.0)

pub output_symbol-symbol-requires-clause-content_len : goal.output_symbol-symbol-requires-clause-content_len
output_symbol-symbol-requires-clause-content_len c =
    let ok = c.in_ok-n.ensures in
    omega (arith, shape-cube c.args.reading.now.head (symbols_of c.args.content.now) ok.fault, given _ _ ok.sizes.0, given _ _ ok.sizes.1)

-- The flags hold what the cube's row and the rows before it say.
marked : (c : After-clashes) (rows : List Row) → Flagged c.args.reading.now.flags rows
    → Flagged c.flags_with-marked.result (row_of (variables_of c.args.reading.now.head) c.args.output (symbols_of c.args.content.now) ∷ rows)
marked c rows f =
    let n = given _ _ c.in_ok-n.ensures.sizes.0 in
    rw n (rw (c.inputs_of-inputs.ensures, c.output_symbol-symbol.ensures) at (c.flags_with-marked.ensures rows f))

pub returns-then-clashes : goal.returns-then-clashes
returns-then-clashes c =
    let at = (goal.at.returns-then-clashes c).After-clashes in
    let args = c.args in
    let head = args.reading.now.head in
    let ok = c.in_ok-n.ensures in
    λ number rows f. cube-clashes number head args.output (symbols_of args.content.now) rows ok.fault c.flags_with-marked.result c.requires.inputs (marked at rows f)
    c.clashes.result (rw (given _ _ ok.sizes.0) c.clashes.ensures) args.reading.now c.if-clashes.true refl f

pub returns : goal.returns
returns c =
    let at = (goal.at.returns c).After-clashes in
    let args = c.args in
    let head = args.reading.now.head in
    let ok = c.in_ok-n.ensures in
    λ number rows f. cube-accepted number head args.output (symbols_of args.content.now) rows ok.fault c.flags_with-marked.result c.requires.inputs (marked at rows f)
    c.clashes.result (rw (given _ _ ok.sizes.0) c.clashes.ensures) _ c.if-clashes.false c.head_after-reading.ensures refl
