-- `pla_lines::read_directive` meets its contract: the line is judged, and the head goes on. Assumes nothing.
use mathlib.Core.Path.{◌≡◌, refl}
use Rattle.std.proofs.Common.{rules, Err}
use Rattle.pla_lines.proofs.Judging.{directive-refused, directive-accepted}
use Rattle.pla_lines.proofs.read_directive.Goals as goal

pub returns-in_err-check_directive : goal.returns-in_err-check_directive
returns-in_err-check_directive c =
    let args = c.args in
    let fault = c.in_err-check_directive.field-0.0 in
    let e : c.from_residual.result ≡ Err fault = search rules in
    λ number output rows symbols f other. rw e (directive-refused number args.reading.now.head args.statement output rows symbols args.reading.now f other fault c.in_err-check_directive.ensures refl)

pub returns : goal.returns
returns c =
    let args = c.args in
    λ number output rows symbols f other. directive-accepted number args.reading.now.head args.statement output rows symbols _ f other c.in_ok-check_directive.ensures c.head_after-reading.ensures
