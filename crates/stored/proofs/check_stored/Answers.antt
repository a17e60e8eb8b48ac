-- `stored::check_stored` meets its contract: what the walk found is the refusal, and without a fault the tests of n and the points decide. Assumes nothing.
use mathlib.Core.Path.{◌≡◌, sym, ap, ◌∙◌}
use Rattle.std.specs.Prelude.{Err}
use Rattle.records.specs.Walks.{fault_number, fault_found}
use Rattle.std.proofs.lemmas.Result.{err_from_is_err_and}
use Rattle.table.proofs.Results.{bytes-number-nonzero, handed-on}
use Rattle.stored.specs.Layout.{walked}
use Rattle.stored.proofs.Accepting.{stored-layout, stored-later}
use Rattle.stored.proofs.check_stored.Goals as goal

pub returns-in_err-walk_table : goal.returns-in_err-walk_table
returns-in_err-walk_table c =
    let bytes = c.args.bytes.now in
    let fault = c.in_err-walk_table.field-0.0 in
    let handed = err_from_is_err_and c.from_residual.result c.from_residual.ensures.1 in
    let found : walked bytes ≡ Err fault = sym c.walk_table.ensures ∙ c.in_err-walk_table.was in
    handed-on handed.1 handed.2 ∙ ap fault_found (sym found) ∙ sym (stored-layout bytes (λ z. bytes-number-nonzero fault (sym (ap fault_number found) ∙ z)))

pub returns : goal.returns
returns c =
    let none : fault_number (walked c.args.bytes.now) ≡ 0 = ap fault_number (sym c.walk_table.ensures ∙ c.in_ok-walk_table.was) in
    c.check_points.ensures ∙ sym (stored-later c.args.bytes.now none)
