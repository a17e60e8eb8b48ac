-- `form::check_form` meets its contract: the number and the place are those of what the walk finds. Assumes nothing.
use mathlib.Core.Path.{sym, ap, ◌∙◌}
use Rattle.std.proofs.lemmas.Result.{err_from_is_err_and}
use Rattle.records.specs.Walks.{fault_found}
use Rattle.form.proofs.Accepting.{form-told}
use Rattle.form.proofs.check_form.Goals as goal

pub returns : goal.returns
returns c = sym (form-told c.args.bytes.now ∙ ap fault_found (sym c.walk_form.ensures ∙ c.in_ok-walk_form.was))

pub returns-in_err-walk_form : goal.returns-in_err-walk_form
returns-in_err-walk_form c =
    let told = form-told c.args.bytes.now ∙ ap fault_found (sym c.walk_form.ensures ∙ c.in_err-walk_form.was) in
    let p = err_from_is_err_and c.from_residual.result c.from_residual.ensures.1 in
    rw (p.1, p.2) (sym told)
