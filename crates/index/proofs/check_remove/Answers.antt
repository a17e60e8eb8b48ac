-- `index::check_remove` meets its contract: the form's own fault, then that of the list, then that there is no product. Assumes nothing.
use mathlib.Core.Path.{◌≡◌, sym, ◌∙◌}
use mathlib.Core.List.{[], ◌∷◌, ◌++◌}
use Rattle.form.specs.Refusal.{IsForm, form_tests, form_fault}
use Rattle.index.specs.Answers.{list_tests, empty_test}
use Rattle.std.proofs.lemmas.Result.{err_from_is_err_and}
use Rattle.form_calls.proofs.Answering.{form-sound}
use Rattle.index.proofs.Faulting.{handed-on, refused-early, list-wrong, list-passed, empty-found, empty-none}
use Rattle.index.proofs.check_remove.Goals as goal
use Rattle.index.proofs.check_remove.Goals.{In_ok-check_form}

pub returns-in_err-check_form : goal.returns-in_err-check_form
returns-in_err-check_form c =
    let a = c.args in
    let p = err_from_is_err_and c.from_residual.result c.from_residual.ensures.1 in
    handed-on p.1 p.2 ∙ refused-early (form_tests a.form.now) (list_tests a.form.now a.records a.same ++ (empty_test a.form.now ∷ [])) c.in_err-check_form.field-0.0 c.in_err-check_form.ensures

-- Past the first test the bytes are a form.
sound : (c : In_ok-check_form) → (form_fault c.args.form.now ≡ 0) × IsForm c.args.form.now
sound c = form-sound c.args.form.now c.in_ok-check_form.ensures

pub check_list-requires : goal.check_list-requires
check_list-requires c = (sound c).1

pub returns-in_err-check_list : goal.returns-in_err-check_list
returns-in_err-check_list c =
    let a = c.args in
    let p = err_from_is_err_and c.from_residual-in_err-check_list.result c.from_residual-in_err-check_list.ensures.1 in
    handed-on p.1 p.2 ∙ list-wrong a.form.now (sound (goal.at.returns-in_err-check_list c).In_ok-check_form).0 a.records a.same (empty_test a.form.now ∷ []) c.in_err-check_list.field-0.0 c.in_err-check_list.ensures

pub product_count-requires : goal.product_count-requires
product_count-requires c = (sound (goal.at.product_count-requires c).In_ok-check_form).1

-- Past the second test the list is right, and the last test decides.
pub returns-then-product_count-eq0 : goal.returns-then-product_count-eq0
returns-then-product_count-eq0 c =
    let a = c.args in
    empty-found a.form.now (sym c.product_count.ensures ∙ c.if-product_count-eq0.true)
    ∙ list-passed a.form.now (sound (goal.at.returns-then-product_count-eq0 c).In_ok-check_form).0 a.records a.same (empty_test a.form.now ∷ []) c.in_ok-check_list.ensures

pub returns : goal.returns
returns c =
    let a = c.args in
    empty-none a.form.now (λ z. c.if-product_count-eq0.false (c.product_count.ensures ∙ z))
    ∙ list-passed a.form.now (sound (goal.at.returns c).In_ok-check_form).0 a.records a.same (empty_test a.form.now ∷ []) c.in_ok-check_list.ensures
