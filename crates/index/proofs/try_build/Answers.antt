-- `index::try_build` meets its contract: the form's own fault, then that of the list, or the numbers of the form. Assumes nothing.
use mathlib.Core.Path.{◌≡◌, sym, ap, ap₂, ◌∙◌}
use mathlib.Core.List.{[], ◌∷◌}
use Prim.Native.Nat.{ℕ}
use lib.ListN.{length}
use Rattle.table.specs.Refusal.{Fault}
use Rattle.form.specs.Decoding.{decode_form}
use Rattle.form.specs.Refusal.{IsForm, form_tests, form_fault}
use Rattle.index.specs.Answers.{list_test, refused_index, build_tests, build_answer_by}
use Rattle.std.specs.Prelude.{Err}
use Rattle.std.proofs.lemmas.Result.{err_from_is_err_and}
use Rattle.table.specs.Answers.{settled}
use Rattle.form_calls.proofs.Answering.{form-sound}
use Rattle.index.proofs.Faulting.{refused-early, build-found, answer-refused, answer-accepted}
use Rattle.index.proofs.try_build.Goals as goal
use Rattle.index.proofs.try_build.Goals.{In_ok-check_form}

pub returns-in_err-check_form : goal.returns-in_err-check_form
unfolding build_answer_by
returns-in_err-check_form c =
    let a = c.args in
    let p = err_from_is_err_and c.from_residual.result c.from_residual.ensures.1 in
    ap (settled refused_index) (p.1 ∙ ap Err p.2)
    ∙ answer-refused (build_tests a.form.now a.records) (decode_form a.form.now) (length a.form.now) c.in_err-check_form.field-0.0 (refused-early (form_tests a.form.now) (list_test a.form.now a.records ∷ []) c.in_err-check_form.field-0.0 c.in_err-check_form.ensures)

-- Past the first test the bytes are a form.
sound : (c : In_ok-check_form) → (form_fault c.args.form.now ≡ 0) × IsForm c.args.form.now
sound c = form-sound c.args.form.now c.in_ok-check_form.ensures

pub check_list-requires : goal.check_list-requires
check_list-requires c = (sound c).1

pub returns-in_err-check_list : goal.returns-in_err-check_list
unfolding build_answer_by
returns-in_err-check_list c =
    let a = c.args in
    let p = err_from_is_err_and c.from_residual-in_err-check_list.result c.from_residual-in_err-check_list.ensures.1 in
    ap (settled refused_index) (p.1 ∙ ap Err p.2)
    ∙ answer-refused (build_tests a.form.now a.records) (decode_form a.form.now) (length a.form.now) c.in_err-check_list.field-0.0 (build-found a.form.now (sound (goal.at.returns-in_err-check_list c).In_ok-check_form).0 a.records c.in_err-check_list.ensures)

pub form_variables-requires : goal.form_variables-requires
form_variables-requires c = (sound (goal.at.form_variables-requires c).In_ok-check_form).1

pub product_count-requires : goal.product_count-requires
product_count-requires c = (sound (goal.at.product_count-requires c).In_ok-check_form).1

pub returns : goal.returns
unfolding build_answer_by
returns c =
    let a = c.args in
    let none = sym (ap (λ (f : Fault). f.number) (build-found a.form.now (sound (goal.at.returns c).In_ok-check_form).0 a.records c.in_ok-check_list.ensures)) in
    ap₂ (λ (n k : ℕ). record { refusal = 0; place = 0; variables = n; length = length a.form.now; products = k }) c.form_variables.ensures c.product_count.ensures
    ∙ answer-accepted (build_tests a.form.now a.records) (decode_form a.form.now) (length a.form.now) none
