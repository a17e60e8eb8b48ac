-- `index::check_append` meets its contract: the form's own fault, the product's own, that of the list, then that there are too many products. Assumes nothing.
use mathlib.Core.Path.{◌≡◌, ap, ◌∙◌}
use mathlib.Core.Bool.{Bool}
use mathlib.Core.List.{List, [], ◌∷◌, ◌++◌}
use Prim.Native.Nat.{ℕ}
use native.Mathlib.Omega.{arith}
use Rattle.table.specs.Refusal.{Test, fault_at, fault_of}
use Rattle.form.specs.Decoding.{form_variables}
use Rattle.form.specs.Refusal.{IsForm, form_tests, form_fault, product_tests}
use Rattle.form.proofs.Accepting.{form-begins}
use Rattle.index.specs.Answers.{list_tests, full_test, append_tests}
use Rattle.std.proofs.lemmas.Result.{err_from_is_err_and}
use Rattle.form_calls.proofs.Answering.{form-sound}
use Rattle.index.proofs.Faulting.{told_by, handed-on, product-sound, refused-early, product-wrong, product-right, list-wrong, list-passed, full-found, full-none}
use Rattle.index.proofs.check_append.Goals as goal
use Rattle.index.proofs.check_append.Goals.{In_ok-check_form, In_ok-check_product, In_ok-check_list}

-- The tests after those of the form and of the product.
abbrev others : List ℕ → ℕ → Bool → List Test
others form records same = list_tests form records same ++ (full_test form ∷ [])

pub returns-in_err-check_form : goal.returns-in_err-check_form
returns-in_err-check_form c =
    let a = c.args in
    let p = err_from_is_err_and c.from_residual.result c.from_residual.ensures.1 in
    handed-on p.1 p.2 ∙ refused-early (form_tests a.form.now) (product_tests (form_variables a.form.now) a.product.now ++ others a.form.now a.records a.same) c.in_err-check_form.field-0.0 c.in_err-check_form.ensures

-- Past the first test the bytes are a form.
sound : (c : In_ok-check_form) → (form_fault c.args.form.now ≡ 0) × IsForm c.args.form.now
sound c = form-sound c.args.form.now c.in_ok-check_form.ensures

pub form_variables-requires : goal.form_variables-requires
form_variables-requires c = (sound c).1

pub check_product-requires : goal.check_product-requires
check_product-requires c =
    omega (arith, c.form_variables.ensures, (form-begins c.args.form.now (sound (goal.at.check_product-requires c).In_ok-check_form).1).1)

-- What is found of the product is said of the form's n.
pub returns-in_err-check_product : goal.returns-in_err-check_product
returns-in_err-check_product c =
    let a = c.args in
    let refusal = c.in_err-check_product.field-0.0 in
    let p = err_from_is_err_and c.from_residual-in_err-check_product.result c.from_residual-in_err-check_product.ensures.1 in
    let found : told_by refusal ≡ fault_of (product_tests (form_variables a.form.now) a.product.now) = c.in_err-check_product.ensures ∙ ap (λ (n : ℕ). fault_of (product_tests n a.product.now)) c.form_variables.ensures in
    handed-on p.1 p.2 ∙ product-wrong a.form.now (sound (goal.at.returns-in_err-check_product c).In_ok-check_form).0 a.product.now (others a.form.now a.records a.same) refusal found

pub check_list-requires : goal.check_list-requires
check_list-requires c = (sound (goal.at.check_list-requires c).In_ok-check_form).1

-- Past the second test the product is one of the form's variables, and the other tests decide.
decided : (c : In_ok-check_product) → fault_of (form_tests c.args.form.now ++ others c.args.form.now c.args.records c.args.same) ≡ fault_of (append_tests c.args.form.now c.args.product.now c.args.records c.args.same)
decided c =
    let a = c.args in
    let found : fault_at 0 0 ≡ fault_of (product_tests (form_variables a.form.now) a.product.now) = c.in_ok-check_product.ensures ∙ ap (λ (n : ℕ). fault_of (product_tests n a.product.now)) c.form_variables.ensures in
    product-right a.form.now (sound (goal.at.check_list-requires c).In_ok-check_form).0 a.product.now (others a.form.now a.records a.same) (product-sound (form_variables a.form.now) a.product.now found).0

pub returns-in_err-check_list : goal.returns-in_err-check_list
returns-in_err-check_list c =
    let a = c.args in
    let at = goal.at.returns-in_err-check_list c in
    let p = err_from_is_err_and c.from_residual-in_err-check_list.result c.from_residual-in_err-check_list.ensures.1 in
    handed-on p.1 p.2 ∙ list-wrong a.form.now (sound at.In_ok-check_form).0 a.records a.same (full_test a.form.now ∷ []) c.in_err-check_list.field-0.0 c.in_err-check_list.ensures ∙ decided at.In_ok-check_product

pub product_count-requires : goal.product_count-requires
product_count-requires c = (sound (goal.at.product_count-requires c).In_ok-check_form).1

-- Past the third test the list is right, and the last test decides.
pub returns-then-product_count-ge-MAX_PRODUCTS : goal.returns-then-product_count-ge-MAX_PRODUCTS
returns-then-product_count-ge-MAX_PRODUCTS c =
    let a = c.args in
    let at = goal.at.returns-then-product_count-ge-MAX_PRODUCTS c in
    full-found a.form.now (omega (arith, c.product_count.ensures, c.if-product_count-ge-MAX_PRODUCTS.true))
    ∙ list-passed a.form.now (sound at.In_ok-check_form).0 a.records a.same (full_test a.form.now ∷ []) c.in_ok-check_list.ensures ∙ decided at.In_ok-check_product

pub returns : goal.returns
returns c =
    let a = c.args in
    let at = goal.at.returns c in
    full-none a.form.now (omega (arith, c.product_count.ensures, c.if-product_count-ge-MAX_PRODUCTS.false))
    ∙ list-passed a.form.now (sound at.In_ok-check_form).0 a.records a.same (full_test a.form.now ∷ []) c.in_ok-check_list.ensures ∙ decided at.In_ok-check_product
