-- `index::try_append` meets its contract: the faults before that of the room, then the room's, or the new form in it. Assumes nothing.
use mathlib.Core.Path.{◌≡◌, refl, sym, ap, ◌∙◌}
use mathlib.Core.List.{List, [], ◌∷◌, ◌++◌}
use Prim.Native.Nat.{ℕ, ◌+◌, ◌-◌, ◌≤◌, ◌<◌}
use native.Mathlib.Omega.{arith}
use lib.ListN.{length, take, length-append}
use lib.Seq.{length-take-le}
use borrow.Author.Tests.{ltb-true, ltb-false}
use Rattle.std.specs.Prelude.{Err}
use Rattle.std.proofs.lemmas.Result.{err_from_is_err_and}
use Rattle.table.specs.Refusal.{Fault}
use Rattle.table.specs.Answers.{settled}
use Rattle.table.proofs.Results.{number-nonzero}
use Rattle.table.specs.Refusal.{first_fault}
use Rattle.table.specs.Decision.{front}
use Rattle.records.specs.Kinds.{Bytes, word_record_length, encode_end}
use Rattle.form.specs.Decoding.{form_products, decode_product}
use Rattle.form_calls.proofs.Answering.{slice-bytes}
use Rattle.index.specs.Answers.{index_refused, refused_index, append_tests, appended_bytes}
use Rattle.index.proofs.Forms.{front_length, appended-written, appended-length}
use Rattle.index.proofs.Faulting.{told_by, AppendSound, append-sound, append-ways}
use Rattle.index.proofs.try_append.Goals as goal
use Rattle.index.proofs.try_append.Goals.{In_ok-check_append, Else-too_short}

pub returns-in_err-check_append : goal.returns-in_err-check_append
returns-in_err-check_append c =
    let a = c.args in
    let refusal = c.in_err-check_append.field-0.0 in
    let p = err_from_is_err_and c.from_residual.result c.from_residual.ensures.1 in
    let h = (append-ways a.form.now a.product.now a.records a.same a.room.now).faulty (told_by refusal) c.in_err-check_append.ensures (number-nonzero refusal) (refused_index refusal) refl in
    record { value = ap (settled refused_index) (p.1 ∙ ap Err p.2) ∙ h.0; room_after = h.1 }

-- Past the first test the form and the product are sound.
none : (c : In_ok-check_append) → first_fault (append_tests c.args.form.now c.args.product.now c.args.records c.args.same) ≡ 0
none c = sym (ap (λ (f : Fault). f.number) c.in_ok-check_append.ensures)

sound : (c : In_ok-check_append) → AppendSound c.args.form.now c.args.product.now c.args.records c.args.same
sound c =
    let a = c.args in
    append-sound a.form.now a.product.now a.records a.same (none c)

form-bytes : (c : In_ok-check_append) → Bytes c.args.form.now
form-bytes c = slice-bytes c.args.form.now (λ i. omega (arith, c.type_inv.form i))

product-bytes : (c : In_ok-check_append) → Bytes c.args.product.now
product-bytes c = slice-bytes c.args.product.now (λ i. omega (arith, c.type_inv.product i))

-- So the new form is as long as the two together.
long : (c : In_ok-check_append) → length (appended_bytes c.args.form.now c.args.product.now) ≡ length c.args.form.now + length c.args.product.now
long c = appended-length c.args.form.now c.args.product.now (form-bytes c) (sound c).form-sound (product-bytes c) (sound c).product-sound

-- The form without its end record is kept.
abbrev end : In_ok-check_append → ℕ
end c = length c.args.form.now - word_record_length

ended : (c : In_ok-check_append) → end c + word_record_length ≡ length c.args.form.now
ended c = omega (arith, front_length c.args.form.now (form-bytes c) (sound c).form-sound)

kept : (c : In_ok-check_append) → length (take (end c) c.args.form.now) ≡ end c
kept c = length-take-le (end c) c.args.form.now (omega arith)

pub returns-then-too_short : goal.returns-then-too_short
returns-then-too_short c =
    let a = c.args in
    let e = (goal.at.returns-then-too_short c).In_ok-check_append in
    let less = ltb-true (length a.room.now) (length a.form.now + length a.product.now) (sym c.too_short.ensures ∙ c.if-too_short.true) in
    let short : length a.room.now < length (appended_bytes a.form.now a.product.now) = omega (arith, long e, less) in
    let h = (append-ways a.form.now a.product.now a.records a.same a.room.now).short (none e) short (index_refused 0 7) refl in
    record { value = h.0; room_after = h.1 }

-- Past the second test the room has place for it.
enough : (c : Else-too_short) → length c.args.form.now + length c.args.product.now ≤ length c.args.room.now
enough c =
    let a = c.args in
    ltb-false (length a.room.now) (length a.form.now + length a.product.now) (sym c.too_short.ensures ∙ c.if-too_short.false)

pub overflow_sub-end : goal.overflow_sub-end
overflow_sub-end c = omega (arith, ended (goal.at.overflow_sub-end c).In_ok-check_append)

pub product_count-products-requires : goal.product_count-products-requires
product_count-products-requires c = (sound (goal.at.product_count-products-requires c).In_ok-check_append).form-sound

pub overflow_add-products : goal.overflow_add-products
overflow_add-products c = omega (arith, c.product_count-products.ensures, (sound (goal.at.overflow_add-products c).In_ok-check_append).few)

pub slice_bounds-put_form-end : goal.slice_bounds-put_form-end
slice_bounds-put_form-end c = sym (kept (goal.at.slice_bounds-put_form-end c).In_ok-check_append)

pub overflow_cast-products : goal.overflow_cast-products
overflow_cast-products c = omega (arith, c.product_count-products.ensures, (sound (goal.at.overflow_cast-products c).In_ok-check_append).few)

pub put_form-requires : goal.put_form-requires
put_form-requires c =
    let at = goal.at.put_form-requires c in
    omega (arith, kept at.In_ok-check_append, ended at.In_ok-check_append, enough at.Else-too_short)

pub form_variables-requires : goal.form_variables-requires
form_variables-requires c = (sound (goal.at.form_variables-requires c).In_ok-check_append).form-sound

pub overflow_add-result : goal.overflow_add-result
overflow_add-result c = omega (arith, enough (goal.at.overflow_add-result c).Else-too_short)

pub returns : goal.returns
returns c =
    let f = (goal.at.returns c).In_ok-check_append in
    let a = c.args in
    let s = sound f in
    let written = appended-written a.form.now (form-bytes f) s.form-sound a.product.now (product-bytes f) s.product-sound (end f) (ended f) in
    let count : c.product_count-products.result + 1 ≡ length (form_products a.form.now ++ (decode_product a.product.now ∷ []))
    = ap (λ (m : ℕ). m + 1) c.product_count-products.ensures ∙ sym (length-append (form_products a.form.now) (decode_product a.product.now ∷ [])) in
    let some : length (appended_bytes a.form.now a.product.now) ≤ length a.room.now = omega (arith, long f, enough (goal.at.returns c).Else-too_short) in
    let h = (append-ways a.form.now a.product.now a.records a.same a.room.now).whole (none f) some _ _
    (rw (c.form_variables.ensures, count, long f) refl)
    (c.put_form.ensures ∙ ap (λ (m : ℕ). front ((take (end f) a.form.now ++ a.product.now) ++ encode_end (m + 1)) a.room.now) c.product_count-products.ensures ∙ ap (λ (l : List ℕ). front l a.room.now) (sym written)) in
    record { value = h.0; room_after = h.1 }
