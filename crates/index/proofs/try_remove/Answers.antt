-- `index::try_remove` meets its contract: the faults before that of the room, then the room's, or the new form in it. Assumes nothing.
use mathlib.Core.Path.{◌≡◌, refl, sym, ap, ap₂, ◌∙◌}
use mathlib.Core.List.{List, [], ◌∷◌, ◌++◌}
use Prim.Native.Nat.{ℕ, ◌+◌, ◌-◌, ◌≤◌, ◌<◌}
use native.Mathlib.Omega.{arith}
use lib.ListN.{length, take, length-append}
use lib.Seq.{length-take-le}
use Rattle.std.specs.Prelude.{Err}
use Rattle.std.proofs.lemmas.Result.{err_from_is_err_and}
use Rattle.table.specs.Refusal.{Fault}
use Rattle.table.specs.Answers.{settled}
use Rattle.table.proofs.Results.{number-nonzero}
use Rattle.table.specs.Refusal.{first_fault}
use Rattle.table.specs.Decision.{front}
use Rattle.records.specs.Kinds.{Bytes, word_record_length, encode_end}
use Rattle.form.specs.Decoding.{form_products}
use Rattle.form.proofs.Encodings.{form-valid}
use Rattle.form_calls.proofs.Answering.{slice-bytes}
use Rattle.index.specs.Answers.{index_refused, refused_index, remove_tests, removed_bytes, last_place, without_last, last_of}
use Rattle.index.proofs.Records.{last_apart}
use Rattle.index.proofs.Forms.{removed-written, removed-length, last_within}
use Rattle.index.proofs.Faulting.{told_by, RemoveSound, remove-sound, remove-ways}
use Rattle.index.proofs.try_remove.Goals as goal
use Rattle.index.proofs.try_remove.Goals.{In_ok-check_remove}

pub returns-in_err-check_remove : goal.returns-in_err-check_remove
returns-in_err-check_remove c =
    let a = c.args in
    let refusal = c.in_err-check_remove.field-0.0 in
    let p = err_from_is_err_and c.from_residual.result c.from_residual.ensures.1 in
    let h = (remove-ways a.form.now a.records a.same a.room.now).faulty (told_by refusal) c.in_err-check_remove.ensures (number-nonzero refusal) (refused_index refusal) refl in
    record { value = ap (settled refused_index) (p.1 ∙ ap Err p.2) ∙ h.0; room_after = h.1 }

-- Past the first test the form is sound and has a product.
none : (c : In_ok-check_remove) → first_fault (remove_tests c.args.form.now c.args.records c.args.same) ≡ 0
none c = sym (ap (λ (f : Fault). f.number) c.in_ok-check_remove.ensures)

sound : (c : In_ok-check_remove) → RemoveSound c.args.form.now c.args.records c.args.same
sound c = let a = c.args in remove-sound a.form.now a.records a.same (none c)

form-bytes : (c : In_ok-check_remove) → Bytes c.args.form.now
form-bytes c = slice-bytes c.args.form.now (λ i. omega (arith, c.type_inv.form i))

pub product_count-products-requires : goal.product_count-products-requires
product_count-products-requires c = (sound c).form-sound

pub last_product-last-requires : goal.last_product-last-requires
last_product-last-requires c =
    let s = sound (goal.at.last_product-last-requires c).In_ok-check_remove in
    record { form = s.form-sound; products_value = c.product_count-products.ensures; le_products = omega (arith, c.product_count-products.ensures, s.some) }

-- Where the last product begins, the end record of the new form fits, and the bytes before it are kept.
module _ (c : In_ok-check_remove) where
  within : last_place c.args.form.now + word_record_length ≤ length c.args.form.now
  within = last_within c.args.form.now (form-bytes c) (sound c).form-sound (sound c).some

  kept : length (take (last_place c.args.form.now) c.args.form.now) ≡ last_place c.args.form.now
  kept = length-take-le (last_place c.args.form.now) c.args.form.now (omega (arith, within))

  -- There is at least one product, and there are at most those of a form.
  some : 1 ≤ length (form_products c.args.form.now)
  some = (sound c).some

  most : length (form_products c.args.form.now) ≤ 64
  most = (form-valid c.args.form.now (sound c).form-sound).short

pub overflow_add-last : goal.overflow_add-last
overflow_add-last c = omega (arith, c.last_product-last.ensures, within (goal.at.overflow_add-last c).In_ok-check_remove)

pub returns-then-room-last : goal.returns-then-room-last
returns-then-room-last c =
    let a = c.args in
    let less : length a.room.now < length (removed_bytes a.form.now) = omega (arith, removed-length a.form.now, c.last_product-last.ensures) in
    let h = (remove-ways a.form.now a.records a.same a.room.now).short (none (goal.at.returns-then-room-last c).In_ok-check_remove) less (index_refused 0 7) refl in
    record { value = h.0; room_after = h.1 }

pub slice_bounds-put_form-end : goal.slice_bounds-put_form-end
slice_bounds-put_form-end c = rw c.last_product-last.ensures (sym (kept (goal.at.slice_bounds-put_form-end c).In_ok-check_remove))

pub overflow_sub-products : goal.overflow_sub-products
overflow_sub-products c = omega (arith, c.product_count-products.ensures, some (goal.at.overflow_sub-products c).In_ok-check_remove)

pub overflow_cast-products : goal.overflow_cast-products
overflow_cast-products c = omega (arith, c.product_count-products.ensures, most (goal.at.overflow_cast-products c).In_ok-check_remove)

pub put_form-requires : goal.put_form-requires
put_form-requires c = omega (arith, c.last_product-last.ensures, rw (← c.last_product-last.ensures) at (kept (goal.at.put_form-requires c).In_ok-check_remove), c.if-room-last.false)

pub form_variables-requires : goal.form_variables-requires
form_variables-requires c = (sound (goal.at.form_variables-requires c).In_ok-check_remove).form-sound

pub overflow_add-result : goal.overflow_add-result
overflow_add-result c = omega (arith, c.last_product-last.ensures, within (goal.at.overflow_add-result c).In_ok-check_remove)

pub overflow_sub-result : goal.overflow_sub-result
overflow_sub-result c = omega (arith, c.product_count-products.ensures, some (goal.at.overflow_sub-result c).In_ok-check_remove)

pub returns : goal.returns
returns c =
    let f = (goal.at.returns c).In_ok-check_remove in
    let a = c.args in
    let s = sound f in
    let ps = form_products a.form.now in
    let counted = c.product_count-products.ensures in
    let place = c.last_product-last.ensures in
    let count : c.product_count-products.result - 1 ≡ length (without_last ps) = omega (arith, counted, ap length (last_apart [] ps s.some), length-append (without_last ps) (last_of [] ps ∷ [])) in
    let long : c.last_product-last.result + word_record_length ≡ length (removed_bytes a.form.now) = omega (arith, place, removed-length a.form.now) in
    let enough : length (removed_bytes a.form.now) ≤ length a.room.now = omega (arith, long) in
    let h = (remove-ways a.form.now a.records a.same a.room.now).whole (none f) enough _ _
    (rw (c.form_variables.ensures, count, long) refl)
    (c.put_form.ensures ∙ ap₂ (λ (k m : ℕ). front ((take k a.form.now ++ []) ++ encode_end (m - 1)) a.room.now) place counted
    ∙ ap (λ (x : List ℕ). front x a.room.now) (sym (removed-written a.form.now (form-bytes f) s.form-sound s.some))) in
    record { value = h.0; room_after = h.1 }
