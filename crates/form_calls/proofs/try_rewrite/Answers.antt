-- `form_calls::try_rewrite` meets its contract: the form's own refusal, then the room's, decide; what was read is written as the bytes that were
-- read. Assumes nothing.
use mathlib.Core.Path.{◌≡◌, refl, sym, ap, ◌∙◌}
use mathlib.Core.List.{List, ◌++◌}
use Prim.Native.Nat.{ℕ, ◌<◌, ◌≤◌}
use native.Mathlib.Omega.{arith}
use lib.ListN.{length, drop}
use Rattle.std.specs.Prelude.{Err}
use Rattle.std.proofs.lemmas.Result.{err_from_is_err_and}
use Rattle.table.specs.Refusal.{fault_at}
use Rattle.table.specs.Answers.{number_of, place_of, settled}
use Rattle.table.proofs.Results.{number-nonzero}
use Rattle.table.specs.Decision.{front}
use Rattle.form.specs.Refusal.{form_fault}
use Rattle.form.proofs.Encodings.{rewritten-same}
use Rattle.form_calls.specs.Reading.{rewritten, rewrite_refused, refused_rewrite}
use Rattle.form_calls.proofs.Answering.{slice-bytes, rewrite-ways, form-found, form-sound}
use Rattle.form_calls.proofs.try_rewrite.Goals as goal
use Rattle.form_calls.proofs.try_rewrite.Goals.{In_ok-check_form}

pub returns-in_err-check_form : goal.returns-in_err-check_form
returns-in_err-check_form c =
    let a = c.args in
    let refusal = c.in_err-check_form.field-0.0 in
    let handed = err_from_is_err_and c.from_residual.result c.from_residual.ensures.1 in
    let h = (rewrite-ways a.bytes.now a.room.now).faulty (fault_at (number_of refusal) (place_of refusal)) (form-found a.bytes.now c.in_err-check_form.ensures) (number-nonzero refusal) (refused_rewrite refusal) refl in
    record { value = ap (settled refused_rewrite) (handed.1 ∙ ap Err handed.2) ∙ h.0; room_after = h.1 }

-- Past the test the bytes are a form, and so what is written is what was read.
sound : (c : In_ok-check_form) → form_fault c.args.bytes.now ≡ 0
sound c = (form-sound c.args.bytes.now c.in_ok-check_form.ensures).0

same : (c : In_ok-check_form) → rewritten c.args.bytes.now ≡ c.args.bytes.now
same c =
    let s = c.args.bytes.now in
    rewritten-same s (slice-bytes s (λ i. omega (arith, c.type_inv.bytes i))) (form-sound s c.in_ok-check_form.ensures).1

pub returns-then-room-bytes : goal.returns-then-room-bytes
returns-then-room-bytes c =
    let a = c.args in
    let e = (goal.at.returns-then-room-bytes c).In_ok-check_form in
    let less : length a.room.now < length (rewritten a.bytes.now) = omega (arith, ap length (same e)) in
    let h = (rewrite-ways a.bytes.now a.room.now).short (sound e) less (rewrite_refused 0 7) refl in
    record { value = h.0; room_after = h.1 }

pub returns : goal.returns
returns c =
    let a = c.args in
    let e = (goal.at.returns c).In_ok-check_form in
    let some : length (rewritten a.bytes.now) ≤ length a.room.now = omega (arith, ap length (same e)) in
    let h = (rewrite-ways a.bytes.now a.room.now).whole (sound e) some _ _
    (ap (λ (l : List ℕ). record { refusal = 0; place = 0; length = length l }) (sym (same e)))
    (ap (λ (l : List ℕ). l ++ drop (length a.bytes.now) a.room.now) c.copy_from_slice.ensures.after ∙ ap (λ (l : List ℕ). front l a.room.now) (sym (same e))) in
    record { value = h.0; room_after = h.1 }
