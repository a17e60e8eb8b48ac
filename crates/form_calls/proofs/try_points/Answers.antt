-- `form_calls::try_points` meets its contract: the form's own refusal, then the room's, decide; the points below 2 ^ n are those of the form.
-- Assumes nothing.
use mathlib.Core.Path.{◌≡◌, refl, ap, ◌∙◌}
use mathlib.Core.List.{List}
use Prim.Native.Nat.{ℕ, ◌<◌, ◌≤◌}
use native.Mathlib.Omega.{arith}
use lib.ListN.{length}
use Rattle.gf2.specs.Finite.{select}
use Rattle.std.specs.Prelude.{Err}
use Rattle.std.proofs.lemmas.Result.{err_from_is_err_and}
use Rattle.table.specs.Refusal.{fault_at}
use Rattle.table.specs.Answers.{number_of, place_of, settled}
use Rattle.table.proofs.Results.{number-nonzero}
use Rattle.table.specs.Decision.{front}
use Rattle.form.specs.Form.{form_at}
use Rattle.form.specs.Decoding.{form_variables, decode_form}
use Rattle.form.specs.Refusal.{IsForm, form_fault}
use Rattle.form.proofs.Accepting.{form-begins}
use Rattle.form_calls.specs.Reading.{points_read, points_refused, refused_points}
use Rattle.form_calls.proofs.Answering.{points-below, points-ways, form-found, form-sound}
use Rattle.form_calls.proofs.try_points.Goals as goal
use Rattle.form_calls.proofs.try_points.Goals.{After-count_points-count, After-point_count-size, In_ok-check_form}

pub returns-in_err-check_form : goal.returns-in_err-check_form
returns-in_err-check_form c =
    let a = c.args in
    let refusal = c.in_err-check_form.field-0.0 in
    let handed = err_from_is_err_and c.from_residual.result c.from_residual.ensures.1 in
    let h = (points-ways a.bytes.now a.room.now).faulty (fault_at (number_of refusal) (place_of refusal)) (form-found a.bytes.now c.in_err-check_form.ensures) (number-nonzero refusal) (refused_points refusal) refl in
    record { value = ap (settled refused_points) (handed.1 ∙ ap Err handed.2) ∙ h.0; room_after = h.1 }

-- Past the test the bytes are a form.
sound : (c : In_ok-check_form) → form_fault c.args.bytes.now ≡ 0
sound c = (form-sound c.args.bytes.now c.in_ok-check_form.ensures).0

accepted : (c : In_ok-check_form) → IsForm c.args.bytes.now
accepted c = (form-sound c.args.bytes.now c.in_ok-check_form.ensures).1

pub bounds-bytes-1 : goal.bounds-bytes-1
bounds-bytes-1 c = (form-begins c.args.bytes.now (accepted (goal.at.bounds-bytes-1 c).In_ok-check_form)).0

pub overflow_cast-variables : goal.overflow_cast-variables
overflow_cast-variables c = omega (arith, (form-begins c.args.bytes.now (accepted (goal.at.overflow_cast-variables c).In_ok-check_form)).1)

pub point_count-size-requires : goal.point_count-size-requires
point_count-size-requires c = (form-begins c.args.bytes.now (accepted (goal.at.point_count-size-requires c).In_ok-check_form)).1

pub count_points-count-requires : goal.count_points-count-requires
count_points-count-requires c = accepted (goal.at.count_points-count-requires c).In_ok-check_form

-- The points below the bound that the code takes are all of them, and the count is theirs.
points : (c : After-point_count-size)
    → let bytes = c.args.bytes.now in
    select (form_at (decode_form bytes)) c.point_count-size.result ≡ points_read bytes
points c = points-below c.args.bytes.now c.point_count-size.ensures

counted : (c : After-count_points-count) → c.count_points-count.result ≡ length (points_read c.args.bytes.now)
counted c = c.count_points-count.ensures ∙ ap length (points-below c.args.bytes.now c.point_count-size.ensures)

pub returns-then-room-count : goal.returns-then-room-count
returns-then-room-count c =
    let a = c.args in
    let less : length a.room.now < length (points_read a.bytes.now) = omega (arith, counted (goal.at.returns-then-room-count c).After-count_points-count) in
    let h = (points-ways a.bytes.now a.room.now).short (sound (goal.at.returns-then-room-count c).In_ok-check_form) less (points_refused 0 7) refl in
    record { value = h.0; room_after = h.1 }

pub write_points-requires : goal.write_points-requires
write_points-requires c =
    record {
      form = accepted (goal.at.write_points-requires c).In_ok-check_form;
      size_in_bounds = omega (arith, c.count_points-count.ensures, c.if-room-count.false);
    }

pub returns : goal.returns
returns c =
    let a = c.args in
    let e = (goal.at.returns c).In_ok-check_form in
    let n = counted (goal.at.returns c).After-count_points-count in
    let some : length (points_read a.bytes.now) ≤ length a.room.now = omega (arith, n) in
    let h = (points-ways a.bytes.now a.room.now).whole (sound e) some _ _
    (ap (λ (k : ℕ). record { refusal = 0; place = 0; variables = form_variables a.bytes.now; count = k }) n)
    (c.write_points.ensures ∙ ap (λ (l : List ℕ). front l a.room.now) (points (goal.at.returns c).After-point_count-size)) in
    record { value = h.0; room_after = h.1 }
