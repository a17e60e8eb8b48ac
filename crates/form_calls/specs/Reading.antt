-- The answers of the calls that read a form, and what stands in the lent rooms afterwards (document 01, "Refusal numbers").
-- Read next: crate `cover`.
use Rattle.std.specs.Prelude.{List, ◌++◌, ℕ, length}
use Rattle.table.specs.declared.Refusal.{Refusal}
use Rattle.table.specs.Refusal.{Test, first_place}
use Rattle.table.specs.Answers.{number_of, place_of}
use Rattle.table.specs.Decision.{Decision, answer_of, after_of, room_test}
use Rattle.form.specs.Form.{form_points}
use Rattle.form.specs.Encoding.{encode_form}
use Rattle.form.specs.Decoding.{form_variables, decode_form}
use Rattle.form.specs.Refusal.{form_tests}
use Rattle.form_calls.specs.declared.FormPoints.{FormPoints}
use Rattle.form_calls.specs.declared.FormRewrite.{FormRewrite}

-- The points of the form that the bytes stand for, rising.
abbrev pub points_read : List ℕ → List ℕ
points_read bytes = form_points (decode_form bytes)

-- The tests of reading the points into a lent room: those of the form's bytes, then that the points are more than the room has places.
abbrev pub points_tests : List ℕ → List ℕ → List Test
points_tests bytes room = form_tests bytes ++ room_test (points_read bytes) room

-- The numbers returned with the points: n, and how many points there are.
abbrev pub points_accepted : List ℕ → FormPoints
points_accepted bytes = record { refusal = 0; place = 0; variables = form_variables bytes; count = length (points_read bytes) }

-- A refusal returns its number and its place with all other numbers 0 (document 01, "Refusal numbers"; document 02, No. 3).
abbrev pub points_refused : ℕ → ℕ → FormPoints
points_refused place number = record { refusal = number; place = place; variables = 0; count = 0 }

abbrev pub refused_points : Refusal → FormPoints
refused_points refusal = points_refused (place_of refusal) (number_of refusal)

-- The call, and the numbers that it returns.
abbrev pub points_call : List ℕ → List ℕ → Decision FormPoints
points_call bytes room =
    record { tests = points_tests bytes room; accepted = points_accepted bytes; refused = points_refused (first_place (points_tests bytes room)) }

unfoldable pub points_answer : List ℕ → List ℕ → FormPoints
points_answer bytes room = answer_of (points_call bytes room)

-- The room after the call: the points at its front and the rest as lent, or all as lent.
unfoldable pub points_after : List ℕ → List ℕ → List ℕ
points_after bytes room = after_of (points_call bytes room) (points_read bytes) room

-- What was read, written: that it is the bytes that were read is `rewritten-same`.
abbrev pub rewritten : List ℕ → List ℕ
rewritten bytes = encode_form (decode_form bytes)

-- The tests of writing it to a lent room: those of the form's bytes, then that it is longer than the room.
abbrev pub rewrite_tests : List ℕ → List ℕ → List Test
rewrite_tests bytes room = form_tests bytes ++ room_test (rewritten bytes) room

-- The number returned with it is its length.
abbrev pub rewrite_accepted : List ℕ → FormRewrite
rewrite_accepted bytes = record { refusal = 0; place = 0; length = length (rewritten bytes) }

-- A refusal returns its number and its place with the length 0.
abbrev pub rewrite_refused : ℕ → ℕ → FormRewrite
rewrite_refused place number = record { refusal = number; place = place; length = 0 }

abbrev pub refused_rewrite : Refusal → FormRewrite
refused_rewrite refusal = rewrite_refused (place_of refusal) (number_of refusal)

-- The call, and the numbers that it returns.
abbrev pub rewrite_call : List ℕ → List ℕ → Decision FormRewrite
rewrite_call bytes room =
    record { tests = rewrite_tests bytes room; accepted = rewrite_accepted bytes; refused = rewrite_refused (first_place (rewrite_tests bytes room)) }

unfoldable pub rewrite_answer : List ℕ → List ℕ → FormRewrite
rewrite_answer bytes room = answer_of (rewrite_call bytes room)

-- The room after the call: the bytes at its front and the rest as lent, or all as lent.
unfoldable pub rewrite_after : List ℕ → List ℕ → List ℕ
rewrite_after bytes room = after_of (rewrite_call bytes room) (rewritten bytes) room
