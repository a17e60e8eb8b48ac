-- The call that writes the form of a table: its refusals in their order, its answer, and the bytes of its lent room
-- (document 01, "The written form" and "Refusal numbers"). What form is written is crate `cover`'s `written_form`. Read next: crate `text`.
use Rattle.std.specs.Prelude.{List, [], ◌∷◌, ◌++◌, ℕ, length}
use Rattle.table.specs.declared.Refusal.{Refusal}
use Rattle.table.specs.Answers.{number_of}
use Rattle.table.specs.Refusal.{Test, test, size_fault}
use Rattle.table.specs.Decision.{Decision, answer_of, after_of, room_test}
use Rattle.table.specs.Table.{table_tests}
use Rattle.form.specs.Encoding.{encode_form}
use Rattle.cover.specs.WrittenForm.{written_form, form_size_fault}
use Rattle.writing.specs.declared.FormWritten.{FormWritten}

-- The bytes of the form that is written for a table.
unfoldable pub form_bytes : ℕ → List ℕ → List ℕ → List ℕ
form_bytes n on free = encode_form (record { variables = n; products = written_form n on free })

-- The tests before that of the room: refusals 1, 2, 3, 4, then 5, a restriction of too many variables.
abbrev pub form_tests : ℕ → List ℕ → List ℕ → List Test
form_tests n on free = table_tests n on free ++ (test size_fault (form_size_fault n on free) ∷ [])

-- All tests: then 7, the bytes are more than the lent room has.
abbrev pub write_tests : ℕ → List ℕ → List ℕ → List ℕ → List Test
write_tests n on free room = form_tests n on free ++ room_test (form_bytes n on free) room

-- The numbers returned with a form: its bytes and its products.
abbrev pub write_accepted : ℕ → List ℕ → List ℕ → FormWritten
write_accepted n on free = record { refusal = 0; length = length (form_bytes n on free); products = length (written_form n on free) }

-- A refusal returns its number with all other numbers 0.
abbrev pub write_refused : ℕ → FormWritten
write_refused number = record { refusal = number; length = 0; products = 0 }

abbrev pub refused_form : Refusal → FormWritten
refused_form refusal = write_refused (number_of refusal)

-- The call, and the numbers that it returns.
abbrev pub write_call : ℕ → List ℕ → List ℕ → List ℕ → Decision FormWritten
write_call n on free room = record { tests = write_tests n on free room; accepted = write_accepted n on free; refused = write_refused }

unfoldable pub write_answer : ℕ → List ℕ → List ℕ → List ℕ → FormWritten
write_answer n on free room = answer_of (write_call n on free room)

-- The room after the call: the bytes at its front and the rest as lent, or all as lent.
unfoldable pub write_after : ℕ → List ℕ → List ℕ → List ℕ → List ℕ
write_after n on free room = after_of (write_call n on free room) (form_bytes n on free) room
