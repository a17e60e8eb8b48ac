-- The answer of reading a stored table into two lent rooms, and what stands in the rooms afterwards (document 01, "Refusal numbers").
-- Read next: crate `space`, which completes the table.
use Rattle.std.specs.Prelude.{◌||◌, List, [], ◌∷◌, ◌++◌, ℕ, ltb, length}
use Rattle.table.specs.Refusal.{Test, test, first_fault, first_place, room_fault}
use Rattle.table.specs.declared.Refusal.{Refusal}
use Rattle.table.specs.Answers.{number_of, place_of}
use Rattle.table.specs.Decision.{Decision, answer_of, after_of}
use Rattle.stored.specs.declared.TableRead.{TableRead}
use Rattle.stored.specs.Marks.{stored_variables, stored_on, stored_free}
use Rattle.stored.specs.Stored.{stored_tests}

-- The tests of reading, for rooms of the given lengths: those of the stored table, then that a list is longer than its room.
abbrev pub read_tests : List ℕ → ℕ → ℕ → List Test
read_tests bytes on_room free_room =
    stored_tests bytes ++ (test room_fault (ltb on_room (length (stored_on bytes)) || ltb free_room (length (stored_free bytes))) ∷ [])

-- The refusal of reading, or 0: the one decision behind the answer and both rooms; and the place that goes with it.
unfoldable pub read_fault : List ℕ → ℕ → ℕ → ℕ
read_fault bytes on_room free_room = first_fault (read_tests bytes on_room free_room)

unfoldable pub read_place : List ℕ → ℕ → ℕ → ℕ
read_place bytes on_room free_room = first_place (read_tests bytes on_room free_room)

-- A refusal returns its number and its place with all other numbers 0.
abbrev pub read_refused : ℕ → ℕ → TableRead
read_refused place fault = record { refusal = fault; place = place; variables = 0; on_count = 0; free_count = 0 }

-- What the call gives for a refusal.
abbrev pub refused_read : Refusal → TableRead
refused_read refusal = read_refused (place_of refusal) (number_of refusal)

-- An accepted table returns n and the lengths of both lists.
abbrev pub read_accepted : List ℕ → TableRead
read_accepted bytes =
    record { refusal = 0; place = 0; variables = stored_variables bytes; on_count = length (stored_on bytes); free_count = length (stored_free bytes) }

-- The call, and the numbers that it returns.
abbrev pub read_call : List ℕ → ℕ → ℕ → Decision TableRead
read_call bytes on_room free_room =
    record { tests = read_tests bytes on_room free_room; accepted = read_accepted bytes; refused = read_refused (read_place bytes on_room free_room) }

unfoldable pub read_answer : List ℕ → ℕ → ℕ → TableRead
read_answer bytes on_room free_room = answer_of (read_call bytes on_room free_room)

-- The rooms after the call: the points at their front and the rest as lent, or all as lent where the call is refused.
unfoldable pub read_on_after : List ℕ → List ℕ → List ℕ → List ℕ
read_on_after bytes on_room free_room = after_of (read_call bytes (length on_room) (length free_room)) (stored_on bytes) on_room

unfoldable pub read_free_after : List ℕ → List ℕ → List ℕ → List ℕ
read_free_after bytes on_room free_room = after_of (read_call bytes (length on_room) (length free_room)) (stored_free bytes) free_room
