-- How a public call decides: the first test that applies gives the refusal, and the answer and every lent slice go by that one decision
-- (document 01, "Refusal numbers"). Read next: Table.
use Rattle.std.specs.Prelude.{cond, List, ◌++◌, ◌∷◌, [], ℕ, eqb, ltb, length, drop}
use Rattle.table.specs.Refusal.{Test, test, first_fault, room_fault}

-- What is accepted where no test applies, and what is given with a refusal number otherwise.
abbrev pub decide : {A : Type 0} → List Test → A → (ℕ → A) → A
decide tests accepted refused = cond (eqb (first_fault tests) 0) accepted (refused (first_fault tests))

-- A lent room with an answer at its front: the rest stays as lent.
abbrev pub front : {A : Type 0} → List A → List A → List A
front answer room = answer ++ drop (length answer) room

-- A lent room after the call: with the answer at its front, or, if the call is refused, as lent.
abbrev pub room_after : {A : Type 0} → List Test → List A → List A → List A
room_after tests answer room = decide tests (front answer room) (λ number. room)

-- A public call on given arguments: its tests in their order, what it returns where none applies, and what it returns with a refusal number.
pub record Decision (A : Type 0) : Type 0 where
  pub tests : List Test
  pub accepted : A
  pub refused : ℕ → A

-- What the call returns, and what a room holds afterwards to which it writes an answer: both by the one decision.
abbrev pub answer_of : {A : Type 0} → Decision A → A
answer_of d = decide d.tests d.accepted d.refused

abbrev pub after_of : {A B : Type 0} → Decision A → List B → List B → List B
after_of d answer room = room_after d.tests answer room

-- Refusal 7, the last test of a call with a room: the answer is longer than its lent room.
abbrev pub room_test : {A : Type 0} → List A → List A → List Test
room_test answer room = test room_fault (ltb (length room) (length answer)) ∷ []
