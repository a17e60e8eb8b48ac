-- What the walks over the bytes of tables and forms share: the body of a record, the end record, the walk from record to record, and the
-- refusal of what it finds (document 01, "The written form"; the faults and their places are those of document 02, No. 3).
-- Read next: Faults.
use Rattle.std.specs.Prelude.{Bool, cond, not, Result, Ok, Err, List, [], ◌∷◌, map, ℕ, zero, suc, ◌+◌, eqb, leb, length, get_or, drop}
use Rattle.table.specs.Refusal.{Fault}
use Rattle.table.specs.Refusal.{Test, test_at, fault_at}
use Rattle.records.specs.declared.Kind.{Kind}
use Rattle.records.specs.Kinds.{word_of}
use Rattle.table.specs.declared.BytesFault.{BytesFault}
use Rattle.table.specs.declared.BytesFault.TheVariants.{Missing, WrongCount, After}
use Rattle.table.specs.Answers.{bytes_fault_number, bytes_fault_place}
use Rattle.records.specs.Kinds.{RecordHead}
use Rattle.std.specs.declared.ops.ControlFlow.{ControlFlow}
use Rattle.std.specs.declared.ops.ControlFlow.TheVariants.{Continue, Break}

-- What a walk finds: what is asked for, with its number of points or products, or the first fault from the left with its place.
abbrev pub Walk : Type 0
Walk = Result ℕ BytesFault

-- What it finds at one record: a whole one, with the length of its body, after which it goes on; or what it ends with.
abbrev pub Step : Type 0
Step = ControlFlow Walk ℕ

-- A record by the decision over its kind byte: an unknown kind is refused, and a known one judged with the length of its body.
abbrev pub head_step : RecordHead → (Kind → ℕ → Step) → Step
head_step (Ok (kind, l)) judge = judge kind l
head_step (Err fault) judge = Break (Err fault)

-- The body of the record whose kind stands at the place, of the given length, before the bytes that follow that kind: it is judged only when
-- all of it is there, and a cut one is missing bytes at the length of the input (document 02, No. 3).
abbrev pub body_step : ℕ → ℕ → List ℕ → Step
body_step l place rest = cond (leb l (length rest)) (Continue l) (Break (Err (Missing (place + 1 + length rest))))

-- After the end record nothing may stand.
abbrev pub after_end : ℕ → ℕ → List ℕ → Walk
after_end count place [] = Ok count
after_end count place (byte ∷ rest) = Err (After place)

-- The body of the end record, once all of it is there, is the number of points or products before it; then nothing may follow.
abbrev pub end_step : Step → ℕ → ℕ → List ℕ → Step
end_step (Break fault) count place rest = Break fault
end_step (Continue l) count place rest =
    Break
    (cond (eqb (word_of (get_or rest 0 0) (get_or rest 1 0)) count) (after_end count (place + 1 + l) (drop l rest)) (Err (WrongCount (place + 1))))

-- A whole record is passed, and the walk goes on; otherwise it ends.
abbrev pub go_on : Step → (ℕ → Walk) → Walk
go_on (Continue l) next = next l
go_on (Break end) next = end

-- The walk over the bytes from a place on, record by record, once the given number of bytes of a body is passed. It goes by what lies behind
-- the place: `step` judges the record there, given its kind byte, its place and the bytes after that byte; `next` says what lies behind once
-- it is passed, given its kind byte and the bytes after it; and `ending` is what is found where no byte is left.
module _ {S : Type 0} (step : S → ℕ → ℕ → List ℕ → Step) (next : S → ℕ → List ℕ → S) (ending : S → ℕ → Walk) where
  unfoldable pub walk_by : ℕ → S → ℕ → List ℕ → Walk
  walk_by skip behind place [] = ending behind place
  walk_by zero behind place (byte ∷ rest) = go_on (step behind byte place rest) (λ l. walk_by l (next behind byte rest) (place + 1) rest)
  walk_by (suc skip) behind place (byte ∷ rest) = walk_by skip behind (place + 1) rest

-- A table or a form whose bytes end before its end record misses bytes there, whatever lies behind.
abbrev pub bytes_missing : {S : Type 0} → S → ℕ → Walk
bytes_missing behind place = Err (Missing place)

-- The refusal number of what a walk found, 0 for what was asked for.
abbrev pub fault_number : Walk → ℕ
fault_number (Ok count) = 0
fault_number (Err fault) = bytes_fault_number fault

-- The place of the fault, 0 without one.
abbrev pub fault_place : Walk → ℕ
fault_place (Ok count) = 0
fault_place (Err fault) = bytes_fault_place fault

-- Both as one value.
abbrev pub fault_found : Walk → Fault
fault_found found = fault_at (fault_number found) (fault_place found)

-- A walk met a fault.
abbrev pub is_fault : Walk → Bool
is_fault found = not (eqb (fault_number found) 0)

-- The tests of the layout, one for each of these numbers: that the walk met the fault of that number, with the place where it did.
abbrev pub layout_tests : List ℕ → Walk → List Test
layout_tests numbers found = map (λ number. test_at number (fault_place found) (eqb (fault_number found) number)) numbers
