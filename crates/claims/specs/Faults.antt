-- What is claimed of the refusals 20 to 27 and their places (document 02, No. 3), of tables and forms alike: one record over what a call that reads bytes
-- says of any bytes. The rules are in crates/records/specs/Faults.antt; what differs between a table and a form is in `table_rules` and `form_rules`. Read
-- next: Bits.
use Rattle.std.specs.Prelude.{◌≡◌, true, false, ◌⊎◌, ◌≢◌, ◌↔◌, List, [], ◌∷◌, ◌++◌, ℕ, ◌≤◌, ◌<◌, length, take}
use Rattle.gf2.specs.Finite.{Mem}
use Rattle.table.specs.Refusal.{Fault}
use Rattle.table.specs.Refusal.{has_place, fault_at, bytes_missing_fault, bytes_after_fault}
use Rattle.records.specs.Kinds.{Bytes}
use Rattle.records.specs.Faults.{Record, AllWhole, records_bytes, place_after, ended, Rules, faults_after, Applies, fault_end}
use Rattle.stored.specs.Encoding.{Encoded}
use Rattle.stored.specs.Faults.{table_rules}
use Rattle.stored.specs.Stored.{stored_fault}
use Rattle.stored.specs.Reading.{read_answer}
use Rattle.compare.specs.Answer.{compare_answer}
use Rattle.form.specs.Encoding.{EncodedForm}
use Rattle.form.specs.Faults.{form_rules}
use Rattle.form_calls.specs.Reading.{points_answer, rewrite_answer}
use Rattle.lines.specs.Lines.{fault_line}
use Rattle.report.specs.Report.{report_text}

-- ---- the faults of an input

-- The input has a fault of this number at this place: it stands right after some whole records.
pub record FaultOf (rules : Rules) (bytes : List ℕ) (number place : ℕ) : Type 0 where
  pub before : List Record
  pub rest : List ℕ
  pub whole : AllWhole before
  pub split : bytes ≡ records_bytes before ++ rest
  pub broken : Applies (faults_after rules before rest) number place

-- It is the one furthest to the left, and of those at one byte the one of the smallest number.
pub record FirstFault (rules : Rules) (bytes : List ℕ) (number place : ℕ) : Type 0 where
  pub fault : FaultOf rules bytes number place
  pub first : (other_number other_place : ℕ) → FaultOf rules bytes other_number other_place → (place < other_place) ⊎ ((place ≡ other_place) × (number ≤ other_number))

-- ---- what a call says of them

-- The fault is one by the rules, and the whole records before it begin an encoding, with some bytes after them; or they end right where the longest input
-- does, without an end record. So nothing before the record at fault is wrong. (4,097 points of a table begin none, though the walk passes them.)
pub record Begun (rules : Rules) (Encodes : List ℕ → Type 0) (bytes : List ℕ) (fault : Fault) : Type 0 where
  pub known : FaultOf rules bytes fault.number fault.place
  pub begins : ((more : List ℕ) × Encodes (records_bytes known.before ++ more)) ⊎ ((ended known.before ≡ false) × (rules.is_longest (place_after known.before) ≡ true))

-- What a call says of bytes, by the rules for them and by which bytes are encoded: the number of a refusal, 0 if it accepts them, and its place.
pub record Tells (rules : Rules) (Encodes : List ℕ → Type 0) (call : List ℕ → Fault) : Type 0 where
  -- A number of 20 to 27 is given exactly where the bytes are no encoding: so what is accepted is as before. An encoding that is cut anywhere misses bytes
  -- there, and one with bytes after it has them after its end.
  pub refused : (bytes : List ℕ) → Bytes bytes → (has_place (call bytes).number ≡ true) ↔ (Encodes bytes → ⊥)
  pub accepted : (bytes : List ℕ) → Bytes bytes → (has_place (call bytes).number ≡ false) ↔ Encodes bytes
  pub cut : (front : List ℕ) (byte : ℕ) (more : List ℕ) → Encodes (front ++ (byte ∷ more)) → call front ≡ fault_at bytes_missing_fault (length front)
  pub extended : (bytes : List ℕ) (byte : ℕ) (more : List ℕ) → Encodes bytes → call (bytes ++ (byte ∷ more)) ≡ fault_at bytes_after_fault (length bytes)
  -- Which number, and which place: those of the fault that stands furthest to the left, and of two at one byte the smaller number. Without such a number no
  -- rule is broken, and the place is 0.
  pub exactly : (bytes : List ℕ) (number place : ℕ) → ((has_place number ≡ true) × (call bytes ≡ fault_at number place)) ↔ FirstFault rules bytes number place
  pub without : (bytes : List ℕ) → has_place (call bytes).number ≡ false → ((call bytes).place ≡ 0) × ((number place : ℕ) → FaultOf rules bytes number place → ⊥)
  -- The place is at most the length, and is the length exactly where bytes are missing.
  pub inside : (bytes : List ℕ) → (call bytes).place ≤ length bytes
  pub at_length : (bytes : List ℕ) → has_place (call bytes).number ≡ true → ((call bytes).place ≡ length bytes) ↔ ((call bytes).number ≡ bytes_missing_fault)
  -- Nothing earlier is wrong.
  pub begun : (bytes : List ℕ) → Bytes bytes → has_place (call bytes).number ≡ true → Begun rules Encodes bytes (call bytes)
  -- Nothing later matters: with the same bytes up to the last one that was judged any other input has the same number and place.
  pub decided : (bytes other : List ℕ) → has_place (call bytes).number ≡ true → (call bytes).number ≢ bytes_missing_fault
      → take (fault_end (call bytes).number (call bytes).place) other ≡ take (fault_end (call bytes).number (call bytes).place) bytes → call other ≡ call bytes

-- What the calls that read bytes say of them.
abbrev pub table_refusal : List ℕ → List ℕ → List ℕ → Fault
table_refusal bytes on free = let answer = read_answer bytes (length on) (length free) in fault_at answer.refusal answer.place

abbrev pub points_refusal : List ℕ → List ℕ → Fault
points_refusal bytes room = fault_at (points_answer bytes room).refusal (points_answer bytes room).place

abbrev pub rewrite_refusal : List ℕ → List ℕ → Fault
rewrite_refusal bytes room = fault_at (rewrite_answer bytes room).refusal (rewrite_answer bytes room).place

abbrev pub comparison_refusal : List ℕ → List ℕ → ℕ → List ℕ → Fault
comparison_refusal left right first room = fault_at (compare_answer left right first room).refusal (compare_answer left right first room).place

pub record FaultsTold : Type 0 where
  -- Whatever rooms are lent.
  pub read_table : (on free : List ℕ) → Tells table_rules Encoded (λ bytes. table_refusal bytes on free)
  pub form_points : (room : List ℕ) → Tells form_rules EncodedForm (λ bytes. points_refusal bytes room)
  pub form_rewrite : (room : List ℕ) → Tells form_rules EncodedForm (λ bytes. rewrite_refusal bytes room)
  -- Of these numbers a table has 20, 21, 25 and 26 alone, and 26 at 12,293 where it is longer and no earlier byte is at fault, whatever byte stands there.
  pub table-numbers : (bytes on free : List ℕ) → has_place (table_refusal bytes on free).number ≡ true → Mem (table_refusal bytes on free).number (20 ∷ 21 ∷ 25 ∷ 26 ∷ [])
  pub longer : (bytes on free : List ℕ) → 12293 < length bytes → ((number place : ℕ) → FaultOf table_rules bytes number place → 12293 ≤ place)
      → table_refusal bytes on free ≡ fault_at 26 12293
  -- A comparison says of its left table what reading says of it, and of its right one where the left one is accepted; reading with any rooms. It says
  -- nothing else of bytes.
  pub compare-left : (left right : List ℕ) (first : ℕ) (room on free : List ℕ) → has_place (table_refusal left on free).number ≡ true
      → comparison_refusal left right first room ≡ table_refusal left on free
  pub compare-right : (left right : List ℕ) (first : ℕ) (room on free : List ℕ) → (table_refusal left on free).number ≡ 0 → has_place (table_refusal right on free).number ≡ true
      → comparison_refusal left right first room ≡ table_refusal right on free
  pub compare-only : (left right : List ℕ) (first : ℕ) (room on free : List ℕ) → has_place (comparison_refusal left right first room).number ≡ true
      → (comparison_refusal left right first room ≡ table_refusal left on free) ⊎ ((stored_fault left ≡ 0) × (comparison_refusal left right first room ≡ table_refusal right on free))
  -- The report prints it.
  pub report : (bytes on free : List ℕ) → has_place (table_refusal bytes on free).number ≡ true
      → report_text bytes ≡ fault_line (table_refusal bytes on free).number (table_refusal bytes on free).place
