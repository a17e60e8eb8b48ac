-- What the call that gives the report needs: reading with rooms for every point refuses just what the stored table refuses, a text at the front of
-- lent bytes, and the answer and the room by the one decision. Read next: Examples.
use mathlib.Core.Path.{◌≡◌, refl, sym, ap, ◌∙◌}
use mathlib.Core.Bool.{Bool, true, false, cond}
use mathlib.Core.Logic.{◌≢◌}
use mathlib.Core.List.{List, [], ◌∷◌}
use Prim.Native.Nat.{ℕ, ◌+◌, ◌^◌, ◌≤◌, ◌<◌}
use native.Mathlib.Decide.{ℕ_discrete, dec_lt}
use native.Mathlib.Omega.{arith}
use lib.Dec.{ltb}
use lib.Pow.{pow_mono}
use lib.ListN.{length, take, drop}
use lib.Seq.{take_at, take_all, length-take-le}
use borrow.Author.Tests.{le-ltb}
use Rattle.gf2.proofs.Finite.{rising-length}
use Rattle.table.specs.Refusal.{Test, first_fault, room_fault}
use Rattle.table.specs.Refusal.{Fault}
use Rattle.table.specs.Decision.{front}
use Rattle.table.specs.Table.{Accepted}
use Rattle.table.specs.Flags.{max_points}
use Rattle.table.proofs.Fill.{fill-length}
use Rattle.table.proofs.Decide.{decide-accepted, decide-refused, call-short, call-accepted}
use Rattle.stored.specs.declared.TableRead.{TableRead}
use Rattle.records.specs.Walks.{fault_number, fault_place}
use Rattle.records.proofs.Numbers.{some_number}
use Rattle.stored.specs.Layout.{walked, longest_table}
use Rattle.stored.specs.Marks.{stored_variables, stored_on, stored_free}
use Rattle.stored.specs.Stored.{stored_tests, stored_fault, stored_place}
use Rattle.stored.specs.Reading.{read_fault, read_accepted, read_answer, read_on_after, read_free_after}
use Rattle.stored.proofs.Laying.{too_long}
use Rattle.stored.proofs.Bounds.{walked_start}
use Rattle.stored.proofs.Accepting.{stored-layout, stored-inside, stored-accepted}
use Rattle.stored.proofs.Rooms.{stored-first, stored-place, then-room, refused-read, accepted-read, accepted-on, accepted-free}
use Rattle.text.specs.Writing.{HasRoom}
use Rattle.report.specs.declared.ReportWritten.{ReportWritten}
use Rattle.lines.specs.Lines.{fault_line}
use Rattle.lines.proofs.Lengths.{fault-length}
use Rattle.table_report.specs.Text.{table_text}
use Rattle.table_report.proofs.Fitting.{table_fits}
use Rattle.report.specs.Report.{report_text}
use Rattle.report.specs.Answer.{text_room, report_accepted, report_refused, report_answer, report_after}
use Rattle.records.specs.Walks.{Walk}

-- ---- the stored table

-- A refusal is no more than all numbers of its tests together.
numbers_of : List Test → ℕ
numbers_of [] = 0
numbers_of (t ∷ ts) = t.number + numbers_of ts

fault-low : (ts : List Test) → first_fault ts ≤ numbers_of ts
unfolding first_fault numbers_of
fault-low [] = omega arith
fault-low (t ∷ ts) = go t.applies (fault-low ts)
  where
    go : (b : Bool) → first_fault ts ≤ numbers_of ts → cond b t.number (first_fault ts) ≤ t.number + numbers_of ts
    go true h = omega arith
    go false h = omega arith

pub stored_low : (bytes : List ℕ) → stored_fault bytes < 100
unfolding stored_fault numbers_of
stored_low bytes = omega (arith, fault-low (stored_tests bytes))

-- The report of a refused table is its refusal, and that of any other its text.
pub report-refused : (bytes : List ℕ) → stored_fault bytes ≢ 0 → report_text bytes ≡ fault_line (stored_fault bytes) (stored_place bytes)
unfolding report_text stored_fault
report-refused bytes z =
    decide-refused (stored_tests bytes) (table_text (stored_variables bytes) (stored_on bytes) (stored_free bytes)) (λ number. fault_line number (stored_place bytes)) (stored_fault bytes) z refl

pub report-read : (bytes : List ℕ) → stored_fault bytes ≡ 0 → report_text bytes ≡ table_text (stored_variables bytes) (stored_on bytes) (stored_free bytes)
unfolding report_text stored_fault
report-read bytes e = decide-accepted (stored_tests bytes) (table_text (stored_variables bytes) (stored_on bytes) (stored_free bytes)) (λ number. fault_line number (stored_place bytes)) e

-- Every report fits into `text_room` bytes.
pub report-fits : (bytes : List ℕ) → length (report_text bytes) ≤ text_room
report-fits bytes = go (ℕ_discrete (stored_fault bytes) 0)
  where
    go : Dec (stored_fault bytes ≡ 0) → length (report_text bytes) ≤ text_room
    go (yes e) = rw (report-read bytes e) (omega (arith, table_fits (stored_variables bytes) (stored_on bytes) (stored_free bytes) (stored-accepted bytes e)))
    go (no z) = rw (report-refused bytes z) (omega (arith, fault-length (stored_fault bytes) (stored_place bytes) (stored_low bytes) (omega (arith, stored-inside bytes))))

-- A room of `text_room` bytes is long enough.
pub report-long : (bytes room : List ℕ) → length room ≡ text_room → length (report_text bytes) ≤ length room
report-long bytes room e = omega (arith, report-fits bytes)

pub report-room : (bytes room : List ℕ) → length room ≡ text_room → HasRoom room 0 (report_text bytes)
report-room bytes room e = record { fits = omega (arith, report-long bytes room e) }

-- An input longer than the longest table is refused for what its bytes up to one more hold; so these have its report.
report-beyond : (bytes : List ℕ) → longest_table < length bytes → report_text bytes ≡ fault_line (fault_number (walked bytes)) (fault_place (walked bytes))
unfolding stored_fault stored_place
report-beyond bytes h =
    let n = some_number (walked bytes) (too_long bytes h) in
    let e = stored-layout bytes n in
    let number : stored_fault bytes ≡ fault_number (walked bytes) = ap (λ (f : Fault). f.number) e in
    let place : stored_place bytes ≡ fault_place (walked bytes) = ap (λ (f : Fault). f.place) e in
    report-refused bytes (λ z. n (sym number ∙ z)) ∙ ap (λ (k : ℕ). fault_line k (stored_place bytes)) number ∙ ap (fault_line (fault_number (walked bytes))) place

pub report-start : (bytes : List ℕ) → report_text (take (longest_table + 1) bytes) ≡ report_text bytes
report-start bytes = go (dec_lt longest_table (length bytes))
  where
    go : Dec (longest_table < length bytes) → report_text (take (longest_table + 1) bytes) ≡ report_text bytes
    go (yes h) =
        let n : length (take (longest_table + 1) bytes) ≡ longest_table + 1 = length-take-le (longest_table + 1) bytes (omega arith) in
        report-beyond (take (longest_table + 1) bytes) (omega arith)
        ∙ ap (λ (w : Walk). fault_line (fault_number w) (fault_place w)) (walked_start bytes h)
        ∙ sym (report-beyond bytes h)
    go (no h) = ap report_text (take_all (longest_table + 1) bytes (omega arith))

-- The lists of a table without fault fit into rooms for every point.
stored-few : (bytes : List ℕ) → stored_fault bytes ≡ 0 → (length (stored_on bytes) ≤ max_points) × (length (stored_free bytes) ≤ max_points)
stored-few bytes e =
    let a = stored-accepted bytes e in
    let big : 2 ^ stored_variables bytes ≤ max_points = pow_mono a.few in (
      omega (arith, rising-length (stored_on bytes) (2 ^ stored_variables bytes) a.on-rising a.on_below),
      omega (arith, rising-length (stored_free bytes) (2 ^ stored_variables bytes) a.free-rising a.free-below),
    )

module _ (bytes on free : List ℕ) (on_room : length on ≡ max_points) (free_room : length free ≡ max_points) where
  -- So reading refuses just what the stored table refuses.
  read_same : read_fault bytes (length on) (length free) ≡ stored_fault bytes
  read_same = go (ℕ_discrete (stored_fault bytes) 0)
    where
      go : Dec (stored_fault bytes ≡ 0) → read_fault bytes (length on) (length free) ≡ stored_fault bytes
      go (no z) = stored-first bytes (length on) (length free) z
      go (yes e) =
          let k = stored-few bytes e in
          let f : ltb (length on) (length (stored_on bytes)) ≡ false = le-ltb (length on) (length (stored_on bytes)) (omega (arith, k.0)) in
          let g : ltb (length free) (length (stored_free bytes)) ≡ false = le-ltb (length free) (length (stored_free bytes)) (omega (arith, k.1)) in
          then-room bytes (length on) (length free) e ∙ rw (f, g) (sym e)

  module _ (r : TableRead) (e : r ≡ read_answer bytes (length on) (length free)) where
    refusal-same : r.refusal ≡ stored_fault bytes
    refusal-same = go (ℕ_discrete (read_fault bytes (length on) (length free)) 0) ∙ read_same
      where
        go : Dec (read_fault bytes (length on) (length free) ≡ 0) → r.refusal ≡ read_fault bytes (length on) (length free)
        go (yes z) = ap (λ (x : TableRead). x.refusal) (e ∙ accepted-read bytes on free z) ∙ sym z
        go (no z) = ap (λ (x : TableRead). x.refusal) (e ∙ refused-read bytes on free z)

    -- A refused table prints its refusal alone, with its place.
    pub read-refused : r.refusal ≢ 0 → fault_line r.refusal r.place ≡ report_text bytes
    read-refused z =
        let n : stored_fault bytes ≢ 0 = λ q. z (refusal-same ∙ q) in
        let f : read_fault bytes (length on) (length free) ≢ 0 = λ q. n (sym read_same ∙ q) in
        let place : r.place ≡ stored_place bytes = ap (λ (x : TableRead). x.place) (e ∙ refused-read bytes on free f) ∙ stored-place bytes (length on) (length free) n in
        ap (λ (k : ℕ). fault_line k r.place) refusal-same ∙ ap (fault_line (stored_fault bytes)) place ∙ sym (report-refused bytes n)

    module _ (z : r.refusal ≡ 0) where
      pub read-fault : stored_fault bytes ≡ 0
      read-fault = sym refusal-same ∙ z

      pub read-accepted : table_text (stored_variables bytes) (stored_on bytes) (stored_free bytes) ≡ report_text bytes
      read-accepted = sym (report-read bytes read-fault)

      pub read-value : r ≡ read_accepted bytes
      read-value = e ∙ accepted-read bytes on free (read_same ∙ read-fault)

      -- The lists that were read stand at the front of the rooms.
      on-front : read_on_after bytes on free ≡ front (stored_on bytes) on
      on-front = accepted-on bytes on free (read_same ∙ read-fault)

      free-front : read_free_after bytes on free ≡ front (stored_free bytes) free
      free-front = accepted-free bytes on free (read_same ∙ read-fault)

      pub on_read : (after : List ℕ) → after ≡ read_on_after bytes on free → take r.on_count after ≡ stored_on bytes
      on_read after q =
          let n : length (stored_on bytes) ≡ r.on_count = omega (arith, ap (λ (x : TableRead). x.on_count) read-value) in
          rw (q, on-front) (take_at (stored_on bytes) (drop (length (stored_on bytes)) on) r.on_count n)

      pub free-read : (after : List ℕ) → after ≡ read_free_after bytes on free → take r.free_count after ≡ stored_free bytes
      free-read after q =
          let n : length (stored_free bytes) ≡ r.free_count = omega (arith, ap (λ (x : TableRead). x.free_count) read-value) in
          rw (q, free-front) (take_at (stored_free bytes) (drop (length (stored_free bytes)) free) r.free_count n)

      module _ (after_on after_free : List ℕ) (p : after_on ≡ read_on_after bytes on free) (q : after_free ≡ read_free_after bytes on free) where
        pub read_table : Accepted r.variables (take r.on_count after_on) (take r.free_count after_free)
        read_table =
            let v : r.variables ≡ stored_variables bytes = ap (λ (x : TableRead). x.variables) read-value in
            rw (v, on_read after_on p, free-read after_free q) (stored-accepted bytes read-fault)

        pub read-text : table_text r.variables (take r.on_count after_on) (take r.free_count after_free) ≡ report_text bytes
        read-text =
            let v : r.variables ≡ stored_variables bytes = ap (λ (x : TableRead). x.variables) read-value in
            rw (v, on_read after_on p, free-read after_free q) read-accepted

        pub on_fits : r.on_count ≤ length after_on
        on_fits =
            omega (
              arith,
              ap (λ (x : TableRead). x.on_count) read-value,
              ap length (p ∙ on-front),
              fill-length (stored_on bytes) on (omega (arith, (stored-few bytes read-fault).0)),
              (stored-few bytes read-fault).0,
            )

        pub free-fits : r.free_count ≤ length after_free
        free-fits =
            omega (
              arith,
              ap (λ (x : TableRead). x.free_count) read-value,
              ap length (q ∙ free-front),
              fill-length (stored_free bytes) free (omega (arith, (stored-few bytes read-fault).1)),
              (stored-few bytes read-fault).1,
            )

-- ---- the answer and the room

module _ (bytes room : List ℕ) where
  pub report-short : length room < length (report_text bytes) → (report_refused room_fault ≡ report_answer bytes room) × (room ≡ report_after bytes room)
  unfolding report_answer report_after first_fault
  report-short = call-short [] (report_text bytes) room (report_accepted bytes) report_refused (λ t m. absurd m) refl

  pub report-accepted : length (report_text bytes) ≤ length room → (report_accepted bytes ≡ report_answer bytes room) × (front (report_text bytes) room ≡ report_after bytes room)
  unfolding report_answer report_after first_fault
  report-accepted = call-accepted [] (report_text bytes) room (report_accepted bytes) report_refused (λ t m. absurd m) refl

  -- With a room of `text_room` bytes, as the program has, the whole report stands at its front.
  pub report-whole : text_room ≤ length room → (report_answer bytes room ≡ report_accepted bytes) × (take (length (report_text bytes)) (report_after bytes room) ≡ report_text bytes)
  report-whole h =
      let k = report-accepted (omega (arith, report-fits bytes)) in
      (sym k.0, ap (take (length (report_text bytes))) (sym k.1) ∙ take_at (report_text bytes) (drop (length (report_text bytes)) room) (length (report_text bytes)) refl)

  -- The number of bytes returned is no more than the room has.
  pub answer-fits : (r : ReportWritten) (after : List ℕ) → r ≡ report_answer bytes room → after ≡ report_after bytes room → r.length ≤ length after
  answer-fits r after p q = go (dec_lt (length room) (length (report_text bytes)))
    where
      go : Dec (length room < length (report_text bytes)) → r.length ≤ length after
      go (yes l) = omega (arith, ap (λ (x : ReportWritten). x.length) (p ∙ sym (report-short l).0))
      go (no l) =
          let fits : length (report_text bytes) ≤ length room = omega arith in
          omega (
            arith,
            ap (λ (x : ReportWritten). x.length) (p ∙ sym (report-accepted fits).0),
            ap length (q ∙ sym (report-accepted fits).1),
            fill-length (report_text bytes) room fits,
          )
