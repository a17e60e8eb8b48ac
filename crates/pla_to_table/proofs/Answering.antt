-- Laws of specs.Answer: what is written for a text is known by its first bytes, and by what the call of crate `pla` answers.
use mathlib.Core.Path.{◌≡◌, refl, sym, ap, ◌∙◌, subst}
use mathlib.Core.Logic.{◌≢◌}
use mathlib.Core.List.{List}
use Prim.Native.Nat.{ℕ, ◌≤◌, ◌<◌}
use native.Mathlib.Decide.{dec_lt}
use native.Mathlib.Omega.{arith}
use lib.ListN.{length, take, drop}
use lib.Seq.{take_at, take_all, length-take-le}
use borrow.Author.Tests.{lt-ltb, le-ltb}
use Rattle.table.specs.Refusal.{first_fault}
use Rattle.table.specs.Decision.{front}
use Rattle.table.proofs.Decide.{decide-accepted, decide-refused, decide-number}
use Rattle.stored.specs.Layout.{longest_table}
use Rattle.streams.specs.Reading.{StartOf}
use Rattle.text.specs.Writing.{Wrote}
use Rattle.text.proofs.Writing.{wrote-part}
use Rattle.pla_lines.specs.Reading.{Gathered, read_text}
use Rattle.pla.specs.Answer.{PlaRead, table_found, text_tests, accepted_pla, refused_pla, pla_answer, pla_after}
use Rattle.pla.proofs.Answering.{pla-roomy}
use Rattle.pla_to_table.specs.declared.Lengths.{Lengths}
use Rattle.pla_to_table.specs.Messages.{too_long, refused_message}
use Rattle.pla_to_table.specs.Answer.{max_text, pla_room, Written, only_table, only_message, written_for, written, Stands}

-- ---- a text by its first bytes

pub written-long : (text : List ℕ) (output : ℕ) → max_text < length text → written text output ≡ only_message too_long
unfolding written
written-long text output h = rw (lt-ltb max_text (length text) h)

pub written-short : (text : List ℕ) (output : ℕ) → length text ≤ max_text → written text output ≡ written_for output (read_text output text)
unfolding written
written-short text output h = rw (le-ltb max_text (length text) h)

pub written_start : (text : List ℕ) (output : ℕ) → written (take pla_room text) output ≡ written text output
written_start text output = go (dec_lt max_text (length text))
  where
    go : Dec (max_text < length text) → written (take pla_room text) output ≡ written text output
    go (yes h) =
        let n : length (take pla_room text) ≡ pla_room = length-take-le pla_room text (omega arith) in
        written-long (take pla_room text) output (omega arith) ∙ sym (written-long text output h)
    go (no h) = ap (λ (t : List ℕ). written t output) (take_all pla_room text (omega arith))

-- What stands for the bytes that were read stands for the whole text.
pub stands-whole : (input table message : List ℕ) (count output : ℕ) (lengths : Lengths) → length input ≡ pla_room → Stands (written (take count input) output) table message lengths
    → (whole : List ℕ) → StartOf whole input count → Stands (written whole output) table message lengths
stands-whole input table message count output lengths all s whole start =
    subst (λ (w : Written). Stands w table message lengths) (ap (λ (t : List ℕ). written t output) (start ∙ ap (λ (k : ℕ). take k whole) all) ∙ written_start whole output) s

-- ---- a message alone, or a table alone

module _ {w : Written} {before text after table : List ℕ} {next : ℕ} (e : w ≡ only_message text) (h : length text ≤ length before) (wrote : Wrote before 0 text after next) where
  pub stands-message : Stands w table after (record { table = 0; message = next })
  stands-message = rw e (record {
    table-length = refl;
    table-bytes = refl;
    message-length = omega (arith, wrote.place);
    message-bytes = wrote-part h wrote;
  })

-- ---- by what `read_pla` answers

module _ (text : List ℕ) (output : ℕ) (room after : List ℕ) (r : PlaRead) (short : length text ≤ max_text) (long : length room ≡ longest_table)
    (answered : r ≡ pla_answer text output room) (left : after ≡ pla_after text output room) where
  abbrev f : Gathered
  f = read_text output text

  fault-is : first_fault (text_tests output f) ≡ r.refusal
  fault-is =
      sym (ap (λ (x : PlaRead). x.refusal) (answered ∙ (pla-roomy text output room (omega arith)).0)
      ∙ decide-number (λ (x : PlaRead). x.refusal) (text_tests output f) (accepted_pla f) (refused_pla f) refl (λ k. refl))

  -- Refused: a message with the refusal and its line.
  pub written-refused : r.refusal ≢ 0 → written text output ≡ only_message (refused_message r.refusal r.line)
  written-refused n =
      let k = answered ∙ (pla-roomy text output room (omega arith)).0 ∙ decide-refused (text_tests output f) (accepted_pla f) (refused_pla f) r.refusal n fault-is in
      written-short text output short
      ∙ decide-refused (text_tests output f) (only_table (table_found f)) (λ number. only_message (refused_message number f.line)) r.refusal n fault-is
      ∙ ap (λ (l : ℕ). only_message (refused_message r.refusal l)) (sym (ap (λ (x : PlaRead). x.line) k))

  -- Accepted: the table, and no message.
  pub stands-table : (message : List ℕ) → r.refusal ≡ 0 → Stands (written text output) after message (record { table = r.length; message = 0 })
  stands-table message z =
      let e = fault-is ∙ z in
      let n = ap (λ (x : PlaRead). x.length) (answered ∙ (pla-roomy text output room (omega arith)).0 ∙ decide-accepted (text_tests output f) (accepted_pla f) (refused_pla f) e) in
      let stands = left ∙ (pla-roomy text output room (omega arith)).1 ∙ decide-accepted (text_tests output f) (front (table_found f) room) (λ number. room) e in
      let only = written-short text output short ∙ decide-accepted (text_tests output f) (only_table (table_found f)) (λ number. only_message (refused_message number f.line)) e in
      rw only (record {
        table-length = n;
        table-bytes = ap (take r.length) stands ∙ take_at (table_found f) (drop (length (table_found f)) room) r.length (sym n);
        message-length = refl;
        message-bytes = refl;
      })
