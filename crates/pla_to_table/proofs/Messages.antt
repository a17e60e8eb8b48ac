-- Laws of specs.Messages: the message of a refusal with and without its line, and that every message fits its room. Read next: Answering.
use mathlib.Core.Path.{◌≡◌}
use mathlib.Core.Logic.{◌≢◌}
use mathlib.Core.List.{List, ◌++◌}
use Prim.Native.Nat.{ℕ, ◌^◌, ◌≤◌, ◌<◌}
use native.Mathlib.Decide.{ℕ_discrete}
use native.Mathlib.Omega.{arith}
use lib.ListN.{length, length-append}
use borrow.Author.Tests.{eq-eqb, ne_eqb}
use Rattle.text.specs.Decimal.{decimal}
use Rattle.text.specs.Pieces.{labelled}
use Rattle.text.specs.Writing.{HasRoom, Wrote}
use Rattle.text.proofs.Decimal.{decimal-length}
use Rattle.text.proofs.Writing.{wrote-length}
use Rattle.lines.specs.Words.{refused_word}
use Rattle.lines.specs.Lines.{number_line}
use Rattle.lines.proofs.Lengths.{number-length}
use Rattle.pla_to_table.specs.Messages.{message_room, line_word, refused_message}

module _ (number line : ℕ) where
  pub message-alone : line ≡ 0 → number_line refused_word number ≡ refused_message number line
  unfolding refused_message
  message-alone e = rw (eq-eqb line 0 e)

  pub message-line : line ≢ 0 → labelled refused_word number ++ number_line line_word line ≡ refused_message number line
  unfolding refused_message
  message-line n = rw (ne_eqb line 0 n)

  -- A number of one byte has at most 3 digits, one of eight bytes at most 20.
  pub message-fits : number < 2 ^ 8 → line < 2 ^ 64 → length (refused_message number line) ≤ message_room
  message-fits h g = go (ℕ_discrete line 0)
    where
      three : length (decimal number) ≤ 3
      three = decimal-length 2 number (omega arith)

      twenty : length (decimal line) ≤ 20
      twenty = decimal-length 19 line (omega arith)

      go : Dec (line ≡ 0) → length (refused_message number line) ≤ message_room
      go (yes e) = rw (← message-alone e) (omega (arith, number-length refused_word number 3 three))
      go (no n) =
          rw (← message-line n)
          (omega (arith, length-append (labelled refused_word number) (number_line line_word line), length-append refused_word (decimal number), number-length line_word line 20 twenty, three))

  -- So a room of as many bytes has place for it, and what is written lies in the room.
  pub message-room : (room : List ℕ) → length room ≡ message_room → number < 2 ^ 8 → line < 2 ^ 64 → HasRoom room 0 (refused_message number line)
  message-room room e h g = record { fits = omega (arith, message-fits h g) }

-- A text that had room lies in it once it is written.
pub message-inside : {room text after : List ℕ} {next : ℕ} → HasRoom room 0 text → Wrote room 0 text after next → next ≤ length after
message-inside h w = omega (arith, h.fits, w.place, wrote-length w)
