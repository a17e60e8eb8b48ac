-- What it is to write a text into lent bytes at a place, and what a writer is once a text is written. Read next: crate `lines`.
use Rattle.std.specs.Prelude.{◌≡◌, List, ℕ, ◌+◌, ◌≤◌, length}
use Rattle.std.proofs.lemmas.List.Edits.{sets}
use Rattle.text.specs.declared.Writer.{Writer}

-- The lent bytes have room for the text from the place on.
pub record HasRoom (bytes : List ℕ) (at : ℕ) (text : List ℕ) : Type 0 where
  pub fits : at + length text ≤ length bytes

-- The text was written: `before` is the lent bytes as they were, `after` as they are; the text stands from the place on, all other bytes are as
-- they were, and `next` is the place after the text.
pub record Wrote (before : List ℕ) (at : ℕ) (text after : List ℕ) (next : ℕ) : Type 0 where
  pub bytes : after ≡ sets before at text
  pub place : next ≡ at + length text

-- The bytes that a writer holds have room for the text from its place on.
pub record Fits (out : Writer) (text : List ℕ) : Type 0 where
  pub fits : out.place + length text ≤ length out.room.now

-- The writer once the text is written: the text stands from its place on, all other bytes are as they were, and the next place is the one after the
-- text.
unfoldable pub with_text : Writer → List ℕ → Writer
with_text out text = record { room = record out.room { now = sets out.room.now out.place text }; place = out.place + length text }
