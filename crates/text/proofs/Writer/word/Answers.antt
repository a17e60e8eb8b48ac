-- `text::Writer::word` meets its contract: the word is copied to its place. Assumes nothing.
use mathlib.Core.Path.{ap}
use mathlib.Core.List.{List}
use Prim.Native.Nat.{ℕ, ◌+◌}
use lib.ListN.{length}
use Rattle.text.specs.Writing.{with_text}
use Rattle.text.proofs.Writing.{word-copied}
use Rattle.text.proofs.Writer.word.Goals as goal

pub returns : goal.returns
unfolding with_text
returns c =
    let out = c.args.self.now in
    let word = c.args.word.now in
    ap (λ (bytes : List ℕ). record { room = record out.room { now = bytes }; place = out.place + length word })
    (word-copied out.room.now out.place word c.copy_from_slice.new.self c.requires.fits c.copy_from_slice.ensures.after)
