-- `text::Writer::numbers` meets its contract: the numbers passed are written. Assumes nothing.
use Rattle.std.proofs.Common.{◌≡◌}
use Rattle.text.specs.Writing.{with_text}
use Rattle.text.proofs.Pieces.{pieces, spaced_at}
use Rattle.text.proofs.Writer.numbers.Given as goal

abbrev pub invariant-loop-number : goal.invariant-loop-number
invariant-loop-number l = l.self ≡ with_text l.initial.self (pieces (spaced_at l.numbers) l.number-index)
