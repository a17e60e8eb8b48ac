-- `text::Writer::names` meets its contract: the names passed are written. Assumes nothing.
use Rattle.std.proofs.Common.{◌≡◌}
use Rattle.text.specs.Writing.{with_text}
use Rattle.text.proofs.Pieces.{pieces, next_name}
use Rattle.text.proofs.Writer.names.Given as goal

abbrev pub invariant-loop-index : goal.invariant-loop-index
invariant-loop-index l = l.self ≡ with_text l.initial.self (pieces (next_name l.between l.rest) l.index-index)
