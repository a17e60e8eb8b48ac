-- `lines::factors_text` meets its contract: the factors passed are written. Assumes nothing.
use Rattle.std.proofs.Common.{◌≡◌, length}
use Rattle.text.specs.Writing.{with_text}
use Rattle.text.proofs.Pieces.{pieces}
use Rattle.lines.proofs.Lines.{factor_at}
use Rattle.lines.proofs.factors_text.Given as goal

abbrev pub invariant-loop-constant : goal.invariant-loop-constant
invariant-loop-constant l = l.out ≡ with_text l.initial.out (pieces (factor_at l.n l.constants l.masks) (length l.yielded))
