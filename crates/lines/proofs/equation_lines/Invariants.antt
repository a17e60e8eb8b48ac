-- `lines::equation_lines` meets its contract: the lines of the masks passed are written. Assumes nothing.
use Rattle.std.proofs.Common.{◌≡◌}
use Rattle.text.specs.Writing.{with_text}
use Rattle.text.proofs.Pieces.{pieces}
use Rattle.lines.proofs.Lines.{equation_at}
use Rattle.lines.proofs.equation_lines.Given as goal

abbrev pub invariant-loop-i : goal.invariant-loop-i
invariant-loop-i l = l.out ≡ with_text l.initial.out (pieces (equation_at l.n 1 l.masks) l.i)
