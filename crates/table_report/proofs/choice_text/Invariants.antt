-- `table_report::choice_text` meets its contract: the lines of the primes passed are written. Assumes nothing.
use mathlib.Core.Path.{◌≡◌}
use Rattle.basis.specs.Short.{listed}
use Rattle.choice.specs.Chosen.{chosen_at}
use Rattle.text.specs.Writing.{with_text}
use Rattle.text.proofs.Pieces.{pieces}
use Rattle.lines.specs.Lines.{product_line}
use Rattle.cover.specs.WrittenForm.{product_by}
use Rattle.table_report.proofs.choice_text.Given as goal

abbrev pub invariant-loop-prime : goal.invariant-loop-prime
invariant-loop-prime l = l.out ≡ with_text l.initial.out (pieces (λ k. product_line l.n (product_by (listed l.equations) l.m (chosen_at l.fn.choice k))) l.prime-index)
