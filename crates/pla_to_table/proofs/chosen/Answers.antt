-- The output is chosen by the number of words.
use borrow.Author.Tests.{lt-ltb, le-ltb}
use Rattle.pla_to_table.specs.Choosing.{chosen_output}
use Rattle.pla_to_table.proofs.chosen.Goals as goal

pub returns-then-words-lt2 : goal.returns-then-words-lt2
unfolding chosen_output
returns-then-words-lt2 c = rw (lt-ltb _ 2 c.if-words-lt2.true)

pub returns : goal.returns
unfolding chosen_output
returns c = rw (le-ltb _ 2 c.if-words-lt2.false, ← c.number.ensures) c.unwrap_or.ensures
