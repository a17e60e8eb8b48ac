-- `table::flags_of` meets its contract: `mark` from flags that are all clear. Assumes nothing.
use borrow.Author.Rules.{rules}
use Rattle.table.specs.Flags.{flags_of}
use Rattle.table.proofs.flags_of.Goals as goal

pub returns : goal.returns
unfolding flags_of
returns c = search rules
