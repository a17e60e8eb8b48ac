-- `table::bad_count` meets its contract: its two tests are those of `bad_count`. Assumes nothing.
use borrow.Author.Tests.{eq-eqb, ne_eqb}
use Rattle.table.specs.Table.{bad_count}
use Rattle.table.proofs.bad_count.Goals as goal

pub returns-then-n-eq0 : goal.returns-then-n-eq0
unfolding bad_count
returns-then-n-eq0 c = rw (eq-eqb c.args.n 0 c.if-n-eq0.true)

pub returns-else-n-eq0 : goal.returns-else-n-eq0
unfolding bad_count
returns-else-n-eq0 c = rw (ne_eqb c.args.n 0 c.if-n-eq0.false)
