-- `index::add_holder` meets its contract: only a product that holds the point is counted, and the first of all is the first. Assumes nothing.
use native.Mathlib.Omega.{arith}
use borrow.Author.Tests.{ne_eqb}
use Rattle.index.proofs.add_holder.Goals as goal

pub returns-then-not-holds : goal.returns-then-not-holds
returns-then-not-holds c = rw (c.if-not-holds.true)

pub returns-then-old-eq0 : goal.returns-then-old-eq0
returns-then-old-eq0 c = rw (c.if-not-holds.false, c.if-old-eq0.true)

pub overflow_add-result : goal.overflow_add-result
overflow_add-result c = omega (arith, c.requires)

pub returns : goal.returns
returns c = rw (c.if-not-holds.false, ne_eqb _ _ c.if-old-eq0.false)
