-- `index::drop_holder` meets its contract: only a product that holds the point is no longer counted, and without one left there is no first. Assumes nothing.
use mathlib.Core.Path.{◌≡◌}
use Prim.Native.Nat.{◌-◌}
use native.Mathlib.Omega.{arith}
use borrow.Author.Tests.{le-leb, lt-leb}
use Rattle.index.proofs.drop_holder.Goals as goal

pub returns-then-not-holds : goal.returns-then-not-holds
returns-then-not-holds c = rw (c.if-not-holds.true)

pub returns-then-old-le1 : goal.returns-then-old-le1
returns-then-old-le1 c =
    let old = c.args.old in
    let none : old.count - 1 ≡ 0 = omega (arith, c.if-old-le1.true) in
    rw (c.if-not-holds.false, le-leb old.count 1 c.if-old-le1.true, none)

pub overflow_sub-result : goal.overflow_sub-result
overflow_sub-result c = omega (arith, c.if-old-le1.false)

pub returns : goal.returns
returns c =
    rw (c.if-not-holds.false, lt-leb c.args.old.count 1 c.if-old-le1.false)
