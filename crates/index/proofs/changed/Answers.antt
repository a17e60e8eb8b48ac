-- `index::changed` meets its contract: by the way, a product is counted, the last one is no longer, or all are counted anew. Assumes nothing.
use mathlib.Core.Path.{ap, ◌∙◌}
use mathlib.Core.Bool.{cond}
use Prim.Native.Nat.{◌-◌}
use native.Mathlib.Omega.{arith}
use borrow.Author.Rules.{rules}
use borrow.Author.Tests.{ne_eqb}
use Rattle.index.specs.declared.ProductSeen.{ProductSeen}
use Rattle.index.specs.Changes.{add_holder, drop_holder, product_seen, changed_of}
use Rattle.index.proofs.changed.Goals as goal

-- ---- a product is appended
pub overflow_cast-point : goal.overflow_cast-point
overflow_cast-point c = omega (arith, c.requires.point)

pub product_seen-seen-requires : goal.product_seen-seen-requires
product_seen-seen-requires c = c.requires.product c.in-1.is

pub overflow_sub-answer : goal.overflow_sub-answer
overflow_sub-answer c = (c.requires.some c.in-1.is).0

pub overflow_cast-answer : goal.overflow_cast-answer
overflow_cast-answer c = omega (arith, (c.requires.some c.in-1.is).1)

pub add_holder-requires : goal.add_holder-requires
add_holder-requires c = c.requires.room c.in-1.is

-- ---- the last product is taken away
pub overflow_sub-answer-in-2 : goal.overflow_sub-answer-in-2
overflow_sub-answer-in-2 c = c.requires.end c.in-2.is

pub overflow_cast-point-in-2 : goal.overflow_cast-point-in-2
overflow_cast-point-in-2 c = omega (arith, c.requires.point)

pub product_seen-seen-requires-in-2 : goal.product_seen-seen-requires-in-2
product_seen-seen-requires-in-2 c = c.requires.last c.in-2.is

-- ---- the index is built
pub overflow_cast-point-in_default : goal.overflow_cast-point-in_default
overflow_cast-point-in_default c = omega (arith, c.requires.point)

pub record_at-requires : goal.record_at-requires
record_at-requires c = c.requires.form (search rules) (search rules)

-- ---- the record
pub returns-in-1 : goal.returns-in-1
unfolding changed_of product_seen
returns-in-1 c =
    let a = c.args in
    rw c.in-1.is
    (c.add_holder.ensures ∙ ap (λ (s : ProductSeen). cond s.holds (add_holder (a.answer.products - 1) a.old) a.old) c.product_seen-seen.ensures)

pub returns-in-2 : goal.returns-in-2
unfolding changed_of product_seen
returns-in-2 c =
    let a = c.args in
    rw c.in-2.is (c.drop_holder.ensures ∙ ap (λ (s : ProductSeen). cond s.holds (drop_holder a.old) a.old) c.product_seen-seen-in-2.ensures)

pub returns-in_default : goal.returns-in_default
unfolding changed_of
returns-in_default c =
    rw (ne_eqb c.args.way 1 (search rules), ne_eqb c.args.way 2 (search rules)) c.record_at.ensures
