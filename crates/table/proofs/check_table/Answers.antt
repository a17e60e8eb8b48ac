-- `table::check_table` meets its contract: at each return the tests up to it are known, and the list of tests computes. Assumes nothing.
use mathlib.Core.Path.{◌≡◌, sym, ◌∙◌}
use mathlib.Core.Bool.{Bool, true, false, ◌||◌}
use Rattle.table.specs.Refusal.{first_fault, variables_fault, point_fault, order_fault, shared_fault}
use Rattle.table.specs.Table.{bad_count, outside, unordered, shared, table_tests, table_fault}
use Rattle.table.proofs.Table.{good-count, outside-more}
use Rattle.table.proofs.check_table.Goals as goal
use Rattle.table.proofs.check_table.Goals.{then-outside-via-then-outside, then-outside-via-else-outside+then-outside-2, then-unordered-via-then-unordered, then-unordered-via-else-unordered+then-unordered-2}

-- What a call was found to return is so of the test that its contract names.
known : {r t v : Bool} → r ≡ t → r ≡ v → t ≡ v
known p q = sym p ∙ q

-- One of two tests of a list applies, or neither does.
first : {a : Bool} (b : Bool) → a ≡ true → (a || b) ≡ true
first b p = rw p

second : {a b : Bool} → a ≡ false → b ≡ true → (a || b) ≡ true
second p q = rw (p, q)

neither : {a b : Bool} → a ≡ false → b ≡ false → (a || b) ≡ false
neither p q = rw (p, q)

-- The number by the tests up to the one that applies.
is_variables : (n : _) (on free : _) → bad_count n ≡ true → variables_fault ≡ table_fault n on free
unfolding table_fault table_tests first_fault
is_variables n on free p = rw p

is-point : (n : _) (on free : _) → bad_count n ≡ false → (outside n on || outside n free) ≡ true → point_fault ≡ table_fault n on free
unfolding table_fault table_tests first_fault
is-point n on free p q = rw (p, q)

is-order : (n : _) (on free : _) → bad_count n ≡ false → (outside n on || outside n free) ≡ false → (unordered on || unordered free) ≡ true → order_fault ≡ table_fault n on free
unfolding table_fault table_tests first_fault
is-order n on free p q r = rw (p, q, r)

is-shared : (n : _) (on free : _) → bad_count n ≡ false → (outside n on || outside n free) ≡ false → (unordered on || unordered free) ≡ false → shared on free ≡ true → shared_fault ≡ table_fault n on free
unfolding table_fault table_tests first_fault
is-shared n on free p q r s = rw (p, q, r, s)

is-none : (n : _) (on free : _) → bad_count n ≡ false → (outside n on || outside n free) ≡ false → (unordered on || unordered free) ≡ false → shared on free ≡ false → 0 ≡ table_fault n on free
unfolding table_fault table_tests first_fault
is-none n on free p q r s = rw (p, q, r, s)

pub returns-then-bad_count : goal.returns-then-bad_count
returns-then-bad_count c = is_variables _ _ _ (known c.bad_count.ensures c.if-bad_count.true)

pub outside-requires : goal.outside-requires
outside-requires c = ((good-count _).0 (known c.bad_count.ensures c.if-bad_count.false)).1

pub outside-requires-else-outside : goal.outside-requires-else-outside
outside-requires-else-outside c = ((good-count _).0 (known c.bad_count.ensures c.if-bad_count.false)).1

pub returns-then-outside : goal.returns-then-outside
returns-then-outside c =
    is-point _ _ _ (known c.bad_count.ensures c.if-bad_count.false)
    (elim c.then-outside.branch [
      | then-outside-via-then-outside w ↦ first _ (known c.outside.ensures w.if-outside.true)
      | then-outside-via-else-outside+then-outside-2 w ↦ second (known c.outside.ensures w.if-outside.false) (known w.outside-else-outside.ensures w.if-outside-2.true)
    ])

pub returns-then-unordered : goal.returns-then-unordered
returns-then-unordered c =
    is-order _ _ _ (known c.bad_count.ensures c.if-bad_count.false)
    (neither (known c.outside.ensures c.if-outside.false) (known c.outside-else-outside.ensures c.if-outside-2.false))
    (elim c.then-unordered.branch [
      | then-unordered-via-then-unordered w ↦ first _ (known c.unordered.ensures w.if-unordered.true)
      | then-unordered-via-else-unordered+then-unordered-2 w ↦ second (known c.unordered.ensures w.if-unordered.false) (known w.unordered-else-unordered.ensures w.if-unordered-2.true)
    ])

pub shared-requires-clause-on_value : goal.shared-requires-clause-on_value
shared-requires-clause-on_value c = outside-more _ _ ((good-count _).0 (known c.bad_count.ensures c.if-bad_count.false)).1 (known c.outside.ensures c.if-outside.false)

pub shared-requires-clause-free_value : goal.shared-requires-clause-free_value
shared-requires-clause-free_value c = outside-more _ _ ((good-count _).0 (known c.bad_count.ensures c.if-bad_count.false)).1 (known c.outside-else-outside.ensures c.if-outside-2.false)

pub returns-then-shared : goal.returns-then-shared
returns-then-shared c =
    is-shared _ _ _ (known c.bad_count.ensures c.if-bad_count.false)
    (neither (known c.outside.ensures c.if-outside.false) (known c.outside-else-outside.ensures c.if-outside-2.false))
    (neither (known c.unordered.ensures c.if-unordered.false) (known c.unordered-else-unordered.ensures c.if-unordered-2.false))
    (known c.shared.ensures c.if-shared.true)

pub returns : goal.returns
returns c =
    is-none _ _ _ (known c.bad_count.ensures c.if-bad_count.false)
    (neither (known c.outside.ensures c.if-outside.false) (known c.outside-else-outside.ensures c.if-outside-2.false))
    (neither (known c.unordered.ensures c.if-unordered.false) (known c.unordered-else-unordered.ensures c.if-unordered-2.false))
    (known c.shared.ensures c.if-shared.false)
