-- `compare::check_compare` meets its contract: one law for each way that the tests can go. Assumes nothing.
use mathlib.Core.Path.{◌≡◌, sym, ap, ◌∙◌}
use Prim.Native.Nat.{ℕ, ◌^◌}
use native.Mathlib.Omega.{arith}
use Rattle.std.proofs.lemmas.Result.{err_from_is_err_and}
use Rattle.table.proofs.Results.{handed-on, number-told, refused-before, passed-before}
use Rattle.stored.specs.Marks.{stored_variables}
use Rattle.stored.specs.Stored.{stored_tests, stored_fault}
use Rattle.stored.proofs.Accepting.{stored-numbered, stored-laid, stored-accepted}
use Rattle.compare.specs.Answer.{table_size, pair_tests}
use Rattle.compare.proofs.Refusals.{found-pair, compare-counts, compare-first, compare-sound}
use Rattle.compare.proofs.check_compare.Goals as goal
use Rattle.compare.proofs.check_compare.Goals.{After-point_count, Else-n-variables, In_ok-check_stored, In_ok-check_stored-2}

pub returns-in_err-check_stored : goal.returns-in_err-check_stored
returns-in_err-check_stored c =
    let handed = err_from_is_err_and c.from_residual.result c.from_residual.ensures.1 in
    handed-on handed.1 handed.2 ∙ refused-before (stored_tests c.args.left.now) _ c.in_err-check_stored.field-0.0 c.in_err-check_stored.ensures

pub returns-in_err-check_stored-2 : goal.returns-in_err-check_stored-2
returns-in_err-check_stored-2 c =
    let a = c.args in
    let pair = pair_tests a.left.now a.right.now a.first in
    let result = c.from_residual-in_err-check_stored-2.result in
    let handed = err_from_is_err_and result c.from_residual-in_err-check_stored-2.ensures.1 in
    handed-on handed.1 handed.2 ∙ refused-before (stored_tests a.right.now) pair c.in_err-check_stored-2.field-0.0 c.in_err-check_stored-2.ensures
    ∙ passed-before (stored_tests a.left.now) _ (stored-numbered a.left.now) c.in_ok-check_stored.ensures

-- Past its tests the left table is accepted, and so is the right one.
left-sound : (c : In_ok-check_stored) → stored_fault c.args.left.now ≡ 0
unfolding stored_fault
left-sound c = sym (number-told (stored_tests c.args.left.now) c.in_ok-check_stored.ensures)

right-sound : (c : In_ok-check_stored-2) → stored_fault c.args.right.now ≡ 0
unfolding stored_fault
right-sound c = sym (number-told (stored_tests c.args.right.now) c.in_ok-check_stored-2.ensures)

pub variables-n-requires : goal.variables-n-requires
variables-n-requires c = stored-laid c.args.left.now (left-sound (goal.at.variables-n-requires c).In_ok-check_stored)

pub variables-requires : goal.variables-requires
variables-requires c = stored-laid c.args.right.now (right-sound (goal.at.variables-requires c).In_ok-check_stored-2)

pub returns-then-n-variables : goal.returns-then-n-variables
returns-then-n-variables c =
    let a = c.args in
    let l = left-sound (goal.at.returns-then-n-variables c).In_ok-check_stored in
    let r = right-sound (goal.at.returns-then-n-variables c).In_ok-check_stored-2 in
    found-pair a.left.now a.right.now a.first l r _ (compare-counts a.left.now a.right.now a.first l r (λ q. c.if-n-variables.true (c.variables-n.ensures ∙ q ∙ sym c.variables.ensures)))

-- Both have the same number of variables.
counts : (c : Else-n-variables)
    → let a = c.args in
    stored_variables a.left.now ≡ stored_variables a.right.now
counts c = sym c.variables-n.ensures ∙ c.if-n-variables.false ∙ c.variables.ensures

pub point_count-requires : goal.point_count-requires
point_count-requires c =
    omega (arith, c.variables-n.ensures, (stored-accepted c.args.left.now (left-sound (goal.at.point_count-requires c).In_ok-check_stored)).few)

-- The number of points, as it was computed.
size : (c : After-point_count)
    → c.point_count.result ≡ table_size c.args.left.now
size c = c.point_count.ensures ∙ ap (λ (n : ℕ). 2 ^ n) c.variables-n.ensures

pub returns-then-first-point_count : goal.returns-then-first-point_count
returns-then-first-point_count c =
    let a = c.args in
    let l = left-sound (goal.at.returns-then-first-point_count c).In_ok-check_stored in
    let r = right-sound (goal.at.returns-then-first-point_count c).In_ok-check_stored-2 in
    found-pair a.left.now a.right.now a.first l r _
    (compare-first a.left.now a.right.now a.first l r (counts (goal.at.returns-then-first-point_count c).Else-n-variables) (omega (arith, size (goal.at.returns-then-first-point_count c).After-point_count, c.if-first-point_count.true)))

pub returns : goal.returns
returns c =
    let a = c.args in
    let l = left-sound (goal.at.returns c).In_ok-check_stored in
    let r = right-sound (goal.at.returns c).In_ok-check_stored-2 in
    found-pair a.left.now a.right.now a.first l r _
    (compare-sound a.left.now a.right.now a.first l r (counts (goal.at.returns c).Else-n-variables) (omega (arith, size (goal.at.returns c).After-point_count, c.if-first-point_count.false)))
