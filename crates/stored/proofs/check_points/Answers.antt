-- `stored::check_points` meets its contract: at each return the tests up to it are known, and the list of tests computes. Assumes nothing.
use mathlib.Core.Path.{◌≡◌, sym, ap, ◌∙◌}
use Prim.Native.Nat.{ℕ}
use Rattle.table.specs.Refusal.{first_fault, first_place}
use Rattle.table.specs.Table.{bad_count, outside}
use Rattle.table.proofs.Table.{good-count}
use Rattle.stored.specs.Marks.{stored_variables, stored_points}
use Rattle.stored.proofs.check_points.Goals as goal
use Rattle.stored.proofs.check_points.Goals.{After-bad_count, After-points_outside}

-- The tests of n and of the points, as they are known once they are made.
counted : (c : After-bad_count) → bad_count (stored_variables c.args.bytes.now) ≡ c.bad_count.result
counted c = ap bad_count (sym c.variables-n.ensures) ∙ sym c.bad_count.ensures

surveyed : (c : After-points_outside)
    → let bytes = c.args.bytes.now in
    outside (stored_variables bytes) (stored_points bytes) ≡ c.points_outside.result
surveyed c =
    ap (λ (n : ℕ). outside n (stored_points c.args.bytes.now)) (sym c.variables-n.ensures) ∙ sym c.points_outside.ensures

pub returns-then-bad_count : goal.returns-then-bad_count
unfolding first_fault first_place
returns-then-bad_count c = rw (counted (goal.at.returns-then-bad_count c).After-bad_count ∙ c.if-bad_count.true)

pub points_outside-requires-clause-n_le_max_variables :
    goal.points_outside-requires-clause-n_le_max_variables
points_outside-requires-clause-n_le_max_variables c = ((good-count _).0 (sym c.bad_count.ensures ∙ c.if-bad_count.false)).1

pub returns-then-points_outside : goal.returns-then-points_outside
unfolding first_fault first_place
returns-then-points_outside c =
    rw (counted (goal.at.returns-then-points_outside c).After-bad_count ∙ c.if-bad_count.false, surveyed (goal.at.returns-then-points_outside c).After-points_outside ∙ c.if-points_outside.true)

pub returns-then-points_unordered : goal.returns-then-points_unordered
unfolding first_fault first_place
returns-then-points_unordered c =
    rw (counted (goal.at.returns-then-points_unordered c).After-bad_count ∙ c.if-bad_count.false, surveyed (goal.at.returns-then-points_unordered c).After-points_outside ∙ c.if-points_outside.false, sym c.points_unordered.ensures ∙ c.if-points_unordered.true)

pub returns : goal.returns
unfolding first_fault first_place
returns c =
    rw (counted (goal.at.returns c).After-bad_count ∙ c.if-bad_count.false, surveyed (goal.at.returns c).After-points_outside ∙ c.if-points_outside.false, sym c.points_unordered.ensures ∙ c.if-points_unordered.false)
