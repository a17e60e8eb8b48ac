-- `compare::try_compare` meets its contract: a refusal by the tests, or what was counted and listed from the marks of both tables. Assumes nothing.
use mathlib.Core.Path.{◌≡◌, sym, ap, ◌∙◌}
use Prim.Native.Nat.{ℕ, ◌^◌, ◌≤◌}
use native.Mathlib.Omega.{arith}
use lib.Pow.{pow_mono}
use Rattle.std.specs.Prelude.{Err}
use Rattle.std.proofs.lemmas.Result.{err_from_is_err_and}
use Rattle.gf2.specs.Limits.{max_variables}
use Rattle.table.specs.Flags.{max_points}
use Rattle.table.specs.Answers.{settled}
use Rattle.table.proofs.Results.{told_by, number-nonzero, number-told}
use Rattle.stored.specs.Marks.{stored_variables}
use Rattle.stored.proofs.Accepting.{stored-laid, stored-accepted}
use Rattle.compare.specs.Answer.{table_size, Comparable, compare_tests, compare_fault, refused_comparison}
use Rattle.compare.proofs.Refusals.{compare-exactly}
use Rattle.compare.proofs.Answering.{compare-refused, compare-answer}
use Rattle.compare.proofs.try_compare.Goals as goal
use Rattle.compare.proofs.try_compare.Goals.{After-point_count-size, In_ok-check_compare}

pub returns-in_err-check_compare-clause-answer : goal.returns-in_err-check_compare-clause-answer
returns-in_err-check_compare-clause-answer c =
    let a = c.args in
    let refusal = c.in_err-check_compare.field-0.0 in
    let handed = err_from_is_err_and c.from_residual.result c.from_residual.ensures.1 in
    ap (settled refused_comparison) (handed.1 ∙ ap Err handed.2)
    ∙ (compare-refused a.left.now a.right.now a.first a.room.now (told_by refusal) c.in_err-check_compare.ensures (number-nonzero refusal)).0

pub returns-in_err-check_compare-clause-room_after :
    goal.returns-in_err-check_compare-clause-room_after
returns-in_err-check_compare-clause-room_after c =
    let a = c.args in
    let refusal = c.in_err-check_compare.field-0.0 in
    (compare-refused a.left.now a.right.now a.first a.room.now (told_by refusal) c.in_err-check_compare.ensures (number-nonzero refusal)).1

-- The call has no refusal, so that both tables are accepted and the first point is at most 2 ^ n.
none : (c : In_ok-check_compare) → let a = c.args in compare_fault a.left.now a.right.now a.first ≡ 0
unfolding compare_fault
none c = let a = c.args in sym (number-told (compare_tests a.left.now a.right.now a.first) c.in_ok-check_compare.ensures)

sound : (c : In_ok-check_compare) → let a = c.args in Comparable a.left.now a.right.now × (a.first ≤ table_size a.left.now)
sound c = let a = c.args in (compare-exactly a.left.now a.right.now a.first).0 (none c)

pub variables-requires : goal.variables-requires
variables-requires c = stored-laid c.args.left.now (sound c).0.left-sound

few : (c : In_ok-check_compare) → stored_variables c.args.left.now ≤ max_variables
few c = (stored-accepted c.args.left.now (sound c).0.left-sound).few

pub point_count-size-requires : goal.point_count-size-requires
point_count-size-requires c = omega (arith, c.variables.ensures, few (goal.at.point_count-size-requires c).In_ok-check_compare)

-- The number of points, as it was computed.
size : (c : After-point_count-size)
    → c.point_count-size.result ≡ table_size c.args.left.now
size c = c.point_count-size.ensures ∙ ap (λ (n : ℕ). 2 ^ n) c.variables.ensures

within : (c : After-point_count-size) → stored_variables c.args.left.now ≤ max_variables → c.point_count-size.result ≤ max_points
within c h = omega (arith, size c, pow_mono h)

pub marks_of-left_marks-requires : goal.marks_of-left_marks-requires
marks_of-left_marks-requires c = (sound (goal.at.marks_of-left_marks-requires c).In_ok-check_compare).0.left-sound

pub marks_of-right_marks-requires : goal.marks_of-right_marks-requires
marks_of-right_marks-requires c = (sound (goal.at.marks_of-right_marks-requires c).In_ok-check_compare).0.right-sound

pub count_differing-total-requires : goal.count_differing-total-requires
count_differing-total-requires c = within (goal.at.count_differing-total-requires c).After-point_count-size (few (goal.at.count_differing-total-requires c).In_ok-check_compare)

pub write_differing-stopped-requires-clause-first_le_size :
    goal.write_differing-stopped-requires-clause-first_le_size
write_differing-stopped-requires-clause-first_le_size c =
    omega (arith, (sound (goal.at.write_differing-stopped-requires-clause-first_le_size c).In_ok-check_compare).1, size (goal.at.write_differing-stopped-requires-clause-first_le_size c).After-point_count-size)

pub write_differing-stopped-requires-clause-size_le_max_points :
    goal.write_differing-stopped-requires-clause-size_le_max_points
write_differing-stopped-requires-clause-size_le_max_points c =
    within (goal.at.write_differing-stopped-requires-clause-size_le_max_points c).After-point_count-size (few (goal.at.write_differing-stopped-requires-clause-size_le_max_points c).In_ok-check_compare)

pub returns : goal.returns
returns c =
    let a = c.args in
    let r = compare-answer a.left.now a.right.now a.first a.room.now (none (goal.at.returns c).In_ok-check_compare) c.marks_of-left_marks.result c.marks_of-right_marks.result c.marks_of-left_marks.ensures c.marks_of-right_marks.ensures
    (size (goal.at.returns c).After-point_count-size) c.count_differing-total.ensures c.write_differing-stopped.ensures.stopped c.write_differing-stopped.ensures.room_after in
    record { answer = r.0; room_after = r.1 }
