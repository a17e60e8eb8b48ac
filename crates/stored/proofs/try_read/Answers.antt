-- `stored::try_read` meets its contract: the one decision says what is read and what stands in both rooms. Assumes nothing.
use mathlib.Core.Path.{◌≡◌, sym, ap, ◌∙◌}
use mathlib.Core.Logic.{◌≢◌}
use lib.ListN.{length}
use Rattle.std.specs.Prelude.{Err}
use Rattle.table.specs.Refusal.{Fault}
use Rattle.table.specs.Answers.{settled}
use Rattle.std.proofs.lemmas.Result.{err_from_is_err_and}
use Rattle.table.proofs.Results.{number-nonzero, number-told, handed-on}
use Rattle.stored.specs.Reading.{read_tests, read_fault, read_place, read_refused, refused_read}
use Rattle.stored.specs.Stored.{LaidOut}
use Rattle.stored.proofs.Accepting.{stored-laid}
use Rattle.stored.proofs.Rooms.{read_fits, refused-read, refused-on, refused-free, accepted-read, accepted-on, accepted-free}
use Rattle.stored.proofs.try_read.Goals as goal
use Rattle.stored.proofs.try_read.Goals.{In_err-check_read, In_ok-check_read}

-- What was found is the refusal of reading.
some : (c : In_err-check_read) → read_fault c.args.bytes.now (length c.args.on.now) (length c.args.free.now) ≢ 0
unfolding read_fault
some c z = number-nonzero c.in_err-check_read.field-0.0 (number-told (read_tests c.args.bytes.now (length c.args.on.now) (length c.args.free.now)) (c.in_err-check_read.ensures) ∙ z)

told : (c : In_err-check_read) → refused_read c.in_err-check_read.field-0.0 ≡ read_refused (read_place c.args.bytes.now (length c.args.on.now) (length c.args.free.now)) (read_fault c.args.bytes.now (length c.args.on.now) (length c.args.free.now))
unfolding read_fault read_place
told c = ap (λ (f : Fault). read_refused f.place f.number) (c.in_err-check_read.ensures)

pub returns-in_err-check_read-clause-refusal :
    goal.returns-in_err-check_read-clause-refusal
returns-in_err-check_read-clause-refusal c =
    let handed = err_from_is_err_and c.from_residual.result c.from_residual.ensures.1 in
    handed-on handed.1 handed.2 ∙ c.in_err-check_read.ensures

pub returns-in_err-check_read-clause-answer : goal.returns-in_err-check_read-clause-answer
returns-in_err-check_read-clause-answer c =
    let a = c.args in
    let handed = err_from_is_err_and c.from_residual.result c.from_residual.ensures.1 in
    let at = (goal.at.returns-in_err-check_read-clause-answer c).In_err-check_read in
    ap (settled refused_read) (handed.1 ∙ ap Err handed.2) ∙ told at ∙ sym (refused-read a.bytes.now a.on.now a.free.now (some at))

pub returns-in_err-check_read-clause-on_after : goal.returns-in_err-check_read-clause-on_after
returns-in_err-check_read-clause-on_after c =
    sym (refused-on c.args.bytes.now c.args.on.now c.args.free.now (some (goal.at.returns-in_err-check_read-clause-on_after c).In_err-check_read))

pub returns-in_err-check_read-clause-free_after :
    goal.returns-in_err-check_read-clause-free_after
returns-in_err-check_read-clause-free_after c =
    sym (refused-free c.args.bytes.now c.args.on.now c.args.free.now (some (goal.at.returns-in_err-check_read-clause-free_after c).In_err-check_read))

-- Past the tests nothing is refused, the table is laid out and both lists fit.
accepted : (c : In_ok-check_read) → read_fault c.args.bytes.now (length c.args.on.now) (length c.args.free.now) ≡ 0
unfolding read_fault
accepted c = sym (number-told (read_tests c.args.bytes.now (length c.args.on.now) (length c.args.free.now)) (c.in_ok-check_read.ensures))

laid : (c : In_ok-check_read) → LaidOut c.args.bytes.now
laid c = stored-laid c.args.bytes.now (read_fits c.args.bytes.now (length c.args.on.now) (length c.args.free.now) (accepted c)).0

pub write_points-on_count-requires-clause-laid_out :
    goal.write_points-on_count-requires-clause-laid_out
write_points-on_count-requires-clause-laid_out c = laid (goal.at.write_points-on_count-requires-clause-laid_out c).In_ok-check_read

pub write_points-on_count-requires-clause-enough_room :
    goal.write_points-on_count-requires-clause-enough_room
write_points-on_count-requires-clause-enough_room c =
    (read_fits c.args.bytes.now _ _ (accepted (goal.at.write_points-on_count-requires-clause-enough_room c).In_ok-check_read)).1

pub write_points-free_count-requires-clause-laid_out :
    goal.write_points-free_count-requires-clause-laid_out
write_points-free_count-requires-clause-laid_out c = laid (goal.at.write_points-free_count-requires-clause-laid_out c).In_ok-check_read

pub write_points-free_count-requires-clause-enough_room :
    goal.write_points-free_count-requires-clause-enough_room
write_points-free_count-requires-clause-enough_room c =
    (read_fits c.args.bytes.now _ _ (accepted (goal.at.write_points-free_count-requires-clause-enough_room c).In_ok-check_read)).2

pub variables-requires : goal.variables-requires
variables-requires c = laid (goal.at.variables-requires c).In_ok-check_read

pub returns-clause-answer : goal.returns-clause-answer
returns-clause-answer c =
    let a = c.args in
    cc (c.variables.ensures, c.write_points-on_count.ensures.count, c.write_points-free_count.ensures.count, accepted-read a.bytes.now a.on.now a.free.now (accepted (goal.at.returns-clause-answer c).In_ok-check_read))

pub returns-clause-on_after : goal.returns-clause-on_after
returns-clause-on_after c =
    c.write_points-on_count.ensures.room_after ∙ sym (accepted-on c.args.bytes.now c.args.on.now c.args.free.now (accepted (goal.at.returns-clause-on_after c).In_ok-check_read))

pub returns-clause-free_after : goal.returns-clause-free_after
returns-clause-free_after c =
    c.write_points-free_count.ensures.room_after ∙ sym (accepted-free c.args.bytes.now c.args.on.now c.args.free.now (accepted (goal.at.returns-clause-free_after c).In_ok-check_read))
