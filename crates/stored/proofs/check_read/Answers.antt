-- `stored::check_read` meets its contract: the stored table's own refusal comes first, with its place, then each room. Assumes nothing.
use mathlib.Core.Path.{◌≡◌, sym, ◌∙◌}
use mathlib.Core.Bool.{Bool, true, false}
use mathlib.Core.List.{List, [], ◌∷◌}
use Prim.Native.Nat.{ℕ, ◌≤◌, ◌<◌}
use native.Mathlib.Omega.{arith}
use borrow.Author.Tests.{lt-ltb, le-ltb}
use lib.ListN.{length}
use Rattle.table.specs.Refusal.{test, fault_at, fault_of, first_fault, first_place, room_fault}
use Rattle.std.proofs.lemmas.Result.{err_from_is_err_and}
use Rattle.table.proofs.Results.{handed-on, number-told, refused-before, passed-before}
use Rattle.stored.specs.Marks.{stored_on, stored_free}
use Rattle.stored.specs.Stored.{stored_tests, stored_fault, LaidOut}
use Rattle.stored.specs.Reading.{read_tests}
use Rattle.stored.proofs.Accepting.{stored-numbered, stored-laid}
use Rattle.stored.proofs.Rooms.{short}
use Rattle.stored.proofs.check_read.Goals as goal
use Rattle.stored.proofs.check_read.Goals.{In_ok-check_stored, then-on_room-count_points-via-then-on_room-count_points, then-on_room-count_points-via-else-on_room-count_points+then-free_room-count_points}

pub returns-in_err-check_stored : goal.returns-in_err-check_stored
returns-in_err-check_stored c =
    let handed = err_from_is_err_and c.from_residual.result c.from_residual.ensures.1 in
    handed-on handed.1 handed.2 ∙ refused-before (stored_tests c.args.bytes.now) _ c.in_err-check_stored.field-0.0 (c.in_err-check_stored.ensures)

-- Past the table's tests it is laid out, and the rooms decide.
laid : (c : In_ok-check_stored) → LaidOut c.args.bytes.now
unfolding stored_fault
laid c = stored-laid c.args.bytes.now (sym (number-told (stored_tests c.args.bytes.now) (c.in_ok-check_stored.ensures)))

later : (c : In_ok-check_stored)
    → let a = c.args in
    fault_of (test room_fault (short a.bytes.now a.on_room a.free_room) ∷ []) ≡ fault_of (read_tests a.bytes.now a.on_room a.free_room)
later c = passed-before (stored_tests c.args.bytes.now) _ (stored-numbered c.args.bytes.now) (c.in_ok-check_stored.ensures)

one : {t : Bool} → t ≡ true → fault_at room_fault 0 ≡ fault_of (test room_fault t ∷ [])
unfolding first_fault first_place
one e = rw e

none : {t : Bool} → t ≡ false → fault_at 0 0 ≡ fault_of (test room_fault t ∷ [])
unfolding first_fault first_place
none e = rw e

pub count_points-requires : goal.count_points-requires
count_points-requires c = laid c

pub count_points-requires-else-on_room-count_points :
    goal.count_points-requires-else-on_room-count_points
count_points-requires-else-on_room-count_points c = laid (goal.at.count_points-requires-else-on_room-count_points c).In_ok-check_stored

-- What a count says of a room.
lacks : {count room : ℕ} (points : List ℕ) → count ≡ length points → room < count → room < length points
lacks points e h = omega arith

fits : {count room : ℕ} (points : List ℕ) → count ≡ length points → count ≤ room → length points ≤ room
fits points e h = omega arith

pub returns-then-on_room-count_points : goal.returns-then-on_room-count_points
returns-then-on_room-count_points c =
    let a = c.args in
    let on = stored_on a.bytes.now in
    let free = stored_free a.bytes.now in
    one
    (elim c.then-on_room-count_points.branch [
      | then-on_room-count_points-via-then-on_room-count_points w ↦ rw (lt-ltb a.on_room (length on) (lacks on c.count_points.ensures w.if-on_room-count_points.true))
      | then-on_room-count_points-via-else-on_room-count_points+then-free_room-count_points w ↦
          rw (le-ltb a.on_room (length on) (fits on c.count_points.ensures w.if-on_room-count_points.false), lt-ltb a.free_room (length free) (lacks free w.count_points-else-on_room-count_points.ensures w.if-free_room-count_points.true))
    ])
    ∙ later (goal.at.returns-then-on_room-count_points c).In_ok-check_stored

pub returns : goal.returns
returns c =
    let a = c.args in
    let on = stored_on a.bytes.now in
    let free = stored_free a.bytes.now in
    none (rw (le-ltb a.on_room (length on) (fits on c.count_points.ensures c.if-on_room-count_points.false), le-ltb a.free_room (length free) (fits free c.count_points-else-on_room-count_points.ensures c.if-free_room-count_points.false)))
    ∙ later (goal.at.returns c).In_ok-check_stored
