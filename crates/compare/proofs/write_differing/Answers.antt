-- `compare::write_differing` meets its contract: one law for each way through a turn, over what is passed so far. Assumes nothing.
use mathlib.Core.Path.{◌≡◌}
use Prim.Native.Nat.{◌+◌, ◌*◌, ◌≤◌}
use native.Mathlib.Omega.{arith}
use lib.ListN.{length}
use Rattle.point_marks.specs.Marks.{mark_at}
use Rattle.compare.specs.Differences.{difference_length}
use Rattle.compare.proofs.Writing.{none_passed, passed_length, passed-same, passed-more, passed-stops, passed-ends}
use Rattle.compare.proofs.write_differing.Goals as goal
use Rattle.compare.proofs.write_differing.Goals.{Else-records-fit}

pub loop-p-init : goal.loop-p-init
loop-p-init c = let a = c.args in (omega arith, none_passed (mark_at a.left.now) (mark_at a.right.now) a.first a.room.now)

pub loop-p-preserved-then-left-p : goal.loop-p-preserved-then-left-p
loop-p-preserved-then-left-p c =
    let i = c.loop-p.invariant in
    let a = c.args in
    (i.0, passed-same (mark_at a.left.now) (mark_at a.right.now) a.first a.room.now i.1 c.if-left-p.true)

pub shape_of-room-then-records-fit : goal.shape_of-room-then-records-fit
shape_of-room-then-records-fit c =
    let a = c.args in
    passed_length (mark_at a.left.now) (mark_at a.right.now) a.first a.room.now c.loop-p.invariant.1

pub returns-then-records-fit : goal.returns-then-records-fit
returns-then-records-fit c =
    let a = c.args in
    let s = passed-stops (mark_at a.left.now) (mark_at a.right.now) a.first a.room.now c.loop-p.invariant.1 a.size c.loop-p-test.true c.if-left-p.false c.if-records-fit.true in
    record { stopped = s.0; room_after = s.1 }

-- Before a differing point that fits.
room-left : (c : Else-records-fit)
    → difference_length * c.loop-p.records + difference_length ≤ length c.args.room.now
room-left c = omega (arith, c.loop-p.invariant.0, c.if-records-fit.false)

pub overflow_mul-records : goal.overflow_mul-records
overflow_mul-records c = omega (arith, room-left (goal.at.overflow_mul-records c).Else-records-fit)

pub put_difference-requires : goal.put_difference-requires
put_difference-requires c =
    let a = c.args in
    omega (arith, room-left (goal.at.put_difference-requires c).Else-records-fit, passed_length (mark_at a.left.now) (mark_at a.right.now) a.first a.room.now c.loop-p.invariant.1)

pub overflow_add-records : goal.overflow_add-records
overflow_add-records c = omega (arith, room-left (goal.at.overflow_add-records c).Else-records-fit)

pub loop-p-preserved : goal.loop-p-preserved
loop-p-preserved c =
    let a = c.args in (
      omega (arith, c.loop-p.invariant.0, c.if-records-fit.false),
      rw c.put_difference.ensures (passed-more (mark_at a.left.now) (mark_at a.right.now) a.first a.room.now c.loop-p.invariant.1 c.if-left-p.false (room-left (goal.at.loop-p-preserved c).Else-records-fit)),
    )

pub shape_of-room : goal.shape_of-room
shape_of-room c =
    let a = c.args in
    passed_length (mark_at a.left.now) (mark_at a.right.now) a.first a.room.now c.loop-p.invariant.1

pub returns : goal.returns
returns c =
    let loop = c.loop-p in
    let a = c.args in
    let e : loop.p ≡ a.size = omega arith in
    let s = passed-ends (mark_at a.left.now) (mark_at a.right.now) a.first a.room.now loop.invariant.1 a.size e in
    record { stopped = s.0; room_after = s.1 }
