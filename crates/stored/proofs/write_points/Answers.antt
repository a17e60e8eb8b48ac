-- `stored::write_points` meets its contract. The loop's invariant: the points of the records passed are written. Assumes nothing.
use mathlib.Core.Path.{sym, ◌∙◌}
use Prim.Native.Nat.{◌<◌}
use native.Mathlib.Omega.{arith}
use lib.ListN.{length, get_or-map}
use Rattle.stored.specs.Marks.{Mark, no_mark, marks}
use Rattle.stored.proofs.Points.{none_written, all-written, room-left, written-more, written_same}
use Rattle.stored.proofs.write_points.Goals as goal
use Rattle.stored.proofs.write_points.Goals.{After-point_at, then-is_marked, else-is_marked}

pub loop-i-init : goal.loop-i-init
loop-i-init c = none_written c.args.on (marks c.args.bytes.now) c.args.room.now

-- The record is to be written, so there is room for it.
fits : (c : After-point_at) → c.loop-i.at < length c.args.room.now
fits c =
    let a = c.args in
    room-left a.on (marks a.bytes.now) a.room.now c.loop-i.i c.loop-i.at c.loop-i.room (omega arith) c.loop-i.invariant c.requires.enough_room (sym c.is_marked.ensures ∙ c.if-is_marked.true)

pub offset_bounds-room-at : goal.offset_bounds-room-at
offset_bounds-room-at c = omega (arith, fits c)

pub bounds-room-at : goal.bounds-room-at
bounds-room-at c = omega (arith, fits c, c.loop-i.invariant.long)

pub overflow_add-at : goal.overflow_add-at
overflow_add-at c = omega (arith, fits c)

pub loop-i-preserved : goal.loop-i-preserved
loop-i-preserved c =
    let a = c.args in
    let ms = marks a.bytes.now in
    elim c.if-is_marked.branch [
      | then-is_marked w ↦ (
          let point = w.point_at.ensures ∙ get_or-map (λ (m : Mark). m.point) ms c.loop-i.i no_mark in
          rw (w.room-is, w.at-is, point)
          (written-more a.on ms a.room.now c.loop-i.i c.loop-i.at c.loop-i.room (omega arith) c.loop-i.invariant c.requires.enough_room (sym c.is_marked.ensures ∙ w.if-is_marked.true)))
      | else-is_marked w ↦
          rw (w.room-is, w.at-is)
          (written_same a.on ms a.room.now c.loop-i.i c.loop-i.at c.loop-i.room (omega arith) c.loop-i.invariant (sym c.is_marked.ensures ∙ w.if-is_marked.false))
    ]

pub returns-clause-count : goal.returns-clause-count
returns-clause-count c = (all-written (omega arith) c.loop-i.invariant).0

pub returns-clause-room_after : goal.returns-clause-room_after
returns-clause-room_after c = (all-written (omega arith) c.loop-i.invariant).1
