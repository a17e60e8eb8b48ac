-- `pla::write_marks` meets its contract. The loop's invariant: the records of the points passed are written. Assumes nothing.
use mathlib.Core.Path.{◌≡◌, sym, ap, ap₂, ◌∙◌}
use mathlib.Core.Bool.{Bool}
use mathlib.Core.List.{List}
use Prim.Native.Nat.{ℕ, ◌<◌, ◌^◌}
use native.Mathlib.Omega.{arith}
use lib.ListN.{length, get_or}
use lib.Seq.{sets, length-sets}
use Rattle.stored.specs.Layout.{first_point}
use Rattle.stored.specs.Marks.{Mark}
use Rattle.stored.specs.Encoding.{encode_marks}
use Rattle.pla_cubes.specs.Flagging.{unsaid}
use Rattle.pla.specs.Table.{mark_of, marks_below, flag_on, flag_free}
use Rattle.pla.proofs.Marking.{records-start, bytes_next, records-fit, records-stored}
use lib.Pow.{pow_mono}
use Rattle.pla.proofs.write_marks.Goals as goal
use Rattle.pla.proofs.write_marks.Goals.{After-is_free, At-loop-point}

pub loop-point-init : goal.loop-point-init
loop-point-init c =
    let none = records-start (flag_on c.args.flags.now) (flag_free c.args.kind c.args.flags.now) in
    (omega (arith, ap length none), ap (sets c.args.room.now first_point) (sym none))

pub bounds-flags-flag_place : goal.bounds-flags-flag_place
bounds-flags-flag_place c =
    let few = pow_mono c.requires.n_le_max_variables in
    omega (arith, c.flag_place.ensures, c.point_count-point-end.ensures, few)

-- In the loop: the tests of a point, and how long the room is.
module _ (c : At-loop-point) where
  abbrev on : ℕ → Bool
  on = flag_on c.args.flags.now

  abbrev free : ℕ → Bool
  free = flag_free c.args.kind c.args.flags.now

  long : length c.loop-point.room ≡ length c.args.room.now
  long = ap length c.loop-point.invariant.1 ∙ length-sets c.args.room.now first_point (encode_marks (marks_below on free c.loop-point.point))

-- The point's mark is found.
mark : (c : After-is_free)
    → mark_of (get_or c.args.flags.now c.flag_place.result unsaid).one c.is_free.result c.loop-point.point
    ≡ mark_of (flag_on c.args.flags.now c.loop-point.point) (flag_free c.args.kind c.args.flags.now c.loop-point.point) c.loop-point.point
mark c =
    let flags = c.args.flags.now in
    ap₂ (λ (o f : Bool). mark_of o f c.loop-point.point) (ap (flag_on flags) c.flag_place.ensures) (c.is_free.ensures ∙ ap (flag_free c.args.kind flags) c.flag_place.ensures)

pub write_mark-at-requires : goal.write_mark-at-requires
write_mark-at-requires c =
    let k = (goal.at.write_mark-at-requires c).At-loop-point in
    let point = c.loop-point.point in
    let size : point < 2 ^ c.args.n = omega (arith, c.point_count-point-end.ensures) in
    omega (
      arith,
      c.requires.flags_in_bounds,
      c.loop-point.invariant.0,
      long k,
      records-fit (on k) (free k) point (2 ^ c.args.n) size,
      ap (λ (ms : List Mark). length (encode_marks ms)) (mark c),
    )

pub loop-point-preserved : goal.loop-point-preserved
loop-point-preserved c =
    let k = (goal.at.loop-point-preserved c).At-loop-point in
    let found = mark (goal.at.loop-point-preserved c).After-is_free in
    let point = c.loop-point.point in
    let inv = c.loop-point.invariant in (
      omega (arith, c.write_mark-at.ensures.place, inv.0, ap (λ (ms : List Mark). length (encode_marks ms)) found, bytes_next (on k) (free k) point),
      records-stored (on k) (free k) c.args.room.now point inv.0 inv.1 found c.write_mark-at.ensures.room_after,
    )

pub returns : goal.returns
returns c =
    let e : c.loop-point.point ≡ 2 ^ c.args.n = omega (arith, c.point_count-point-end.ensures) in
    record { place = rw e at c.loop-point.invariant.0; room_after = rw e at c.loop-point.invariant.1 }
