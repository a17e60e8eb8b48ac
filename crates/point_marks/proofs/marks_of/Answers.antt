-- `point_marks::marks_of` meets its contract. The loop's invariant: the records from place i on are what is left to be put in. Assumes nothing.
use mathlib.Core.Path.{◌≡◌, refl, sym, ◌∙◌}
use mathlib.Core.List.{[]}
use Prim.Native.Nat.{◌<◌}
use native.Mathlib.Omega.{arith}
use lib.Pow.{pow_mono}
use lib.ListN.{length, drop, get_or, drop_of_length-le, length-set, get_or-map}
use Rattle.gf2.proofs.Logic.{beq-true}
use Rattle.gf2.proofs.Finite.{get_d-mem}
use Rattle.stored.specs.Marks.{Mark, no_mark, marks}
use Rattle.stored.specs.Stored.{LaidOut}
use Rattle.stored.proofs.Accepting.{stored-laid, stored-valid}
use Rattle.point_marks.proofs.Marks.{put_marks, put_next, marks-at}
use Rattle.point_marks.proofs.marks_of.Goals as goal
use Rattle.point_marks.proofs.marks_of.Goals.{After-flag_place-place, In-loop-i}

pub record_count-i-end-requires : goal.record_count-i-end-requires
record_count-i-end-requires c = stored-laid c.args.bytes.now c.requires

pub loop-i-init : goal.loop-i-init
loop-i-init c = (refl, refl)

-- In the loop: the record is one of the table, and the table is laid out.
listed : (c : In-loop-i) → let bytes = c.args.bytes.now in LaidOut bytes × (c.loop-i.i < length (marks bytes))
listed c = (stored-laid c.args.bytes.now c.requires, omega (arith, c.record_count-i-end.ensures))

pub point_at-requires : goal.point_at-requires
point_at-requires c = let k = listed c in record { laid_out = k.0; i_in_bounds = k.1 }

pub is_marked-requires : goal.is_marked-requires
is_marked-requires c = let k = listed (goal.at.is_marked-requires c).In-loop-i in record { laid_out = k.0; i_in_bounds = k.1 }

-- The place is that of the record's point, and its mark is the record's.
placed : (c : After-flag_place-place)
    → c.flag_place-place.result ≡ (get_or (marks c.args.bytes.now) c.loop-i.i no_mark).point
placed c =
    let ms = marks c.args.bytes.now in
    c.flag_place-place.ensures ∙ c.point_at.ensures ∙ get_or-map (λ (m : Mark). m.point) ms c.loop-i.i no_mark

pub bounds-marks-place : goal.bounds-marks-place
bounds-marks-place c =
    let k = listed (goal.at.bounds-marks-place c).In-loop-i in
    let v = stored-valid c.args.bytes.now c.requires in
    omega (arith, placed (goal.at.bounds-marks-place c).After-flag_place-place, v.below (get_or (marks c.args.bytes.now) c.loop-i.i no_mark) (get_d-mem (marks c.args.bytes.now) c.loop-i.i no_mark k.1), pow_mono v.few)

pub loop-i-preserved : goal.loop-i-preserved
loop-i-preserved c =
    let bytes = c.args.bytes.now in
    let loop = c.loop-i in
    let on : c.is_marked.result ≡ (get_or (marks bytes) loop.i no_mark).is_on = c.is_marked.ensures ∙ beq-true (get_or (marks bytes) loop.i no_mark).is_on in (
      simp length-set loop.invariant.0,
      rw (placed (goal.at.loop-i-preserved c).After-flag_place-place, c.record_mark.ensures, on) (sym (put_next (marks bytes) loop.marks loop.i (listed (goal.at.loop-i-preserved c).In-loop-i).1) ∙ loop.invariant.1),
    )

pub returns : goal.returns
unfolding put_marks
returns c =
    let loop = c.loop-i in
    let end : drop loop.i (marks c.args.bytes.now) ≡ [] = drop_of_length-le (marks c.args.bytes.now) {i = loop.i} (omega (arith, c.record_count-i-end.ensures)) in
    marks-at c.args.bytes.now loop.marks c.requires (rw end at loop.invariant.1)
