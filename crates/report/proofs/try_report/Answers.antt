-- `report::try_report` meets its contract: the text is copied to the front of the room, if it fits. Assumes nothing.
use mathlib.Core.Path.{◌≡◌, sym, ap, ◌∙◌}
use Prim.Native.Nat.{ℕ}
use native.Mathlib.Omega.{arith}
use lib.ListN.{length}
use lib.Seq.{length-take-le}
use Rattle.text.proofs.Writing.{wrote-fits, wrote-part}
use Rattle.report.specs.Report.{report_text}
use Rattle.report.proofs.Answering.{report-room, report-long, report-short, report-accepted}
use Rattle.report.proofs.try_report.Goals as goal

pub report_at_front-length-requires : goal.report_at_front-length-requires
report_at_front-length-requires c =
    let t = c.text_room-text in
    report-room c.args.bytes.now t.result t.ensures

pub returns-then-room-length-clause-value : goal.returns-then-room-length-clause-value
returns-then-room-length-clause-value c = (report-short c.args.bytes.now c.args.room.now (omega (arith, c.report_at_front-length.ensures.place, c.if-room-length.true))).0

pub returns-then-room-length-clause-room_after : goal.returns-then-room-length-clause-room_after
returns-then-room-length-clause-room_after c = (report-short c.args.bytes.now c.args.room.now (omega (arith, c.report_at_front-length.ensures.place, c.if-room-length.true))).1

-- The report is written to an array of its own, which is long enough.
pub slice_bounds-text-end : goal.slice_bounds-text-end
slice_bounds-text-end c = let t = c.text_room-text in wrote-fits (report-long c.args.bytes.now t.result t.ensures) c.report_at_front-length.ensures

pub slice_bounds-copy_from_slice-end-3 : goal.slice_bounds-copy_from_slice-end-3
slice_bounds-copy_from_slice-end-3 c = sym (length-take-le _ _ (let t = c.text_room-text in wrote-fits (report-long c.args.bytes.now t.result t.ensures) c.report_at_front-length.ensures))

pub copy_from_slice-requires : goal.copy_from_slice-requires
copy_from_slice-requires c =
    let t = c.text_room-text in
    length-take-le _ _ (omega (arith, c.if-room-length.false)) ∙ sym (length-take-le _ _ (wrote-fits (report-long c.args.bytes.now t.result t.ensures) c.report_at_front-length.ensures))

pub returns-clause-value : goal.returns-clause-value
returns-clause-value c =
    let a = c.args in
    let w = c.report_at_front-length in
    let n : w.result ≡ length (report_text a.bytes.now) = omega (arith, w.ensures.place) in
    ap (λ (j : ℕ). record { refusal = 0; length = j }) n ∙ (report-accepted a.bytes.now a.room.now (omega (arith, n, c.if-room-length.false))).0

pub returns-clause-room_after : goal.returns-clause-room_after
returns-clause-room_after c =
    let a = c.args in
    let w = c.report_at_front-length in
    let t = c.text_room-text in
    let n : w.result ≡ length (report_text a.bytes.now) = omega (arith, w.ensures.place) in
    rw (c.copy_from_slice.ensures.after, wrote-part (report-long a.bytes.now t.result t.ensures) w.ensures, n) (report-accepted a.bytes.now a.room.now (omega (arith, n, c.if-room-length.false))).1
