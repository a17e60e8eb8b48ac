-- `pla::write_mark` meets its contract: the record of a mark, if there is one, is stored. Assumes nothing.
use mathlib.Core.Path.{◌≡◌, sym, ap, ◌∙◌}
use mathlib.Core.List.{[]}
use native.Mathlib.Omega.{arith}
use lib.ListN.{length}
use lib.Seq.{sets}
use Rattle.records.specs.Kinds.{on_kind, free_kind, encode_record}
use Rattle.stored.specs.Encoding.{encode_marks}
use Rattle.pla.specs.Table.{mark_of}
use Rattle.pla.proofs.Marking.{record-on, record-free, record-none}
use Rattle.pla.proofs.write_mark.Goals as goal

pub put_record-requires : goal.put_record-requires
put_record-requires c =
    let a = c.args in
    let e : encode_marks (mark_of a.on a.free a.point) ≡ encode_record on_kind a.point = rw c.if-on.true (record-on a.free a.point) in
    omega (arith, ap length e)

pub returns-then-on : goal.returns-then-on
returns-then-on c =
    let a = c.args in
    let e : encode_marks (mark_of a.on a.free a.point) ≡ encode_record on_kind a.point = rw c.if-on.true (record-on a.free a.point) in
    record { place = omega (arith, ap length e); room_after = c.put_record.ensures ∙ ap (sets a.room.now a.at) (sym e) }

pub put_record-requires-then-free : goal.put_record-requires-then-free
put_record-requires-then-free c =
    let a = c.args in
    let e : encode_marks (mark_of a.on a.free a.point) ≡ encode_record free_kind a.point = rw (c.if-on.false, c.if-free.true) (record-free a.point) in
    omega (arith, ap length e)

pub returns-then-free : goal.returns-then-free
returns-then-free c =
    let a = c.args in
    let e : encode_marks (mark_of a.on a.free a.point) ≡ encode_record free_kind a.point = rw (c.if-on.false, c.if-free.true) (record-free a.point) in
    record { place = omega (arith, ap length e); room_after = c.put_record-then-free.ensures ∙ ap (sets a.room.now a.at) (sym e) }

pub returns : goal.returns
returns c =
    let a = c.args in
    let e : encode_marks (mark_of a.on a.free a.point) ≡ [] = rw (c.if-on.false, c.if-free.false) (record-none a.point) in
    record { place = omega (arith, ap length e); room_after = ap (sets a.room.now a.at) (sym e) }
