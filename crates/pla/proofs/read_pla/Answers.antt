-- `pla::read_pla` meets its contract: the lines decide, then the end of the text, then the room; what is written is the table of what was read. Assumes nothing.
use mathlib.Core.Path.{◌≡◌}
use Prim.Native.Nat.{◌≤◌}
use native.Mathlib.Omega.{arith}
use Rattle.std.proofs.Common.{rules, Err}
use Rattle.std.proofs.lemmas.Result.{err_from_is_err_and}
use Rattle.pla_lines.specs.Lines.{fault_number}
use Rattle.pla_lines.proofs.Judging.{fault-some, given}
use Rattle.pla.proofs.Answering.{few-inputs, few-marks, line_refused, end_refused, room-refused, text-accepted, refusal-some}
use Rattle.pla.proofs.read_pla.Goals as goal
use Rattle.pla.proofs.read_pla.Goals.{After-count_marks-count}

pub returns-in_err-reading : goal.returns-in_err-reading
returns-in_err-reading c =
    let a = c.args in
    let refused = c.in_err-reading.field-0.0 in
    let handed = err_from_is_err_and c.from_residual.result c.from_residual.ensures.1 in
    let k = line_refused a.text.now a.output a.room.now (fault_number refused.fault) refused.line refused.before c.in_err-reading.ensures (fault-some refused.fault) in
    rw (handed.1, handed.2) (record { answer = k.0; room_after = k.1 })

-- No line is at fault, and the end of the text is looked at.
pub returns-in_err-n : goal.returns-in_err-n
returns-in_err-n c =
    let a = c.args in
    let refusal = c.in_err-n.field-0.0 in
    let e : c.from_residual-in_err-n.result ≡ Err refusal = search rules in
    let k = end_refused a.text.now a.output c.in_ok-reading.reading c.in_ok-reading.ensures a.room.now _ c.in_err-n.ensures.fault (refusal-some refusal) in
    rw (e, c.in_err-n.ensures.no_line) (record { answer = k.0; room_after = k.1 })

-- Nor is the end; there are never more inputs than variables of a table.
pub count_marks-count-requires : goal.count_marks-count-requires
count_marks-count-requires c = few-inputs c.args.text.now c.args.output c.in_ok-reading.reading c.in_ok-reading.ensures c.in_ok-n.n (given _ _ c.in_ok-n.ensures.inputs)

-- The marks are counted: never more than points.
counted : (c : After-count_marks-count) → c.count_marks-count.result ≤ 4096
counted c =
    omega (arith, c.count_marks-count.ensures, few-marks c.args.text.now c.args.output c.in_ok-reading.reading c.in_ok-reading.ensures c.in_ok-n.n (given _ _ c.in_ok-n.ensures.inputs))

pub overflow_mul-length : goal.overflow_mul-length
overflow_mul-length c = omega (arith, counted c)

pub overflow_add-length : goal.overflow_add-length
overflow_add-length c = omega (arith, counted c)

pub overflow_add-length-2 : goal.overflow_add-length-2
overflow_add-length-2 c = omega (arith, counted c)

pub returns-then-room-length : goal.returns-then-room-length
returns-then-room-length c =
    let a = c.args in
    let k = room-refused a.text.now a.output c.in_ok-reading.reading c.in_ok-reading.ensures c.in_ok-n.n (given _ _ c.in_ok-n.ensures.inputs) a.room.now c.in_ok-n.ensures.fault
    (omega (arith, c.count_marks-count.ensures, c.if-room-length.true)) in
    record { answer = k.0; room_after = k.1 }

pub write_table-requires : goal.write_table-requires
write_table-requires c =
    record {
      n_le_max_variables = few-inputs c.args.text.now c.args.output c.in_ok-reading.reading c.in_ok-reading.ensures c.in_ok-n.n (given _ _ c.in_ok-n.ensures.inputs);
      count_value = c.count_marks-count.ensures;
      count_in_bounds = omega (arith, c.if-room-length.false);
    }

pub returns : goal.returns
returns c =
    let a = c.args in
    let k = text-accepted a.text.now a.output c.in_ok-reading.reading c.in_ok-reading.ensures c.in_ok-n.n (given _ _ c.in_ok-n.ensures.inputs) a.room.now c.write_table.new.room _ c.in_ok-n.ensures.fault
    (omega (arith, c.count_marks-count.ensures)) (omega (arith, c.if-room-length.false)) c.write_table.ensures in
    record { answer = k.0; room_after = k.1 }
