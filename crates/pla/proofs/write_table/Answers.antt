-- `pla::write_table` meets its contract: first record, marks, end. Assumes nothing.
use mathlib.Core.Path.{◌≡◌, ap, ◌∙◌}
use mathlib.Core.List.{List}
use Prim.Native.Nat.{ℕ, ◌^◌}
use native.Mathlib.Omega.{arith}
use borrow.Author.Rules.{rules}
use lib.ListN.{length, set, length-set}
use lib.Seq.{sets}
use Rattle.records.specs.Kinds.{variables_kind, encode_end}
use Rattle.pla.specs.Table.{flag_marks, flag_on, flag_free}
use Rattle.pla.proofs.Marking.{marks-few, encode-length, table-written}
use lib.Pow.{pow_mono}
use Rattle.pla.proofs.write_table.Goals as goal
use Rattle.pla.proofs.write_table.Goals.{After-write_marks-at}

pub bounds-room-1 : goal.bounds-room-1
bounds-room-1 c = simp length-set (omega (arith, c.requires.count_in_bounds))

pub write_marks-at-requires : goal.write_marks-at-requires
write_marks-at-requires c =
    let pre = c.requires in
    let args = c.args in
    record {
      n_le_max_variables = pre.n_le_max_variables;
      flags_in_bounds = simp length-set (omega (arith, pre.count_value, pre.count_in_bounds, encode-length (flag_marks args.kind args.n args.flags.now)));
    }

-- The marks are written, and the room is as long as it was.
kept : (c : After-write_marks-at) → length c.write_marks-at.new.room ≡ length c.args.room.now
kept c =
    let lent = c.args.room.now in
    let same : length (set (set lent 0 variables_kind) 1 c.args.n) ≡ length lent = simp length-set in
    let left : length c.write_marks-at.new.room ≡ length (set (set lent 0 variables_kind) 1 c.args.n) = search rules in
    left ∙ same

pub overflow_cast-count : goal.overflow_cast-count
overflow_cast-count c =
    let a = c.args in
    omega (arith, c.requires.count_value, marks-few (flag_on a.flags.now) (flag_free a.kind a.flags.now) (2 ^ a.n), pow_mono c.requires.n_le_max_variables)

pub put_end-requires : goal.put_end-requires
put_end-requires c =
    let a = c.args in
    let pre = c.requires in
    omega (
      arith,
      kept (goal.at.put_end-requires c).After-write_marks-at,
      c.write_marks-at.ensures.place,
      pre.count_value,
      pre.count_in_bounds,
      encode-length (flag_marks a.kind a.n a.flags.now),
    )

pub returns : goal.returns
returns c =
    let a = c.args in
    c.put_end.ensures
    ∙ ap (λ (l : List ℕ). sets l c.write_marks-at.result (encode_end a.count)) c.write_marks-at.ensures.room_after
    ∙ table-written a.room.now a.n (flag_marks a.kind a.n a.flags.now) a.count c.write_marks-at.result c.requires.count_value c.write_marks-at.ensures.place c.requires.count_in_bounds
