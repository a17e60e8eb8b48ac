-- `report::report_text` meets its contract: the refusal alone, or the report of the table that was read. Assumes nothing.
use mathlib.Core.Path.{◌≡◌, sym, ap, ◌∙◌}
use mathlib.Core.List.{List}
use Prim.Native.Nat.{ℕ, ◌≤◌}
use lib.ListN.{length, replicate, length-replicate}
use lib.Seq.{length-take-le}
use Rattle.table.specs.Flags.{max_points}
use Rattle.table.proofs.Results.{number-nonzero, number-told}
use Rattle.text.proofs.Writing.{fits-same, wrote-same}
use Rattle.stored.specs.declared.TableRead.{TableRead}
use Rattle.stored.specs.Reading.{read_tests, read_fault, refused_read}
use Rattle.stored.proofs.Rooms.{accepted-read}
use Rattle.lines.specs.Lines.{fault_line}
use Rattle.report.specs.Report.{report_text}
use Rattle.report.proofs.Answering.{read-refused, read_table, read-text, on_fits, free-fits}
use Rattle.report.proofs.report_text.Goals as goal
use Rattle.report.proofs.report_text.Goals.{After-place, In-Ok}

-- The table is read into two arrays of zeros.
abbrev zeros : List ℕ
zeros = replicate max_points 0

long : length zeros ≡ max_points
long = length-replicate {A = ℕ} max_points 0

-- It is refused: the line of the refusal is the report.
refused : (c : After-place) → fault_line c.number.result c.place.result ≡ report_text c.args.bytes.now
refused c =
    let refusal = c.in-Err.refusal in
    rw (c.number.ensures, c.place.ensures) (read-refused c.args.bytes.now zeros zeros long long (refused_read refusal) c.in-Err.ensures.answer (number-nonzero refusal))

pub fault_line-requires : goal.fault_line-requires
fault_line-requires c = fits-same (sym (refused (goal.at.fault_line-requires c).After-place)) c.requires

pub returns-in-Err : goal.returns-in-Err
returns-in-Err c = wrote-same _ (refused (goal.at.returns-in-Err c).After-place) c.fault_line.ensures

-- It is read: its points are at the front of the two arrays, it is accepted, and its text is the report.
accepted : (c : In-Ok) → c.in-Ok.read.refusal ≡ 0
unfolding read_fault
accepted c =
    let none : read_fault c.args.bytes.now (length zeros) (length zeros) ≡ 0 = sym (number-told (read_tests c.args.bytes.now (length zeros) (length zeros)) c.in-Ok.ensures.refusal) in
    ap (λ (read : TableRead). read.refusal) (c.in-Ok.ensures.answer ∙ accepted-read c.args.bytes.now zeros zeros none)

module _ (c : In-Ok) where
  on_there : c.in-Ok.read.on_count ≤ length c.try_read.new.on
  on_there = let e = c.in-Ok.ensures in on_fits c.args.bytes.now zeros zeros long long c.in-Ok.read e.answer (accepted c) c.try_read.new.on c.try_read.new.free e.on_after e.free_after

  free_there : c.in-Ok.read.free_count ≤ length c.try_read.new.free
  free_there = let e = c.in-Ok.ensures in free-fits c.args.bytes.now zeros zeros long long c.in-Ok.read e.answer (accepted c) c.try_read.new.on c.try_read.new.free e.on_after e.free_after

pub slice_bounds-on-end : goal.slice_bounds-on-end
slice_bounds-on-end c = on_there (goal.at.slice_bounds-on-end c).In-Ok

pub slice_bounds-free-end : goal.slice_bounds-free-end
slice_bounds-free-end c = free_there (goal.at.slice_bounds-free-end c).In-Ok

pub slice_bounds-table_text-end : goal.slice_bounds-table_text-end
slice_bounds-table_text-end c = sym (length-take-le _ _ (on_there (goal.at.slice_bounds-table_text-end c).In-Ok))

pub slice_bounds-table_text-end-in-Ok : goal.slice_bounds-table_text-end-in-Ok
slice_bounds-table_text-end-in-Ok c = sym (length-take-le _ _ (free_there (goal.at.slice_bounds-table_text-end-in-Ok c).In-Ok))

pub table_text-requires-clause-accepted : goal.table_text-requires-clause-accepted
table_text-requires-clause-accepted c =
    let e = c.in-Ok.ensures in
    read_table c.args.bytes.now zeros zeros long long c.in-Ok.read e.answer (accepted (goal.at.table_text-requires-clause-accepted c).In-Ok) c.try_read.new.on c.try_read.new.free e.on_after e.free_after

pub table_text-requires-clause-fits : goal.table_text-requires-clause-fits
table_text-requires-clause-fits c =
    let e = c.in-Ok.ensures in
    let accepted_here = accepted (goal.at.table_text-requires-clause-fits c).In-Ok in
    fits-same (sym (read-text c.args.bytes.now zeros zeros long long c.in-Ok.read e.answer accepted_here c.try_read.new.on c.try_read.new.free e.on_after e.free_after)) c.requires

pub returns-in-Ok : goal.returns-in-Ok
returns-in-Ok c =
    let e = c.in-Ok.ensures in
    let accepted_here = accepted (goal.at.returns-in-Ok c).In-Ok in
    wrote-same _ (read-text c.args.bytes.now zeros zeros long long c.in-Ok.read e.answer accepted_here c.try_read.new.on c.try_read.new.free e.on_after e.free_after) c.table_text.ensures
