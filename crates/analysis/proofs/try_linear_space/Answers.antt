-- `analysis::try_linear_space` meets its contract: the table's refusal, or the space of the flags of its on points. Assumes nothing.
use Rattle.std.proofs.Common.{sym, ◌∙◌, []}
use Rattle.std.proofs.lemmas.Result.{err_from_is_err_and}
use Rattle.table.specs.Answers.{number_of}
use Rattle.table.proofs.Table.{accepted, on-flags}
use Rattle.table.proofs.Results.{number-nonzero}
use Rattle.analysis.proofs.LinearSpaces.{space-refused, space-accepted}
use Rattle.analysis.proofs.try_linear_space.Goals as goal

pub returns-in_err-check_table : goal.returns-in_err-check_table
returns-in_err-check_table c =
    let e = c.in_err-check_table.field-0.0 in
    let p = err_from_is_err_and c.from_residual.result c.from_residual.ensures.1 in
    rw (p.1, p.2) (space-refused c.args.n c.args.on.now (number_of e) c.in_err-check_table.ensures (number-nonzero e))

pub flags_of-flags-requires : goal.flags_of-flags-requires
flags_of-flags-requires c = on-flags (accepted c.args.n c.args.on.now [] (sym c.in_ok-check_table.ensures))

pub linear_space-basis-requires : goal.linear_space-basis-requires
linear_space-basis-requires c = (accepted c.args.n c.args.on.now [] (sym c.in_ok-check_table.ensures)).few

pub returns : goal.returns
returns c =
    let n = c.args.n in
    let on = c.args.on.now in
    let ok = sym c.in_ok-check_table.ensures in
    c.from.ensures ∙ space-accepted n on (accepted n on [] ok).few ok c.flags_of-flags.result c.flags_of-flags.ensures
    c.linear_space-basis.result c.linear_space-basis.ensures
