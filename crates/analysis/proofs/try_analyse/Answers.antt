-- `analysis::try_analyse` meets its contract: the table's refusal, the room's, or the space and restriction of the completed function.
-- Assumes nothing.
use Rattle.std.proofs.Common.{refl, sym, ap, ◌∙◌, ◌<◌, subst, length, ℕ, List}
use native.Mathlib.Omega.{arith}
use Rattle.std.proofs.lemmas.Result.{err_from_is_err_and}
use Rattle.table.specs.Decision.{front}
use Rattle.table.specs.Answers.{number_of}
use Rattle.table.proofs.Table.{accepted}
use Rattle.projection.proofs.Restrictions.{completed-kept}
use Rattle.table.proofs.Results.{number-nonzero}
use Rattle.analysis.specs.Spaces.{refused_analysis}
use Rattle.analysis.proofs.Completions.{analyse-numbers, analyse-ways}
use Rattle.analysis.proofs.try_analyse.Goals as goal

pub returns-in_err-check_table : goal.returns-in_err-check_table
returns-in_err-check_table c =
    let a = c.args in
    let e = c.in_err-check_table.field-0.0 in
    let p = err_from_is_err_and c.from_residual.result c.from_residual.ensures.1 in
    let both = (analyse-ways a.n a.on.now a.free.now a.room.now).faulty (number_of e) c.in_err-check_table.ensures (number-nonzero e) (refused_analysis e) refl in
    rw (p.1, p.2) (record { value = both.0; room_after = both.1 })

pub complete-completed-requires : goal.complete-completed-requires
complete-completed-requires c = accepted c.args.n c.args.on.now c.args.free.now (sym c.in_ok-check_table.ensures)

pub put_kept-requires : goal.put_kept-requires
put_kept-requires c = (accepted c.args.n c.args.on.now c.args.free.now (sym c.in_ok-check_table.ensures)).few

pub canonical-canonical-requires-clause-n_le_max_variables : goal.canonical-canonical-requires-clause-n_le_max_variables
canonical-canonical-requires-clause-n_le_max_variables c = (accepted c.args.n c.args.on.now c.args.free.now (sym c.in_ok-check_table.ensures)).few

pub equations-equations-requires-clause-n_le_max_variables : goal.equations-equations-requires-clause-n_le_max_variables
equations-equations-requires-clause-n_le_max_variables c = (accepted c.args.n c.args.on.now c.args.free.now (sym c.in_ok-check_table.ensures)).few

pub returns-in_err-count : goal.returns-in_err-count
returns-in_err-count c =
    let a = c.args in
    let h = c.in_err-count.ensures in
    let e = c.in_err-count.field-0.0 in
    let p = err_from_is_err_and c.from_residual-in_err-count.result c.from_residual-in_err-count.ensures.1 in
    let points = completed-kept c.complete-completed.ensures c.leads.result c.leads.ensures in
    let both =
    (analyse-ways a.n a.on.now a.free.now a.room.now).short (sym c.in_ok-check_table.ensures)
    (subst (λ (l : List ℕ). length a.room.now < length l) points h.1) (refused_analysis e) (ap refused_analysis h.0) in
    rw (p.1, p.2) (record { value = both.0; room_after = h.2 ∙ both.1 })

pub returns : goal.returns
returns c =
    let a = c.args in
    let r = c.complete-completed in
    let h = c.in_ok-count.ensures in
    let points = completed-kept r.ensures c.leads.result c.leads.ensures in
    let both =
    (analyse-ways a.n a.on.now a.free.now a.room.now).whole (sym c.in_ok-check_table.ensures) (omega (arith, h.0, h.1, ap length points)) _ _
    (analyse-numbers a.n a.on.now a.free.now r.result r.ensures c.in_ok-count.count c.leads.result c.canonical-canonical.result c.equations-equations.result
    c.leads.ensures h.0 c.canonical-canonical.ensures c.equations-equations.ensures)
    (h.2 ∙ ap (λ (l : List ℕ). front l a.room.now) points) in
    record { value = both.0; room_after = both.1 }
