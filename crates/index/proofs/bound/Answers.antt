-- `index::bound` meets its contract: none of the records belongs to refused bytes, and to a form no more than it has points. Assumes nothing.
use mathlib.Core.Path.{ap, ◌∙◌}
use borrow.Author.Rules.{rules}
use borrow.Author.Tests.{eq-eqb, ne_eqb}
use Rattle.table.specs.Refusal.{Fault}
use Rattle.table.proofs.Results.{number-nonzero}
use Rattle.form.specs.Refusal.{form_fault}
use Rattle.form_calls.proofs.Answering.{form-sound}
use Rattle.index.specs.Records.{bound_of}
use Rattle.index.proofs.bound.Goals as goal

pub form_size-requires : goal.form_size-requires
form_size-requires c = (form-sound c.args.form.now c.in-Ok.ensures).1

pub returns-in-Ok : goal.returns-in-Ok
unfolding bound_of
returns-in-Ok c = rw (eq-eqb _ 0 (form-sound c.args.form.now c.in-Ok.ensures).0, ← c.form_size.ensures) (search rules)

pub returns-in-Err : goal.returns-in-Err
unfolding bound_of form_fault
returns-in-Err c =
    let number = ap (λ (f : Fault). f.number) c.in-Err.ensures in
    rw (ne_eqb _ 0 (λ z. number-nonzero c.in-Err.field-0 (number ∙ z)))
