-- `form::first_step` meets its contract: the body is that of a first record. Assumes nothing.
use mathlib.Core.Path.{sym, ap, ◌∙◌}
use Rattle.std.specs.Prelude.{Ok}
use lib.ListN.{get_or}
use Rattle.records.specs.declared.Kind.{Kind}
use Rattle.records.proofs.KindBytes.{head-known}
use Rattle.form.proofs.first_step.Goals as goal

pub variables_step-requires-clause-body_value : goal.variables_step-requires-clause-body_value
variables_step-requires-clause-body_value c =
    let arm = c.in-Ok-Variables-default in
    (head-known (get_or c.args.bytes.now 0 0) 0 (sym c.head_of.ensures ∙ arm.is ∙ ap (λ (kind : Kind). Ok (kind, arm.body)) arm.field-0-0-is)).1
