-- `form::Reader::record_step` meets its contract: the body is that of a factor, or of an end. Assumes nothing.
use mathlib.Core.Path.{sym, ap, ◌∙◌}
use Rattle.std.specs.Prelude.{Ok}
use lib.ListN.{get_or}
use Rattle.records.specs.declared.Kind.{Kind}
use Rattle.records.proofs.KindBytes.{head-known}
use Rattle.form.proofs.Reader.record_step.Goals as goal

pub factor_step-requires-clause-body_value : goal.factor_step-requires-clause-body_value
factor_step-requires-clause-body_value c =
    let arm = c.in-Ok-Factor-default in
    (head-known (get_or c.args.self.now.bytes.now c.args.self.now.place 0) c.args.self.now.place (sym c.head_of.ensures ∙ arm.is ∙ ap (λ (kind : Kind). Ok (kind, arm.body)) arm.field-0-0-is)).1

pub end_step-requires-clause-body_value : goal.end_step-requires-clause-body_value
end_step-requires-clause-body_value c =
    let arm = c.in-Ok-End-default in
    (head-known (get_or c.args.self.now.bytes.now c.args.self.now.place 0) c.args.self.now.place (sym c.head_of.ensures ∙ arm.is ∙ ap (λ (kind : Kind). Ok (kind, arm.body)) arm.field-0-0-is)).1
