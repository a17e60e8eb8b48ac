-- `stored::record_step` meets its contract: the end record that the decision over its byte gives has the end's body. Assumes nothing.
use mathlib.Core.Path.{sym, ap, ◌∙◌}
use lib.ListN.{get_or}
use Rattle.records.specs.Kinds.{body_length}
use Rattle.records.proofs.KindBytes.{head-known}
use Rattle.stored.proofs.record_step.Goals as goal

pub end_step-requires-clause-body_value : goal.end_step-requires-clause-body_value
end_step-requires-clause-body_value c =
    let end = c.in-Ok-End-default in
    (head-known (get_or c.args.bytes.now c.args.place 0) c.args.place (sym c.head_of.ensures ∙ end.is)).1 ∙ ap body_length end.field-0-0-is
