-- `form_calls::count_points` meets its contract: the points that pass the filter are those of the form. Assumes nothing.
use Rattle.std.proofs.Common.{ap, sym, ◌∙◌, length, rules, tests}
use Rattle.std.proofs.lemmas.Iterator.{YieldsList-from_range}
use Rattle.std.proofs.lemmas.Iterator.Consumers.{YieldsList-from_filter, count_from_yields_List}
use Rattle.form.specs.Form.{form_at}
use Rattle.form.specs.Decoding.{decode_form}
use Rattle.form_calls.proofs.Answering.{select-filter}
use Rattle.form_calls.proofs.count_points.Goals as goal

pub returns : goal.returns
returns c =
    let f = form_at (decode_form c.args.bytes.now) in
    count_from_yields_List _ _ c.count.ensures.ran (YieldsList-from_filter _ f (YieldsList-from_range 0 c.args.size c.args.size (cc) (search rules)) c.filter.ensures.closure (λ x r q k. search (rules, tests)))
    ∙ ap length (sym (select-filter f c.args.size))
