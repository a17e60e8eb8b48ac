-- `pla_text::symbol_at` meets its contract: the chain gives the symbols. Assumes nothing.
use Rattle.std.proofs.Common.{rules, ◌∙◌, sym, not, arith}
use Rattle.std.proofs.lemmas.Iterator.{YieldsList-from_slice}
use Rattle.std.proofs.lemmas.Iterator.Consumers.{YieldsList-from_filter, YieldsList-from_copied, nth_from_yields_List}
use Rattle.pla_text.specs.Text.{is_blank}
use Rattle.std.proofs.lemmas.Iterator.Adapters.{option_map_id}
use Rattle.pla_text.proofs.symbol_at.Goals as goal

pub returns : goal.returns
returns c =
    let found = nth_from_yields_List c.nth.result _ _ c.nth.ensures.ran
    (YieldsList-from_filter _ (λ byte. not (is_blank byte)) (YieldsList-from_copied (YieldsList-from_slice c.args.content.now (search rules))) c.filter.ensures.closure (λ x b q k. (search rules, grind (arith, k)))) in
    sym (option_map_id c.nth.result) ∙ found
