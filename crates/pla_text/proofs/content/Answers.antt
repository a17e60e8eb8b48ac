-- `pla_text::content` meets its contract: the first `#` ends what the line says. Assumes nothing.
use Rattle.std.proofs.Common.{rules, ap, ◌∙◌, length, take}
use borrow.Author.Tests.{tests}
use Rattle.std.specs.Option.{unwrap_or}
use Rattle.std.proofs.lemmas.Iterator.{YieldsList-from_slice}
use Rattle.std.proofs.lemmas.Iterator.Search.{position_from_yields_List}
use Rattle.pla_text.specs.Text.{is_hash}
use Rattle.pla_text.proofs.Parts.{place-or-end}
use Rattle.pla_text.proofs.content.Goals as goal

pub returns : goal.returns
returns c =
    let line = c.args.line.now in
    let found = position_from_yields_List is_hash _ _ c.position-end.result c.position-end.ensures.ran (YieldsList-from_slice line (search rules)) (λ x b q k. search (rules, tests)) in
    ap (λ n. take n line) (c.unwrap_or.ensures ∙ ap (λ o. unwrap_or o (length line)) found ∙ place-or-end is_hash line)
