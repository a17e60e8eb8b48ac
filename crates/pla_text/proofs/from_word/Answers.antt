-- `pla_text::from_word` meets its contract: blanks before the words play no part. Assumes nothing.
use Rattle.std.proofs.Common.{rules, ap, sym, ◌∙◌, ◌≡◌, ◌-◌, ℕ, not, arith, length, drop, length-drop}
use borrow.Author.Tests.{tests}
use lib.ListN.{drop_of_length-le}
use Rattle.std.specs.List.{position_or_len}
use Rattle.std.specs.Option.{unwrap_or}
use Rattle.std.proofs.lemmas.List.{take_all}
use Rattle.std.proofs.lemmas.Iterator.{YieldsList-from_slice}
use Rattle.std.proofs.lemmas.Iterator.Search.{position_from_yields_List}
use Rattle.pla_text.specs.Text.{is_blank, words_of}
use Rattle.pla_text.proofs.Parts.{place-or-end, words-blank}
use Rattle.pla_text.proofs.from_word.Goals as goal

pub returns-in-Some-clause-words : goal.returns-in-Some-clause-words
returns-in-Some-clause-words c =
    let content = c.args.content.now in
    let start = c.in-Some.start in
    let is_word = λ (byte : ℕ). not (is_blank byte) in
    let found = position_from_yields_List is_word _ _ c.position.result c.position.ensures.ran (YieldsList-from_slice content (search rules)) (λ x b q k. search (rules, tests)) in
    let place : start ≡ position_or_len is_word content = ap (λ o. unwrap_or o (length content)) (sym c.in-Some.is ∙ found) ∙ place-or-end is_word content in
    ap words_of (take_all (length content - start) (drop start content) (omega (arith, length-drop start content))) ∙ ap (λ n. words_of (drop n content)) place ∙ sym (words-blank content)

pub returns-in-None-clause-words : goal.returns-in-None-clause-words
returns-in-None-clause-words c =
    let content = c.args.content.now in
    let is_word = λ (byte : ℕ). not (is_blank byte) in
    let found = position_from_yields_List is_word _ _ c.position.result c.position.ensures.ran (YieldsList-from_slice content (search rules)) (λ x b q k. search (rules, tests)) in
    let place : length content ≡ position_or_len is_word content = ap (λ o. unwrap_or o (length content)) (sym c.in-None.is ∙ found) ∙ place-or-end is_word content in
    ap words_of (sym (drop_of_length-le content {i = position_or_len is_word content} (omega arith))) ∙ sym (words-blank content)
