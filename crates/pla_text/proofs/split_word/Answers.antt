-- `pla_text::split_word` meets its contract: the first blank ends the word. Assumes nothing.
use Rattle.std.proofs.Common.{rules, ap, sym, ◌∙◌, ◌≡◌, ◌∷◌, ◌-◌, arith, length, take, drop, length-drop}
use borrow.Author.Tests.{tests}
use lib.ListN.{drop_of_length-le}
use Rattle.std.specs.List.{position_or_len, before_first}
use Rattle.std.specs.Option.{unwrap_or}
use Rattle.std.proofs.lemmas.List.{take_all}
use Rattle.std.proofs.lemmas.Iterator.{YieldsList-from_slice}
use Rattle.std.proofs.lemmas.Iterator.Search.{position_from_yields_List}
use Rattle.pla_text.specs.Text.{is_blank, words_of}
use Rattle.pla_text.proofs.Parts.{place-or-end, words-first}
use Rattle.pla_text.proofs.split_word.Goals as goal

pub returns-in-Some-clause-words : goal.returns-in-Some-clause-words
returns-in-Some-clause-words c =
    let line = c.args.line.now in
    let end = c.in-Some.end in
    let found = position_from_yields_List is_blank _ _ c.position.result c.position.ensures.ran (YieldsList-from_slice line (search rules)) (λ x b q k. search (rules, tests)) in
    let place : position_or_len is_blank line ≡ end = sym (ap (λ o. unwrap_or o (length line)) (sym c.in-Some.is ∙ found) ∙ place-or-end is_blank line) in
    let rest = sym (c.from_word.ensures.words ∙ ap words_of (take_all (length line - end) (drop end line) (omega (arith, length-drop end line)))) in
    words-first line c.requires.some c.requires.begins ∙ ap (λ n. take n line ∷ words_of (drop n line)) place ∙ ap (λ words. take end line ∷ words) rest

pub returns-in-None-clause-words : goal.returns-in-None-clause-words
returns-in-None-clause-words c =
    let line = c.args.line.now in
    let found = position_from_yields_List is_blank _ _ c.position.result c.position.ensures.ran (YieldsList-from_slice line (search rules)) (λ x b q k. search (rules, tests)) in
    let place : length line ≡ position_or_len is_blank line = ap (λ o. unwrap_or o (length line)) (sym c.in-None.is ∙ found) ∙ place-or-end is_blank line in
    let word : before_first is_blank line ≡ line = take_all (position_or_len is_blank line) line (omega arith) in
    let rest = ap words_of (drop_of_length-le line {i = position_or_len is_blank line} (omega arith)) in
    words-first line c.requires.some c.requires.begins ∙ rw (word, rest)
