-- `pla_text::line_statement` meets its contract: its tests are those of the definition. Assumes nothing.
use Rattle.std.proofs.Common.{◌≡◌, ◌<◌, List, [], ◌∷◌, refl, sym, ◌∙◌, ap, ℕ, suc, Some, eqb, length, arith}
use mathlib.Core.Bool.{true, false, not, ◌&&◌}
use native.Mathlib.Decide.{ℕ_discrete}
use borrow.Author.Tests.{eq-eqb, ne_eqb}
use lib.ListN.{get_or}
use Rattle.std.specs.List.{slice_get, starts_with, before_first}
use Rattle.std.specs.Option.{is_some}
use Rattle.pla_text.specs.declared.Statement.TheVariants.{Cube}
use Rattle.pla_text.specs.Text.{is_blank, words_of}
use Rattle.pla_text.specs.Statements.{statement_of, directive_of, words_told}
use Rattle.pla_text.proofs.Parts.{words-none, words-first, word-begins}
use Rattle.pla_text.proofs.Directives.{directive-told}
use Rattle.pla_text.proofs.line_statement.Goals as goal

-- The first byte is the full stop.
begins : (line : List ℕ) → starts_with eqb line (46 ∷ []) ≡ eqb (get_or line 0 0) 46
begins [] = refl
begins (b ∷ line) = go (ℕ_discrete b 46)
  where
    go : Dec (b ≡ 46) → eqb 46 b && true ≡ eqb b 46
    go (yes z) = rw (eq-eqb b 46 z, eq-eqb 46 b (sym z)) refl
    go (no n) = rw (ne_eqb b 46 n, ne_eqb 46 b (λ e. n (sym e))) refl

-- One that begins with no blank has a word where it isn't empty.
more : (line : List ℕ) → is_blank (get_or line 0 0) ≡ false → not (eqb (length line) 0) ≡ is_some (slice_get (words_of line) 0)
more [] e = refl
more (b ∷ line) e = rw (ne_eqb (suc (length line)) 0 (λ z. omega arith), words-first (b ∷ line) (omega arith) e) refl

-- A cube, and a directive.
cube : (line : List ℕ) → 0 < length line → is_blank (get_or line 0 0) ≡ false → false ≡ starts_with eqb line (46 ∷ []) → Cube ≡ statement_of (words_of line)
unfolding statement_of
cube line h e s =
    let first = words-first line h e in
    let other : eqb (get_or (before_first is_blank line) 0 0) 46 ≡ false = ap (λ b. eqb b 46) (word-begins line _ _ e first) ∙ sym (s ∙ begins line) in
    sym (ap statement_of first ∙ rw other refl)

directive : (line name : List ℕ) (words : List (List ℕ)) → is_blank (get_or line 0 0) ≡ false → words_of line ≡ name ∷ words → true ≡ starts_with eqb line (46 ∷ [])
    → directive_of name (words_told (slice_get words 0) (is_some (slice_get words 1))) ≡ statement_of (words_of line)
unfolding statement_of
directive line name words e first s =
    let stop : eqb (get_or name 0 0) 46 ≡ true = ap (λ b. eqb b 46) (word-begins line name words e first) ∙ sym (s ∙ begins line) in
    directive-told name words ∙ sym (ap statement_of first ∙ rw stop refl)

pub returns-then-is_empty : goal.returns-then-is_empty
unfolding statement_of
returns-then-is_empty c =
    let none : length c.from_word-line.result.now ≡ 0 = grind (arith, c.is_empty.ensures, c.if-is_empty.true) in
    ap statement_of (sym (words-none c.from_word-line.result.now none) ∙ c.from_word-line.ensures.words)

pub returns-then-not-starts_with : goal.returns-then-not-starts_with
returns-then-not-starts_with c =
    let line = c.from_word-line.result.now in
    let some : 0 < length line = grind (arith, c.is_empty.ensures, c.if-is_empty.false) in
    cube line some c.from_word-line.ensures.begins (sym c.if-not-starts_with.true ∙ c.starts_with.ensures.value) ∙ ap statement_of c.from_word-line.ensures.words

pub returns-then-is_empty-2 : goal.returns-then-is_empty-2
returns-then-is_empty-2 c =
    let line = c.from_word-line.result.now in
    let name = c.split_word.result.0.now in
    let rest = c.split_word.result.1.now in
    let none : length rest ≡ 0 = grind (arith, c.is_empty-2.ensures, c.if-is_empty-2.true) in
    c.directive.ensures ∙ ap (λ words. directive_of name (words_told (slice_get words 0) (is_some (slice_get words 1)))) (sym (words-none rest none))
    ∙ directive line name (words_of rest) c.from_word-line.ensures.begins c.split_word.ensures.words (sym c.if-not-starts_with.false ∙ c.starts_with.ensures.value)
    ∙ ap statement_of c.from_word-line.ensures.words

pub returns : goal.returns
returns c =
    let line = c.from_word-line.result.now in
    let name = c.split_word.result.0.now in
    let rest = c.split_word.result.1.now in
    let word = c.split_word-2.result.0.now in
    let last = c.split_word-2.result.1.now in
    let another : not c.is_empty-3.result ≡ is_some (slice_get (words_of last) 0) = ap not c.is_empty-3.ensures ∙ more last c.split_word-2.ensures.next in
    c.directive-2.ensures ∙ ap (λ t. directive_of name (words_told (Some word) t)) another
    ∙ ap (λ words. directive_of name (words_told (slice_get words 0) (is_some (slice_get words 1)))) (sym c.split_word-2.ensures.words)
    ∙ directive line name (words_of rest) c.from_word-line.ensures.begins c.split_word.ensures.words (sym c.if-not-starts_with.false ∙ c.starts_with.ensures.value)
    ∙ ap statement_of c.from_word-line.ensures.words
