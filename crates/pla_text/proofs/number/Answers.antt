-- `pla_text::number` meets its contract. The loop's invariant: the digits that are left complete the number. Assumes nothing.
use mathlib.Core.Path.{sym, ap, ◌∙◌}
use native.Mathlib.Omega.{arith}
use Prim.Native.Nat.{◌+◌}
use lib.ListN.{drop}
use Rattle.pla_text.specs.Numbers.{number_from}
use Rattle.pla_text.proofs.Digits.{number-next, number-none, number-end, digit-small}
use Rattle.pla_text.proofs.number.Goals as goal

pub returns-in_err-value : goal.returns-in_err-value
returns-in_err-value c =
    let l = c.loop-byte in
    let word = c.args.word.now in
    let none = sym c.with_digit.ensures ∙ c.in_err-value.was in
    c.from_residual.ensures ∙ sym (ap (λ o. number_from o (drop (l.byte-index + 1) word)) none ∙ number-none (drop (l.byte-index + 1) word))
    ∙ sym (number-next word l.value l.byte-index (omega arith)) ∙ l.invariant.1

pub loop-byte-preserved : goal.loop-byte-preserved
loop-byte-preserved c =
    let l = c.loop-byte in
    let word = c.args.word.now in
    let next = sym c.with_digit.ensures ∙ c.in_ok-value.was in
    (digit-small l.value _ _ next, sym (ap (λ o. number_from o (drop (l.byte-index + 1) word)) next) ∙ sym (number-next word l.value l.byte-index (omega arith)) ∙ l.invariant.1)

pub returns : goal.returns
returns c = let l = c.loop-byte in sym (number-end c.args.word.now l.value l.byte-index (omega arith)) ∙ l.invariant.1
