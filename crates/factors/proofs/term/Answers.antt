-- `factors::term` meets its contract. Assumes nothing.
use mathlib.Core.Path.{◌≡◌, sym, ◌∙◌}
use mathlib.Core.Bool.{true, false}
use Rattle.gf2.specs.Bits.{bit}
use Rattle.factors.proofs.term.Goals as goal

pub returns-then-bit : goal.returns-then-bit
returns-then-bit c =
    let a = c.args in
    let here : bit a.place a.mask ≡ true = sym c.bit.ensures ∙ c.if-bit.true in
    rw here

pub returns-else-bit : goal.returns-else-bit
returns-else-bit c =
    let a = c.args in
    let here : bit a.place a.mask ≡ false = sym c.bit.ensures ∙ c.if-bit.false in
    rw here
