-- `factors::constant_at` meets its contract. Assumes nothing.
use mathlib.Core.Path.{◌≡◌, sym, ◌∙◌}
use mathlib.Core.Bool.{true, false}
use Rattle.gf2.specs.Parity.{odd}
use Rattle.factors.proofs.constant_at.Goals as goal

pub returns-then-parity : goal.returns-then-parity
returns-then-parity c =
    let a = c.args in
    let here : odd a.mask a.point ≡ true = sym c.parity.ensures ∙ c.if-parity.true in
    rw here

pub returns-else-parity : goal.returns-else-parity
returns-else-parity c =
    let a = c.args in
    let here : odd a.mask a.point ≡ false = sym c.parity.ensures ∙ c.if-parity.false in
    rw here
