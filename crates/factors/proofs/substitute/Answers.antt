-- `factors::substitute` meets its contract: what is found, then what the equations behind give, is the whole. Assumes nothing.
use mathlib.Core.Path.{sym, ap, ◌∙◌}
use native.Mathlib.Omega.{arith}
use lib.ListN.{length, get_or}
use Rattle.basis.specs.Short.{listed}
use Rattle.factors.proofs.Steps.{substituted-next, substituted-all}
use Rattle.factors.proofs.substitute.Goals as goal

pub loop-i-preserved : goal.loop-i-preserved
loop-i-preserved c =
    let l = c.loop-i in
    let a = c.args in
    let q = c.as_slice-equation-items.ensures in
    rw c.term-found.ensures
    (substituted-next a.equations c.requires a.mask l.i l.found (get_or c.as_slice-equation-items.result.now l.i 0) (omega (arith, c.loop-i-test.true, ap length q)) (ap (λ es. get_or es l.i 0) q)
    ∙ l.invariant)

pub returns : goal.returns
returns c =
    let l = c.loop-i in
    let a = c.args in
    sym (substituted-all (listed a.equations) a.mask l.i l.found (omega (arith, c.loop-i-test.false, ap length c.as_slice-equation-items.ensures))) ∙ l.invariant
