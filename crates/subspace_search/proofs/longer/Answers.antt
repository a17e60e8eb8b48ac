-- `subspace_search::longer` meets its contract: the numbers of vectors are the lengths of the lists. Assumes nothing.
use mathlib.Core.Path.{sym, ap, ◌∙◌}
use native.Mathlib.Omega.{arith}
use Rattle.basis.specs.Short.{listed, short}
use Rattle.basis.proofs.Values.{short-len}
use Rattle.subspace_search.proofs.Steps.{longer-new, longer-old}
use Rattle.subspace_search.proofs.longer.Goals as goal

pub returns-then-a-b : goal.returns-then-a-b
returns-then-a-b c =
    let a = c.args.a in
    let b = c.args.b in
    c.requires.b_value ∙ ap short (sym (longer-new (listed a) (listed b) (omega (arith, c.if-a-b.true, short-len a (listed a) c.requires.a_value, short-len b (listed b) c.requires.b_value))))

pub returns-else-a-b : goal.returns-else-a-b
returns-else-a-b c =
    let a = c.args.a in
    let b = c.args.b in
    c.requires.a_value ∙ ap short (sym (longer-old (listed a) (listed b) (omega (arith, c.if-a-b.false, short-len a (listed a) c.requires.a_value, short-len b (listed b) c.requires.b_value))))
