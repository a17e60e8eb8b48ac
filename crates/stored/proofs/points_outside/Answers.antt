-- `stored::points_outside` meets its contract: it asks of each point, by its number, what `outside` asks. Assumes nothing.
use mathlib.Core.Path.{◌∙◌}
use Prim.Native.Nat.{◌^◌}
use native.Mathlib.Omega.{arith}
use lib.Dec.{leb}
use lib.ListN.{length, get_or, length-map}
use borrow.Author.Tests.{tests}
use borrow.Author.Rules.{rules}
use Rattle.std.proofs.lemmas.Iterator.{YieldsList-from_range}
use Rattle.std.proofs.lemmas.Iterator.Search.{any_from_yields_List}
use Rattle.stored.specs.Marks.{Mark, marks, stored_points}
use Rattle.stored.proofs.Numbered.{outside-numbered}
use Rattle.stored.proofs.points_outside.Goals as goal

pub returns : goal.returns
returns c =
    let a = c.args in
    let points = stored_points a.bytes.now in
    any_from_yields_List (λ i. leb (2 ^ a.n) (get_or points i 0)) _ _ _ c.any.ensures.ran
    (YieldsList-from_range 0 c.record_count.result (length points) (cc) (omega (arith, c.record_count.ensures, length-map (marks a.bytes.now) (λ (m : Mark). m.point)))) (λ i b q k. search (rules, tests))
    ∙ outside-numbered a.n points
