-- `table::outside` meets its contract: it asks of each point what `outside` asks. Assumes nothing.
use mathlib.Core.Path.{◌≡◌, refl, ap, ◌∙◌}
use mathlib.Core.Bool.{◌||◌}
use mathlib.Core.List.{List, [], ◌∷◌}
use Prim.Native.Nat.{ℕ, ◌^◌}
use lib.Dec.{leb}
use borrow.Author.Tests.{tests}
use borrow.Author.Rules.{rules}
use Rattle.std.specs.List.{list_any}
use Rattle.std.proofs.lemmas.Iterator.{YieldsList-from_slice}
use Rattle.std.proofs.lemmas.Iterator.Search.{any_from_yields_List}
use Rattle.table.specs.Table.{outside}
use Rattle.table.proofs.outside.Goals as goal

any-outside : (n : ℕ) (points : List ℕ) → list_any (λ p. leb (2 ^ n) p) points ≡ outside n points
unfolding outside
any-outside n [] = refl
any-outside n (p ∷ ps) = ap (λ rest. leb (2 ^ n) p || rest) (any-outside n ps)

pub returns : goal.returns
returns c =
    any_from_yields_List (λ p. leb (2 ^ c.args.n) p) _ _ _ c.any.ensures.ran (YieldsList-from_slice c.args.points.now cc) (λ x b q k. search (rules, tests))
    ∙ any-outside c.args.n c.args.points.now
