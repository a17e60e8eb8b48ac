-- `stored::points_unordered` meets its contract: it asks of each point after the first, by its number, what `unordered` asks. Assumes nothing.
use mathlib.Core.Path.{◌≡◌, sym, ap, ◌∙◌}
use Prim.Native.Nat.{ℕ, ◌-◌}
use lib.ListN.{length, length-map}
use borrow.Author.Tests.{tests}
use borrow.Author.Rules.{rules}
use Rattle.std.proofs.lemmas.Iterator.{YieldsList-from_range}
use Rattle.std.proofs.lemmas.Iterator.Search.{any_from_yields_List}
use Rattle.stored.specs.Marks.{Mark, marks, stored_points}
use Rattle.stored.proofs.Numbered.{falls, unordered-numbered}
use Rattle.stored.proofs.points_unordered.Goals as goal

pub returns : goal.returns
returns c =
    let points = stored_points c.args.bytes.now in
    let count : c.record_count.result ≡ length points = c.record_count.ensures ∙ sym (length-map (marks c.args.bytes.now) (λ (m : Mark). m.point)) in
    any_from_yields_List (falls points) _ _ _ c.any.ensures.ran (YieldsList-from_range 1 c.record_count.result (length points - 1) (cc) (ap (λ (k : ℕ). k - 1) count)) (λ i b q k. search (rules, tests))
    ∙ unordered-numbered points
