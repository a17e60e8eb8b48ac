-- `stored::count_points` meets its contract. The loop's invariant: the points of the records passed are counted. Assumes nothing.
use mathlib.Core.Path.{◌≡◌, refl, sym, ap, ◌∙◌}
use native.Mathlib.Omega.{arith}
use lib.ListN.{length, take}
use lib.Seq.{take_all}
use Rattle.stored.specs.Marks.{marks, marked_points}
use Rattle.stored.proofs.Laying.{table-length}
use Rattle.stored.proofs.Points.{points-few, points-front, count-more, points-same}
use Rattle.stored.proofs.count_points.Goals as goal
use Rattle.stored.proofs.count_points.Goals.{then-is_marked, else-is_marked}

pub loop-i-init : goal.loop-i-init
unfolding marked_points
loop-i-init c = refl

pub overflow_add-found : goal.overflow_add-found
overflow_add-found c =
    let a = c.args in
    omega (arith, c.loop-i.invariant, points-front a.on (marks a.bytes.now) c.loop-i.i, points-few a.on (marks a.bytes.now), table-length a.bytes.now c.requires)

pub loop-i-preserved : goal.loop-i-preserved
loop-i-preserved c =
    let a = c.args in
    let ms = marks a.bytes.now in
    elim c.if-is_marked.branch [
      | then-is_marked w ↦ omega (arith, c.loop-i.invariant, w.found-is, count-more a.on ms c.loop-i.i (omega arith) (sym c.is_marked.ensures ∙ w.if-is_marked.true))
      | else-is_marked w ↦ omega (arith, c.loop-i.invariant, w.found-is, ap length (points-same a.on ms c.loop-i.i (omega arith) (sym c.is_marked.ensures ∙ w.if-is_marked.false)))
    ]

pub returns : goal.returns
returns c =
    let a = c.args in
    let all : take c.loop-i.i (marks a.bytes.now) ≡ marks a.bytes.now = take_all c.loop-i.i (marks a.bytes.now) (omega arith) in
    c.loop-i.invariant ∙ ap (λ ms. length (marked_points a.on ms)) all
