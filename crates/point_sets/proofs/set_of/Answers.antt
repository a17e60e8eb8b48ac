-- `point_sets::set_of` meets its contract: the points not passed yet are what is left to be put in. Assumes nothing.
use mathlib.Core.Path.{◌≡◌, refl, sym, ap, ◌∙◌}
use mathlib.Core.Bool.{Bool, ◌||◌, or-false}
use mathlib.Core.List.{List, []}
use Prim.Native.Nat.{ℕ, ◌+◌, ◌<◌}
use native.Mathlib.Omega.{arith}
use lib.ListN.{drop, get_or, length-set, drop_of_length-le}
use Rattle.gf2.specs.Finite.{holds}
use Rattle.gf2.proofs.Finite.{holds-next}
use Rattle.table.proofs.Table.{inside-at}
use Rattle.point_sets.specs.Sets.{set_variables, set_size, member}
use Rattle.point_sets.proofs.Sets.{empty-member, put-member}
use Rattle.point_sets.proofs.set_of.Goals as goal
use Rattle.point_sets.proofs.set_of.Goals.{In-loop-p}

pub loop-p-init : goal.loop-p-init
loop-p-init c = record { four = refl; rest = λ x. ap (λ (t : Bool). t || holds c.args.points.now x) (empty-member x) }

-- The point is one of the set's.
point : (c : In-loop-p) → get_or c.args.points.now c.loop-p.p-index 0 < set_size
point c =
    inside-at set_variables c.args.points.now c.requires c.loop-p.p-index (omega arith)

pub bounds-set-p : goal.bounds-set-p
bounds-set-p c = omega (arith, point (goal.at.bounds-set-p c).In-loop-p)

pub bounds-set-p-in-loop-p : goal.bounds-set-p-in-loop-p
bounds-set-p-in-loop-p c = omega (arith, point (goal.at.bounds-set-p-in-loop-p c).In-loop-p)

pub loop-p-preserved : goal.loop-p-preserved
loop-p-preserved c =
    let points = c.args.points.now in
    let l = c.loop-p in
    record {
      four = simp length-set l.invariant.four;
      rest = λ x. ap (λ (t : Bool). t || holds (drop (l.p-index + 1) points) x)
          (put-member l.set (get_or points l.p-index 0) l.invariant.four (point (goal.at.loop-p-preserved c).In-loop-p) x)
          ∙ holds-next (member l.set x) points l.p-index x (omega arith) ∙ l.invariant.rest x;
    }

pub returns : goal.returns
unfolding holds
returns c =
    let points = c.args.points.now in
    let l = c.loop-p in
    let end : drop l.p-index points ≡ [] = drop_of_length-le points {i = l.p-index} (omega arith) in
    λ x. sym (or-false (member l.set x)) ∙ ap (λ (ps : List ℕ). member l.set x || holds ps x) (sym end) ∙ l.invariant.rest x
