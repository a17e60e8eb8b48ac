-- `closure_set::closure_set` meets its contract: the vectors are left that take the on points passed to allowed ones. Assumes nothing.
use mathlib.Core.Path.{ap, ap₂, ◌∙◌, fun_ext}
use mathlib.Core.Bool.{Bool, ◌&&◌}
use Prim.Native.Nat.{ℕ}
use native.Mathlib.Omega.{arith}
use lib.Seq.{take_all}
use Rattle.gf2.specs.Bits.{◌⊕◌}
use Rattle.gf2.specs.Finite.{every}
use Rattle.table.proofs.Table.{inside-at}
use Rattle.point_sets.specs.Sets.{set_variables, member}
use Rattle.point_sets.proofs.Sets.{full-member}
use Rattle.closure_set.specs.ClosureSet.{closes}
use Rattle.closure_set.proofs.Steps.{every-next}
use Rattle.closure_set.proofs.closure_set.Goals as goal

pub loop-w-init : goal.loop-w-init
loop-w-init c = λ a h. full-member a h

pub moved_set-moved-requires : goal.moved_set-moved-requires
moved_set-moved-requires c =
    inside-at set_variables c.args.on.now c.requires.on_value c.loop-w.w-index (omega arith)

pub loop-w-preserved : goal.loop-w-preserved
loop-w-preserved c =
    let l = c.loop-w in
    let points = member c.allowed_points-allowed.result in
    λ a h. c.both-closure.ensures a ∙ ap₂ ◌&&◌ (l.invariant a h) (c.moved_set-moved.ensures a) ∙ every-next points c.args.on.now l.w-index a (omega arith)

pub returns : goal.returns
unfolding closes
returns c a h =
    let l = c.loop-w in
    let on = c.args.on.now in
    l.invariant a h
    ∙ ap (every (λ w. member c.allowed_points-allowed.result (w ⊕ a))) (take_all l.w-index on (omega arith))
    ∙ ap (λ (t : ℕ → Bool). every (λ w. t (w ⊕ a)) on) (fun_ext c.allowed_points-allowed.ensures)
