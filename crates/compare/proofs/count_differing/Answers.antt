-- `compare::count_differing` meets its contract: the count so far is that of the differing points below p. Assumes nothing.
use mathlib.Core.Path.{◌≡◌, refl, ap, ◌∙◌}
use mathlib.Core.Bool.{true, false}
use Prim.Native.Nat.{ℕ}
use native.Mathlib.Omega.{arith}
use borrow.Author.Tests.{eq-eqb, ne_eqb}
use lib.ListN.{length}
use Rattle.gf2.specs.Finite.{select}
use Rattle.gf2.proofs.Finite.{select-length}
use Rattle.table.proofs.Selecting.{count-step}
use Rattle.point_marks.specs.Marks.{mark_at}
use Rattle.compare.specs.Differences.{differs, differing}
use Rattle.compare.proofs.count_differing.Goals as goal
use Rattle.compare.proofs.count_differing.Goals.{then-left-p, else-left-p}

pub loop-p-init : goal.loop-p-init
unfolding select
loop-p-init c = refl

pub overflow_add-count : goal.overflow_add-count
overflow_add-count c =
    let l = c.loop-p in
    let a = c.args in
    omega (arith, l.invariant, select-length (differs (mark_at a.left.now) (mark_at a.right.now)) l.p)

pub loop-p-preserved : goal.loop-p-preserved
loop-p-preserved c =
    let l = c.loop-p in
    let a = c.args in
    let t = differs (mark_at a.left.now) (mark_at a.right.now) in
    elim c.if-left-p.branch [
      | then-left-p w ↦ count-step t l.p l.count c.if-left-p.count l.invariant true (rw (ne_eqb _ _ w.if-left-p.true)) w.count-is
      | else-left-p w ↦ count-step t l.p l.count c.if-left-p.count l.invariant false (rw (eq-eqb _ _ w.if-left-p.false)) w.count-is
    ]

pub overflow_cast-result : goal.overflow_cast-result
overflow_cast-result c =
    let l = c.loop-p in
    let a = c.args in
    omega (arith, l.invariant, select-length (differs (mark_at a.left.now) (mark_at a.right.now)) l.p)

pub returns : goal.returns
unfolding differing
returns c =
    let l = c.loop-p in
    let a = c.args in
    let e : l.p ≡ a.size = omega arith in
    l.invariant ∙ ap (λ (k : ℕ). length (select (differs (mark_at a.left.now) (mark_at a.right.now)) k)) e
