-- `moves::each_moved` meets its contract: after k turns each mask is moved by the k lowest bits of v. Assumes nothing.
use native.Mathlib.Omega.{arith}
use Rattle.moves.proofs.Moves.{each-on, each-off}
use Rattle.moves.proofs.each_moved.Goals as goal
use Rattle.moves.proofs.each_moved.Goals.{then-v-k-eq1, else-v-k-eq1}

pub loop-k-preserved : goal.loop-k-preserved
loop-k-preserved g c =
    let l = c.loop-k in
    let a = c.args in
    elim c.if-v-k-eq1.branch [
      | then-v-k-eq1 w ↦ rw w.turned-is (each-on a.v l.k a.masks l.turned _ w.if-v-k-eq1.true l.invariant w.exchange_each.ensures)
      | else-v-k-eq1 w ↦ rw w.turned-is (each-off a.v l.k a.masks l.turned (omega (arith, w.if-v-k-eq1.false)) l.invariant)
    ]
