-- `walk::walk_degree` meets its contract: the candidates of a point, then those of the next points. Assumes nothing.
use mathlib.Core.Path.{sym, subst}
use mathlib.Core.List.{◌++◌}
use Prim.Native.Nat.{◌+◌, ◌<◌, ◌^◌}
use native.Mathlib.Omega.{arith}
use Rattle.gf2.proofs.Xor.{shifted_one}
use Rattle.cubes.specs.Candidates.{candidates_at}
use Rattle.walk.specs.Places.{of_degree_from}
use Rattle.walk.specs.Walk.{Reaches, Walked}
use Rattle.walk.proofs.Stand.{reaches-start, reaches-next, stops-next, degree-cons, degree-none}
use Rattle.walk.proofs.walk_degree.Goals as goal
use Rattle.walk.proofs.walk_degree.Goals.{In-loop-p}

pub loop-p-init : goal.loop-p-init
loop-p-init c = let a = c.args in reaches-start a.n a.on a.free (of_degree_from a.n a.d a.point) a.from a.room.now c.requires.written_in_bounds

-- The point is one of n variables.
below : (c : In-loop-p) → c.loop-p.p < 2 ^ c.args.n
below c = omega (arith, c.loop-p-test.true, shifted_one c.args.n 64 (omega (arith, c.requires.n_le_max_listed)))

here : (c : In-loop-p) → let a = c.args in Reaches a.n a.on a.free (of_degree_from a.n a.d a.point) (candidates_at a.n a.d c.loop-p.p ++ of_degree_from a.n a.d (c.loop-p.p + 1)) a.from a.room.now c.loop-p.progress c.loop-p.room
here c =
    let a = c.args in
    subst (λ ds. Reaches a.n a.on a.free (of_degree_from a.n a.d a.point) ds a.from a.room.now c.loop-p.progress c.loop-p.room) (degree-cons a.n a.d c.loop-p.p (below c)) c.loop-p.invariant

pub walk_point-requires-clause-p_bound : goal.walk_point-requires-clause-p_bound
walk_point-requires-clause-p_bound c = below (goal.at.walk_point-requires-clause-p_bound c).In-loop-p

pub walk_point-requires-clause-written_in_bounds : goal.walk_point-requires-clause-written_in_bounds
walk_point-requires-clause-written_in_bounds c = c.loop-p.invariant.wrote

pub returns-in_err-progress : goal.returns-in_err-progress
returns-in_err-progress c =
    let a = c.args in
    let l = c.loop-p in
    subst (λ z. Walked a.n a.on a.free (of_degree_from a.n a.d a.point) a.from a.room.now z c.walk_point.new.room) (sym c.from_residual.ensures)
    (stops-next a.n a.on a.free (of_degree_from a.n a.d a.point) a.from a.room.now (candidates_at a.n a.d l.p) (of_degree_from a.n a.d (l.p + 1)) l.progress l.room
    (here (goal.at.returns-in_err-progress c).In-loop-p) c.in_err-progress.field-0.0 c.walk_point.new.room
    (subst (λ z. Walked a.n a.on a.free (candidates_at a.n a.d l.p) l.progress l.room z c.walk_point.new.room) c.in_err-progress.was c.walk_point.ensures))

pub loop-p-preserved : goal.loop-p-preserved
loop-p-preserved c =
    let a = c.args in
    let l = c.loop-p in
    reaches-next a.n a.on a.free (of_degree_from a.n a.d a.point) a.from a.room.now (candidates_at a.n a.d l.p) (of_degree_from a.n a.d (l.p + 1)) l.progress l.room
    (here (goal.at.loop-p-preserved c).In-loop-p) c.in_ok-progress.progress c.walk_point.new.room
    (subst (λ z. Walked a.n a.on a.free (candidates_at a.n a.d l.p) l.progress l.room z c.walk_point.new.room) c.in_ok-progress.was c.walk_point.ensures)

pub returns : goal.returns
returns c =
    let a = c.args in
    let l = c.loop-p in
    subst (λ ds. Reaches a.n a.on a.free (of_degree_from a.n a.d a.point) ds a.from a.room.now l.progress l.room)
    (degree-none a.n a.d l.p (omega (arith, c.loop-p-test.false, shifted_one a.n 64 (omega (arith, c.requires.n_le_max_listed))))) l.invariant
