-- `walk::walk` meets its contract: the candidates of a degree, then those of the lower degrees. Assumes nothing.
use mathlib.Core.Path.{◌≡◌, sym, ap, ◌∙◌, subst}
use mathlib.Core.List.{◌++◌}
use Prim.Native.Nat.{ℕ, ◌+◌, ◌-◌}
use native.Mathlib.Omega.{arith}
use lib.Pow.{pow_pos}
use Rattle.walk.specs.declared.Progress.{Progress}
use Rattle.walk.specs.Places.{of_degree_from, from_point}
use Rattle.walk.specs.Walk.{starting, state_after, Reaches, Walked}
use Rattle.walk.proofs.Stand.{reaches-start, reaches-next, stops-next, remaining, remaining-cons, remaining-all, remaining-none, walk-ended, walk-stopped}
use Rattle.walk.proofs.walk.Goals as goal
use Rattle.walk.proofs.walk.Goals.{In-loop-d}

-- Where the walk starts.
abbrev start_of : ℕ → ℕ → Progress
start_of skip allowance = record { skip = skip; tally = starting allowance }

pub loop-d-init : goal.loop-d-init
loop-d-init c =
    let a = c.args in
    let all = from_point a.n a.degree a.point in (
      subst (λ ds. Reaches a.n a.on a.free all ds (start_of a.skip a.allowance) a.room.now (start_of a.skip a.allowance) a.room.now) (sym (remaining-all a.n a.degree a.point))
          (reaches-start a.n a.on a.free all (start_of a.skip a.allowance) a.room.now (omega arith)),
      c.requires.point_bound,
    )

pub walk_degree-requires : goal.walk_degree-requires
walk_degree-requires c = record {
  on_points = c.requires.on_points;
  free_points = c.requires.free_points;
  n_le_max_listed = c.requires.n_le_max_listed;
  d_le_n = omega (arith, c.loop-d.auto.d, c.requires.degree_le_n);
  point_bound = c.loop-d.invariant.1;
  written_in_bounds = c.loop-d.invariant.0.wrote;
}

-- The candidates of the degree below the counter are next.
here : (c : In-loop-d)
    → let a = c.args in
    let l = c.loop-d in
    Reaches a.n a.on a.free (from_point a.n a.degree a.point) (of_degree_from a.n (l.d - 1) l.first ++ remaining a.n (l.d - 1) 0) (start_of a.skip a.allowance) a.room.now l.progress l.room
here c =
    let a = c.args in
    let l = c.loop-d in
    let q : l.d ≡ l.d - 1 + 1 = omega (arith, c.loop-d-test.true) in
    subst (λ ds. Reaches a.n a.on a.free (from_point a.n a.degree a.point) ds (start_of a.skip a.allowance) a.room.now l.progress l.room)
    (ap (λ (k : ℕ). remaining a.n k l.first) q ∙ remaining-cons a.n (l.d - 1) l.first) l.invariant.0

pub returns-in_err-progress : goal.returns-in_err-progress
returns-in_err-progress c =
    let a = c.args in
    let l = c.loop-d in
    ap (λ z. state_after z c.walk_degree.new.room) c.from_residual.ensures
    ∙ walk-stopped a.n a.on a.free (from_point a.n a.degree a.point) (start_of a.skip a.allowance) a.room.now c.in_err-progress.field-0.0 c.walk_degree.new.room
    (stops-next a.n a.on a.free (from_point a.n a.degree a.point) (start_of a.skip a.allowance) a.room.now (of_degree_from a.n (l.d - 1) l.first) (remaining a.n (l.d - 1) 0) l.progress l.room
    (here (goal.at.returns-in_err-progress c).In-loop-d) c.in_err-progress.field-0.0 c.walk_degree.new.room
    (subst (λ z. Walked a.n a.on a.free (of_degree_from a.n (l.d - 1) l.first) l.progress l.room z c.walk_degree.new.room) c.in_err-progress.was c.walk_degree.ensures))

pub loop-d-preserved : goal.loop-d-preserved
loop-d-preserved c =
    let a = c.args in
    let l = c.loop-d in (
      reaches-next a.n a.on a.free (from_point a.n a.degree a.point) (start_of a.skip a.allowance) a.room.now (of_degree_from a.n (l.d - 1) l.first) (remaining a.n (l.d - 1) 0) l.progress l.room
          (here (goal.at.loop-d-preserved c).In-loop-d) c.in_ok-progress.progress c.walk_degree.new.room
          (subst (λ z. Walked a.n a.on a.free (of_degree_from a.n (l.d - 1) l.first) l.progress l.room z c.walk_degree.new.room) c.in_ok-progress.was c.walk_degree.ensures),
      pow_pos a.n,
    )

pub returns : goal.returns
returns c =
    let a = c.args in
    let l = c.loop-d in
    let q : l.d ≡ 0 = omega (arith, c.loop-d-test.false) in
    walk-ended (subst (λ ds. Reaches a.n a.on a.free (from_point a.n a.degree a.point) ds (start_of a.skip a.allowance) a.room.now l.progress l.room)
    (ap (λ (k : ℕ). remaining a.n k l.first) q ∙ remaining-none a.n l.first) l.invariant.0)
