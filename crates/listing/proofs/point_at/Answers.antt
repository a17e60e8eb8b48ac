-- `listing::point_at` meets its contract: the candidates from the place on are those from the points not passed yet. Assumes nothing.
use mathlib.Core.Path.{◌≡◌, sym, ap, ◌∙◌, subst}
use Prim.Native.Nat.{ℕ, ◌+◌, ◌-◌, ◌*◌, ◌%◌, ◌^◌, ◌<◌}
use native.Mathlib.Numerals.{add-one}
use native.Mathlib.Omega.{arith}
use lib.ListN.{drop}
use lib.Pow.{pow_pos}
use Rattle.gf2.proofs.Xor.{shifted_one}
use Rattle.walk.specs.Places.{from_point}
use Rattle.walk.proofs.Points.{point-first, point-passed}
use Rattle.listing.specs.Starts.{PointAt}
use Rattle.listing.proofs.point_at.Goals as goal
use Rattle.listing.proofs.point_at.Goals.{In-loop-point}

pub overflow_sub-last : goal.overflow_sub-last
overflow_sub-last c = omega (arith, shifted_one c.args.n 64 (omega (arith, c.requires.n_le_max_listed)), pow_pos c.args.n)

pub loop-point-init : goal.loop-point-init
loop-point-init c = let a = c.args in ap (drop a.skip) (point-first a.n a.degree)

-- The point is one of n variables, and not the last.
below : (c : In-loop-point) → c.loop-point.point + 1 < 2 ^ c.args.n
below c = omega (arith, c.loop-point-test.true, shifted_one c.args.n 64 (omega (arith, c.requires.n_le_max_listed)))

pub candidates_at_point-count-requires : goal.candidates_at_point-count-requires
candidates_at_point-count-requires c = record {
  n_le_max_listed = c.requires.n_le_max_listed;
  d_le_max_listed = omega (arith, c.requires.n_le_max_listed, c.requires.degree_le_n);
  p_bound = omega (arith, below (goal.at.candidates_at_point-count-requires c).In-loop-point);
}

pub returns-then-left-count : goal.returns-then-left-count
returns-then-left-count c = record { below = omega (arith, below (goal.at.returns-then-left-count c).In-loop-point); same = c.loop-point.invariant }

pub loop-point-preserved : goal.loop-point-preserved
loop-point-preserved c =
    let a = c.args in
    let l = c.loop-point in
    l.invariant ∙ point-passed a.n a.degree l.point l.left c.candidates_at_point-count.result (omega (arith, below (goal.at.loop-point-preserved c).In-loop-point))
    c.candidates_at_point-count.ensures c.if-left-count.false
    ∙ ap (λ (z : ℕ). drop (l.left - c.candidates_at_point-count.result) (from_point a.n a.degree z)) (sym (add-one l.point))

pub returns : goal.returns
returns c =
    let a = c.args in
    let l = c.loop-point in
    let q : l.point ≡ 1 * 2 ^ a.n % 18446744073709551616 - 1 = omega (arith, c.loop-point-test.false, l.auto.point-end) in
    let b : l.point < 2 ^ a.n = omega (arith, shifted_one a.n 64 (omega (arith, c.requires.n_le_max_listed)), pow_pos a.n) in
    subst (λ (z : ℕ). PointAt a.n a.degree a.skip (record { point = z; skip = l.left })) q (record { below = b; same = l.invariant })
