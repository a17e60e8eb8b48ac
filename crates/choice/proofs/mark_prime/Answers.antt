-- `choice::mark_prime` meets its contract: the points passed so far are marked where the candidate holds them. Assumes nothing.
use mathlib.Core.Path.{◌≡◌, sym, ap, ◌∙◌, subst}
use mathlib.Core.Bool.{true}
use Prim.Native.Nat.{ℕ, ◌+◌, ◌^◌, ◌≤◌, ◌<◌}
use native.Mathlib.Omega.{arith}
use lib.Pow.{pow_mono}
use lib.ListN.{length, set}
use borrow.Author.Rules.{rules}
use Rattle.table.specs.Flags.{max_points}
use Rattle.choice.specs.Search.{candidate_of}
use Rattle.choice.proofs.Reductions.{entry-positive}
use Rattle.choice.proofs.Taking.{MarkedTo, marked_start, marked-on, marked-off, marked-end}
use Rattle.choice.proofs.mark_prime.Goals as goal
use Rattle.choice.proofs.mark_prime.Goals.{then-holds_point, else-holds_point}

pub point_count-x-end-requires : goal.point_count-x-end-requires
point_count-x-end-requires c = omega (arith, c.requires.few)

pub loop-x-init : goal.loop-x-init
loop-x-init c =
    let a = c.args in
    let long : length a.flags ≡ max_points = search rules in
    marked_start (candidate_of a.prime) a.flags long

pub holds_point-requires : goal.holds_point-requires
holds_point-requires c = let k = c.requires in entry-positive c.args.prime.degree c.args.prime.entry (omega (arith, k.few, k.short)) k.listed

-- The point is one of m variables.
small : (m x : ℕ) → m ≤ 6 → x < 2 ^ m → x < max_points
small m x h l = omega (arith, pow_mono h)

pub bounds-flags-flag_place : goal.bounds-flags-flag_place
bounds-flags-flag_place c =
    omega (arith, c.flag_place.ensures, small c.args.m c.loop-x.x c.requires.few (omega (arith, c.loop-x-test.true, c.point_count-x-end.ensures)))

pub loop-x-preserved : goal.loop-x-preserved
loop-x-preserved c =
    let l = c.loop-x in
    let k = candidate_of c.args.prime in
    let f = c.args.flags in
    elim c.if-holds_point.branch [
      | then-holds_point w ↦ subst (MarkedTo k f (l.x + 1)) (sym (w.flags-is ∙ ap (λ (z : ℕ). set l.flags z true) w.flag_place.ensures))
          (marked-on k f l.flags l.x l.invariant (sym c.holds_point.ensures ∙ w.if-holds_point.true)
          (small c.args.m l.x c.requires.few (omega (arith, c.loop-x-test.true, c.point_count-x-end.ensures))))
      | else-holds_point w ↦ subst (MarkedTo k f (l.x + 1)) (sym w.flags-is) (marked-off k f l.flags l.x l.invariant (sym c.holds_point.ensures ∙ w.if-holds_point.false))
    ]

pub returns : goal.returns
returns c =
    let l = c.loop-x in
    marked-end c.requires c.args.flags l.flags l.x (omega (arith, c.loop-x-test.false, c.point_count-x-end.ensures)) l.invariant
