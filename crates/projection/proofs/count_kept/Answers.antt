-- `projection::count_kept` meets its contract: the count so far is that of the points kept below w. Assumes nothing.
use mathlib.Core.Path.{◌≡◌, refl, sym, ap, ◌∙◌}
use mathlib.Core.Bool.{true, false}
use Prim.Native.Nat.{ℕ, ◌^◌}
use native.Mathlib.Omega.{arith}
use lib.ListN.{length, length-map}
use lib.Pow.{pow_mono}
use Rattle.gf2.specs.Finite.{select}
use Rattle.gf2.proofs.Finite.{select-length}
use Rattle.space.specs.Restriction.{project}
use Rattle.space.specs.Witness.{flagged}
use Rattle.projection.specs.Masks.{places_clear, is_kept, kept}
use Rattle.table.proofs.Selecting.{count-step}
use Rattle.projection.proofs.count_kept.Goals as goal
use Rattle.projection.proofs.count_kept.Goals.{then-is_kept, else-is_kept}

pub loop-w-init : goal.loop-w-init
unfolding select
loop-w-init c = refl

pub is_kept-requires : goal.is_kept-requires
is_kept-requires c = omega (arith, pow_mono c.requires)

pub overflow_add-count : goal.overflow_add-count
overflow_add-count c =
    let l = c.loop-w in
    omega (arith, select-length (is_kept c.args.leads (flagged c.args.flags.now)) l.w, pow_mono c.requires)

pub loop-w-preserved : goal.loop-w-preserved
loop-w-preserved c =
    let l = c.loop-w in
    let t = is_kept c.args.leads (flagged c.args.flags.now) in
    let known = sym c.is_kept.ensures in
    elim c.if-is_kept.branch [
      | then-is_kept w ↦ count-step t l.w l.count c.if-is_kept.count l.invariant true (known ∙ w.if-is_kept.true) w.count-is
      | else-is_kept w ↦ count-step t l.w l.count c.if-is_kept.count l.invariant false (known ∙ w.if-is_kept.false) w.count-is
    ]

pub returns : goal.returns
unfolding kept
returns c =
    let l = c.loop-w in
    let a = c.args in
    let t = is_kept a.leads (flagged a.flags.now) in
    let e : l.w ≡ 2 ^ a.n = omega arith in
    l.invariant ∙ ap (λ (k : ℕ). length (select t k)) e ∙ sym (length-map (select t (2 ^ a.n)) (project (places_clear a.n a.leads)))
