-- `masks::points::every_point` meets its contract: at each turn the vectors not passed yet are what is left of the fold. Assumes nothing.
use mathlib.Core.Path.{◌≡◌, sym, ap, ◌∙◌}
use mathlib.Core.Bool.{Bool}
use Prim.Native.Nat.{ℕ, ◌+◌, ◌-◌, ◌<◌}
use native.Mathlib.Omega.{arith}
use Rattle.gf2.specs.Bits.{bit}
use Rattle.moves.specs.Moves.{mask_size}
use Rattle.bases.proofs.Entry.{vectors-each}
use Rattle.masks.proofs.Folds.{every-on, every-end}
use Rattle.masks.proofs.points.every_point.Goals as goal

pub loop-init : goal.loop-init
loop-init c = let q : c.args.d - 0 ≡ c.args.d = omega arith in (rw q c.requires, rw q)

pub moved-every-requires : goal.moved-every-requires
moved-every-requires c = let l = c.loop in (vectors-each (λ c. c < mask_size) (c.args.d - l.counter) l.rest (omega arith) l.invariant.0).0

pub loop-preserved : goal.loop-preserved
loop-preserved c =
    let l = c.loop in
    let q : c.args.d - (l.counter + 1) ≡ c.args.d - l.counter - 1 = omega arith in (
      rw q (vectors-each (λ c. c < mask_size) (c.args.d - l.counter) l.rest (omega arith) l.invariant.0).1,
      rw q (every-on (c.args.d - l.counter) l.rest l.every c.moved-every.result (omega arith) c.moved-every.ensures ∙ l.invariant.1),
    )

pub returns : goal.returns
returns c =
    let l = c.loop in
    λ x. sym (every-end (λ y. bit y l.every) (c.args.d - l.counter) l.rest x (omega arith)) ∙ ap (λ (f : ℕ → Bool). f x) l.invariant.1
