-- `choice::least_point` meets its contract: at each turn the vectors not passed yet are what is left to be cleared. Assumes nothing.
use mathlib.Core.Path.{◌≡◌, ap, ◌∙◌}
use Prim.Native.Nat.{◌+◌, ◌-◌, ◌/◌, ◌<◌}
use native.Mathlib.Omega.{arith}
use Rattle.gf2.specs.Basis.{reduce}
use Rattle.bases.specs.Bases.{vectors_of}
use Rattle.bases.proofs.Entry.{vectors-each}
use Rattle.choice.proofs.Reductions.{reduce-on, reduce-end}
use Rattle.choice.proofs.least_point.Goals as goal

pub loop-init : goal.loop-init
loop-init c = let q : c.args.d - 0 ≡ c.args.d = omega arith in (rw q c.requires, rw q)

pub clear_lead-point-requires : goal.clear_lead-point-requires
clear_lead-point-requires c = let l = c.loop in (vectors-each (λ b. 0 < b) (c.args.d - l.counter) l.rest (omega arith) l.invariant.0).0

pub loop-preserved : goal.loop-preserved
loop-preserved c =
    let l = c.loop in
    let q : c.args.d - (l.counter + 1) ≡ c.args.d - l.counter - 1 = omega arith in (
      rw q (vectors-each (λ b. 0 < b) (c.args.d - l.counter) l.rest (omega arith) l.invariant.0).1,
      rw q (ap (reduce (vectors_of (c.args.d - l.counter - 1) (l.rest / 256))) c.clear_lead-point.ensures ∙ reduce-on (c.args.d - l.counter) l.rest l.point (omega arith) ∙ l.invariant.1),
    )

pub returns : goal.returns
returns c = let l = c.loop in reduce-end (c.args.d - l.counter) l.rest l.point (omega arith) ∙ l.invariant.1
