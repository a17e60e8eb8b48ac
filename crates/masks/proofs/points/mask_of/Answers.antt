-- `masks::points::mask_of` meets its contract: the points from the index on are what is left to be put in. Assumes nothing.
use mathlib.Core.Path.{◌≡◌, sym, ap, ◌∙◌}
use mathlib.Core.Bool.{Bool, ◌||◌, or-false}
use mathlib.Core.List.{[]}
use native.Mathlib.Omega.{arith}
use lib.ListN.{drop, drop_of_length-le}
use Rattle.gf2.specs.Bits.{bit}
use Rattle.gf2.specs.Finite.{holds}
use Rattle.gf2.proofs.Xor.{bit-zero}
use Rattle.table.proofs.Table.{inside-at}
use Rattle.cubes.specs.Records.{max_listed}
use Rattle.masks.proofs.Folds.{mask_next}
use Rattle.masks.proofs.points.mask_of.Goals as goal

pub loop-point-init : goal.loop-point-init
loop-point-init c = λ x. ap (λ (t : Bool). t || holds c.args.points.now x) (bit-zero x)

pub overflow_shl-mask : goal.overflow_shl-mask
overflow_shl-mask c =
    omega (arith, c.flag_place.ensures, inside-at max_listed c.args.points.now c.requires c.loop-point.point-index (omega arith))

pub loop-point-preserved : goal.loop-point-preserved
loop-point-preserved c =
    let l = c.loop-point in
    λ x. mask_next c.args.points.now l.mask l.point-index c.flag_place.result (omega arith) c.flag_place.ensures (overflow_shl-mask c) x ∙ l.invariant x

pub returns : goal.returns
unfolding holds
returns c =
    let l = c.loop-point in
    let end : drop l.point-index c.args.points.now ≡ [] = drop_of_length-le c.args.points.now {i = l.point-index} (omega arith) in
    λ x. sym (or-false (bit x l.mask)) ∙ ap (λ ps. bit x l.mask || holds ps x) (sym end) ∙ l.invariant x
