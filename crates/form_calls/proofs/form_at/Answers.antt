-- `form_calls::form_at` meets its contract: the value of what is left, with what the product that the loop is in says so far, stays that of the
-- whole form. Assumes nothing.
use mathlib.Core.Path.{◌≡◌, sym, ap, ◌∙◌}
use mathlib.Core.Bool.{Bool, true, ◌&&◌, ◌||◌}
use Prim.Native.Nat.{ℕ, ◌≤◌, ◌+◌}
use native.Mathlib.Omega.{arith}
use borrow.Author.Rules.{rules}
use lib.ListN.{length, drop}
use Rattle.product.specs.Product.{factor_at}
use Rattle.form.specs.Decoding.{factor_of, parts_from}
use Rattle.form.proofs.Laying.{form-laid}
use Rattle.form_calls.proofs.Valuing.{value_from, value-first, Rest, rest-first, rest-there, product_there, factor-at, end-at}
use Rattle.form_calls.proofs.form_at.Goals as goal
use Rattle.form_calls.proofs.form_at.Goals.{In-88}

pub loop-place-init : goal.loop-place-init
loop-place-init c =
    let b = c.args.bytes.now in
    (rest-first (form-laid b c.requires).1, value-first (parts_from 0 (drop 2 b)) c.args.point)

pub bounds-bytes-place : goal.bounds-bytes-place
bounds-bytes-place c = rest-there c.args.bytes.now c.loop-place.place c.loop-place.invariant.0

pub returns-in-80 : goal.returns-in-80
returns-in-80 c =
    let a = c.args in
    let on = product_there a.bytes.now c.loop-place.place c.loop-place.invariant.0 c.in-80.is in
    let v = value_from true (parts_from 0 (drop (c.loop-place.place + 1) a.bytes.now)) a.point in
    sym (sym c.loop-place.invariant.1 ∙ on.1 c.loop-place.holds a.point ∙ ap (λ (t : Bool). t || v) c.if-holds.true)

pub overflow_add-place : goal.overflow_add-place
overflow_add-place c =
    omega (arith, rest-there c.args.bytes.now c.loop-place.place c.loop-place.invariant.0)

pub loop-place-smaller-in-80-2 : goal.loop-place-smaller-in-80-2
loop-place-smaller-in-80-2 c =
    omega (arith, rest-there c.args.bytes.now c.loop-place.place c.loop-place.invariant.0)

pub loop-place-preserved-in-80-2 : goal.loop-place-preserved-in-80-2
loop-place-preserved-in-80-2 c =
    let a = c.args in
    let on = product_there a.bytes.now c.loop-place.place c.loop-place.invariant.0 c.in-80.is in
    let v = value_from true (parts_from 0 (drop (c.loop-place.place + 1) a.bytes.now)) a.point in
    (on.0, sym (on.1 c.loop-place.holds a.point ∙ ap (λ (t : Bool). t || v) c.if-holds.false) ∙ c.loop-place.invariant.1)

-- A factor stands at the loop's place: it is whole, a rest follows, and it counts for the product that the loop is in.
module _ (c : In-88) where
  counts :
      (c.loop-place.place + 4 ≤ length c.args.bytes.now)
      × Rest (drop (c.loop-place.place + 4) c.args.bytes.now)
      × ((inside : Bool) (w : ℕ)
      → value_from inside (parts_from 0 (drop c.loop-place.place c.args.bytes.now)) w
      ≡ value_from
      (inside && factor_at (factor_of (drop (c.loop-place.place + 1) c.args.bytes.now)) w)
      (parts_from 0 (drop (c.loop-place.place + 4) c.args.bytes.now))
      w)
  counts =
      factor-at c.args.bytes.now c.loop-place.place c.loop-place.invariant.0 c.in-88.is

pub still_holds-holds-requires : goal.still_holds-holds-requires
still_holds-holds-requires c = (counts c).0

pub overflow_add-place-in-88 : goal.overflow_add-place-in-88
overflow_add-place-in-88 c = omega (arith, (counts (goal.at.overflow_add-place-in-88 c).In-88).0)

pub loop-place-smaller : goal.loop-place-smaller
loop-place-smaller c = omega (arith, (counts (goal.at.loop-place-smaller c).In-88).0)

pub loop-place-preserved : goal.loop-place-preserved
loop-place-preserved c =
    let a = c.args in
    let on = counts (goal.at.loop-place-preserved c).In-88 in
    (on.1, rw c.still_holds-holds.ensures (sym (on.2 c.loop-place.holds a.point) ∙ c.loop-place.invariant.1))

pub returns-in_default : goal.returns-in_default
returns-in_default c =
    let a = c.args in
    sym (end-at a.bytes.now c.loop-place.place c.loop-place.invariant.0 (search rules) (search rules) c.loop-place.holds a.point) ∙ c.loop-place.invariant.1
