-- `index_list::matches` meets its contract: each turn adds what is said of one record more, which belongs to a point of the form. Assumes nothing.
use Prim.Native.Nat.{ℕ, ◌+◌, ◌<◌, ◌≤◌}
use mathlib.Core.Path.{◌≡◌, sym, ap, ◌∙◌}
use mathlib.Core.Bool.{Bool}
use mathlib.Core.List.{List}
use native.Mathlib.Omega.{arith}
use lib.ListN.{length, get_or, take}
use Rattle.std.proofs.lemmas.List.{get_or_default, get_or-take, length-take-le}
use Rattle.index.specs.declared.PointRecord.{PointRecord}
use Rattle.index.specs.Records.{no_record, point_record, agrees_upto, bound_of, HasPoint, still_of}
use Rattle.index.proofs.InPlace.{bound-le, bound-point, agrees-none, agrees-next}
use Rattle.index_list.proofs.matches.Goals as goal

-- As many records are looked at as belong to the form, and they are there.
module _ (form : List ℕ) (list : List PointRecord) (many : ℕ) (e : many ≡ bound_of form (length list)) where
  there : many ≤ length list
  there = omega (arith, e, bound-le form (length list))

  all : length (take many list) ≡ many
  all = length-take-le many list there

  point : (i : ℕ) → i < length (take many list) → HasPoint form i
  point i h =
      let below : i < bound_of form (length list) = omega (arith, e, all) in
      bound-point form (length list) i below

  -- What is read in a turn is the record there.
  next : (i : ℕ) (d : PointRecord) → i < length (take many list) → still_of form i (agrees_upto form list i) (get_or (take many list) i d) ≡ agrees_upto form list (i + 1)
  next i d h =
      let below : i < many = omega (arith, all) in
      let inside : i < length list = omega (arith, there) in
      ap (still_of form i (agrees_upto form list i)) (get_or-take many list i d below ∙ get_or_default list i d no_record inside) ∙ agrees-next form list i

pub slice_bounds-record-items-end : goal.slice_bounds-record-items-end
slice_bounds-record-items-end c = sym (all c.args.form.now c.args.list.now c.bound-many.result c.bound-many.ensures)

pub loop-point-init : goal.loop-point-init
loop-point-init c = agrees-none c.args.form.now c.args.list.now

pub still-same-requires : goal.still-same-requires
still-same-requires c = point c.args.form.now c.args.list.now c.bound-many.result c.bound-many.ensures c.loop-point.point c.loop-point-test.true

pub loop-point-preserved : goal.loop-point-preserved
loop-point-preserved c =
    let form = c.args.form.now in
    let list = c.args.list.now in
    let i = c.loop-point.point in
    let past = point_record 0 0 in
    c.still-same.ensures ∙ ap (λ (t : Bool). still_of form i t (get_or (take c.bound-many.result list) i past)) c.loop-point.invariant
    ∙ next form list c.bound-many.result c.bound-many.ensures i past c.loop-point-test.true

pub returns : goal.returns
returns c =
    let form = c.args.form.now in
    let list = c.args.list.now in
    let end : c.loop-point.point ≡ bound_of form (length list) = omega (arith, c.bound-many.ensures, all form list c.bound-many.result c.bound-many.ensures) in
    c.loop-point.invariant ∙ ap (agrees_upto form list) end
