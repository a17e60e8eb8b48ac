-- `index::last_product` meets its contract: past the products before it, one after the other, the last one begins. Assumes nothing.
use mathlib.Core.Path.{◌≡◌, refl, sym, ap, ap₂, ◌∙◌, subst}
use mathlib.Core.List.{List}
use Prim.Native.Nat.{ℕ, ◌+◌, ◌≤◌}
use native.Mathlib.Omega.{arith}
use lib.ListN.{length, drop}
use Rattle.product.specs.Product.{Factor}
use Rattle.form.specs.Decoding.{parts_from}
use Rattle.index.specs.declared.ProductSeen.{ProductSeen}
use Rattle.index.specs.Changes.{product_seen}
use Rattle.index.specs.Answers.{last_place}
use Rattle.index.proofs.Reading.{Begun, first-begun, next_product, product-left, lasts_length, lasts-nearer, lasts-one}
use Rattle.index.proofs.last_product.Goals as goal
use Rattle.index.proofs.last_product.Goals.{In-loop-passed, After-product_seen-place}

pub loop-passed-init : goal.loop-passed-init
unfolding last_place
loop-passed-init c = (first-begun c.args.form.now c.requires.form, omega arith, refl)

-- As long as products are to be passed, one is left besides the last.
more : (c : In-loop-passed) → 2 ≤ length (parts_from 0 (drop c.loop-passed.place c.args.form.now)).products
more c = omega (arith, c.loop-passed.invariant.1, c.requires.products_value)

pub product_seen-place-requires : goal.product_seen-place-requires
product_seen-place-requires c =
    (product-left c.args.form.now c.loop-passed.place c.loop-passed.invariant.0 (omega (arith, more c))).0

next : (c : After-product_seen-place) → c.product_seen-place.result.next ≡ next_product c.args.form.now c.loop-passed.place
unfolding product_seen
next c = ap (λ (s : ProductSeen). s.next) c.product_seen-place.ensures

pub loop-passed-preserved : goal.loop-passed-preserved
loop-passed-preserved c =
    let form = c.args.form.now in
    let h = c.loop-passed in
    let two = more (goal.at.loop-passed-preserved c).In-loop-passed in
    let there = product-left form h.place h.invariant.0 (omega (arith, two)) in
    let rests = ap (λ (k : ℕ). (parts_from 0 (drop k form)).products) (next c) in (
      subst (λ (k : ℕ). Begun (drop k form)) (sym (next c)) there.1,
      omega (arith, h.invariant.1, ap length there.2, ap length rests),
      ap₂ (λ (k : ℕ) (l : List (List Factor)). k + lasts_length l) (next c) rests ∙ lasts-nearer form h.place h.invariant.0 two ∙ h.invariant.2,
    )

pub returns : goal.returns
returns c =
    let h = c.loop-passed in
    let form = c.args.form.now in
    let one : length (parts_from 0 (drop h.place form)).products ≡ 1 = omega (arith, h.invariant.1, c.requires.products_value, c.requires.le_products) in
    omega (arith, h.invariant.2, lasts-one (parts_from 0 (drop h.place form)).products one)
