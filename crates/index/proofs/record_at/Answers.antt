-- `index::record_at` meets its contract: the record so far and the products that are left make the form's record. Assumes nothing.
use mathlib.Core.Path.{◌≡◌, refl, sym, ap, ap₂, ◌∙◌, subst}
use mathlib.Core.Bool.{Bool, true, false, cond}
use mathlib.Core.List.{List, [], ◌∷◌}
use Prim.Native.Nat.{ℕ, ◌+◌, ◌≤◌, ◌<◌}
use native.Mathlib.Omega.{arith}
use lib.ListN.{length, drop}
use Rattle.product.specs.Product.{Factor, product_at}
use Rattle.form.specs.Form.{max_products}
use Rattle.form.specs.Decoding.{parts_from, form_products}
use Rattle.form.proofs.Encodings.{form-valid}
use Rattle.index.specs.declared.PointRecord.{PointRecord}
use Rattle.index.specs.declared.ProductSeen.{ProductSeen}
use Rattle.index.specs.Changes.{factors_of_product, WholeProduct, add_holder, appended_at, product_seen}
use Rattle.index.proofs.Records.{record_from, record-fold, record-none}
use Rattle.index.proofs.Reading.{Begun, first-begun, next_product, product-left}
use Rattle.index.proofs.record_at.Goals as goal
use Rattle.index.proofs.record_at.Goals.{In-loop-number, After-add_holder-found}

-- No factor is left of the product before the place; each product before it was counted at most once; and with the products from there on the record so
-- far makes that of the form.
pub loop-number-init : goal.loop-number-init
loop-number-init c =
    let b = c.args.bytes.now in (
      first-begun b c.requires,
      omega arith,
      omega arith,
      ap (λ (r : PointRecord). record_from 0 r (form_products b) c.args.point) (sym (record-none c.args.point)) ∙ record-fold [] (form_products b) 0 c.args.point refl,
    )

-- Fewer products are counted than there are, so one is left, and its number is small.
some : (c : In-loop-number) → 1 ≤ length (parts_from 0 (drop c.loop-number.place c.args.bytes.now)).products
some c = omega (arith, c.loop-number.invariant.2, c.product_count-number-end.ensures)

small : (c : In-loop-number) → c.loop-number.number < max_products
small c = omega (arith, c.product_count-number-end.ensures, (form-valid c.args.bytes.now c.requires).short)

pub product_seen-seen-requires : goal.product_seen-seen-requires
product_seen-seen-requires c = (product-left c.args.bytes.now c.loop-number.place c.loop-number.invariant.0 (some c)).0

pub overflow_cast-number : goal.overflow_cast-number
overflow_cast-number c = omega (arith, small (goal.at.overflow_cast-number c).In-loop-number)

pub add_holder-found-requires : goal.add_holder-found-requires
add_holder-found-requires c = omega (arith, c.loop-number.invariant.1, small (goal.at.add_holder-found-requires c).In-loop-number)

-- A product begins at the loop's place, and the next one where its factors end.
module _ (c : After-add_holder-found) where
  abbrev bytes : List ℕ
  bytes = c.args.bytes.now

  abbrev place : ℕ
  place = c.loop-number.place

  there : WholeProduct bytes place × Begun (drop (next_product bytes place) bytes)
      × ((parts_from 0 (drop place bytes)).products ≡ factors_of_product bytes place ∷ (parts_from 0 (drop (next_product bytes place) bytes)).products)
  there = product-left bytes place c.loop-number.invariant.0 (some (goal.at.loop-number-preserved c).In-loop-number)

  next : c.product_seen-seen.result.next ≡ next_product bytes place
  unfolding product_seen
  next = ap (λ (s : ProductSeen). s.next) c.product_seen-seen.ensures

  counted : c.add_holder-found.result ≡ appended_at c.loop-number.number (factors_of_product bytes place) c.args.point c.loop-number.found
  unfolding product_seen
  counted =
      let h = c.loop-number in
      c.add_holder-found.ensures ∙ ap (λ (s : ProductSeen). cond s.holds (add_holder h.number h.found) h.found) c.product_seen-seen.ensures

-- A product is counted at most once.
at-most-once : (t : Bool) (number k : ℕ) (r : PointRecord) → r.count ≤ k → (cond t (add_holder number r) r).count ≤ k + 1
at-most-once true number k r h = omega arith
at-most-once false number k r h = omega arith

fold_next : (k : ℕ) (r : PointRecord) (p : List Factor) (ps : List (List Factor)) (w : ℕ) → record_from k r (p ∷ ps) w ≡ record_from (k + 1) (appended_at k p w r) ps w
unfolding record_from
fold_next k r p ps w = refl

pub loop-number-preserved : goal.loop-number-preserved
loop-number-preserved c =
    let h = c.loop-number in
    let w = c.args.point in
    let p = factors_of_product (bytes c) (place c) in
    let ps = (parts_from 0 (drop (next_product (bytes c) (place c)) (bytes c))).products in
    let rests = ap (λ (k : ℕ). (parts_from 0 (drop k (bytes c))).products) (next c) in (
      subst (λ (k : ℕ). Begun (drop k (bytes c))) (sym (next c)) (there c).1,
      subst (λ (r : PointRecord). r.count ≤ h.number + 1) (sym (counted c)) (at-most-once (product_at p w) h.number h.number h.found h.invariant.1),
      omega (arith, h.invariant.2, ap length (there c).2, ap length rests),
      ap₂ (λ (r : PointRecord) (l : List (List Factor)). record_from (h.number + 1) r l w) (counted c) rests ∙ sym (fold_next h.number h.found p ps w)
          ∙ ap (λ (l : List (List Factor)). record_from h.number h.found l w) (sym (there c).2) ∙ h.invariant.3,
    )

none : (l : List (List Factor)) → length l ≡ 0 → l ≡ []
none [] e = refl
none (p ∷ ps) e = absurd (omega arith)

pub returns : goal.returns
unfolding record_from
returns c =
    let h = c.loop-number in
    let a = c.args in
    let left = (parts_from 0 (drop h.place a.bytes.now)).products in
    let over : length left ≡ 0 = omega (arith, h.invariant.2, c.product_count-number-end.ensures) in
    sym (ap (λ (l : List (List Factor)). record_from h.number h.found l a.point) (none left over)) ∙ h.invariant.3
