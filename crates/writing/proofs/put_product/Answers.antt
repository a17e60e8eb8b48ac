-- `writing::put_product` meets its contract: the factors passed are written behind the kind. Assumes nothing.
use mathlib.Core.Path.{◌≡◌, refl, sym, ap, ap₂, ◌∙◌}
use mathlib.Core.List.{List, [], ◌∷◌, ◌++◌, append-nil}
use Prim.Native.Nat.{ℕ, ◌+◌, ◌*◌, ◌≤◌, ◌<◌}
use native.Mathlib.Numerals.{add-one}
use native.Mathlib.Omega.{arith}
use lib.ListN.{length, take, set, get_or, length-map}
use lib.Seq.{sets, length-take-le, take_all, get_or-take}
use Rattle.basis.specs.Short.{listed}
use Rattle.basis.proofs.Values.{short-listed}
use Rattle.records.specs.Kinds.{product_kind}
use Rattle.product.specs.Product.{Factor, factor}
use Rattle.form.specs.Encoding.{encode_factors, encode_products}
use Rattle.factors.specs.declared.FactorList.{FactorList}
use Rattle.factors.specs.Factors.{masks_of, product_in, IsProduct}
use Rattle.factors.proofs.Products.{constants-len, masks-len, factor-at, constant-binary}
use Rattle.table.proofs.Fill.{sets-append}
use Rattle.writing.proofs.Bytes.{factors-next, factors-length}
use Rattle.writing.proofs.put_product.Goals as goal

-- The factors as the loop has them, one more of them written, and all.
module _ (r : FactorList) (k : IsProduct r) where
  many : (ms : List ℕ) → ms ≡ listed r.masks → length ms ≡ length (product_in r)
  many ms e = ap length (e ∙ short-listed r.masks (masks_of (product_in r)) (ap (λ (x : FactorList). x.masks) k.packed)) ∙ length-map (product_in r) (λ f. f.mask)

  binary : (cs : List ℕ) → cs ≡ listed r.constants → (i : ℕ) → i < length (product_in r) → get_or cs i 0 ≤ 1
  binary cs e i h =
      let q : get_or cs i 0 ≡ get_or r.constants.values i 0 = ap (λ l. get_or l i 0) e ∙ get_or-take r.constants.len r.constants.values i 0 (omega (arith, constants-len r k)) in
      omega (arith, q, constant-binary r k i (omega (arith, masks-len r k)))

  pair : (cs ms : List ℕ) → cs ≡ listed r.constants → ms ≡ listed r.masks → (i : ℕ) → i < length (product_in r) → factor (get_or cs i 0) (get_or ms i 0) ≡ get_or (product_in r) i (factor 0 0)
  pair cs ms e q i h =
      ap₂ factor (ap (λ l. get_or l i 0) e ∙ get_or-take r.constants.len r.constants.values i 0 (omega (arith, constants-len r k)))
      (ap (λ l. get_or l i 0) q ∙ get_or-take r.masks.len r.masks.values i 0 (omega (arith, masks-len r k)))
      ∙ sym (factor-at r k i (omega (arith, masks-len r k)))

  next : (room done later : List ℕ) (at place i : ℕ) (f : Factor) → f ≡ get_or (product_in r) i (factor 0 0) → i < length (product_in r) → place ≡ at + 1 + 4 * i
      → done ≡ sets room (at + 1) (encode_factors (take i (product_in r))) → later ≡ sets done place (encode_factors (f ∷ []))
      → later ≡ sets room (at + 1) (encode_factors (take (i + 1) (product_in r)))
  next room done later at place i f same h p d q =
      let fs = product_in r in
      let before = encode_factors (take i fs) in
      let long : length before ≡ 4 * i = factors-length (take i fs) ∙ ap (λ (z : ℕ). 4 * z) (length-take-le i fs (omega arith)) in
      q ∙ ap (λ (x : List ℕ). sets x place (encode_factors (f ∷ []))) d ∙ sets-append room (at + 1) before (encode_factors (f ∷ [])) place (omega arith)
      ∙ ap (sets room (at + 1)) (ap (λ (x : Factor). before ++ encode_factors (x ∷ [])) same ∙ sym (factors-next fs i h))

  whole : (room done : List ℕ) (at i : ℕ) → length (product_in r) ≤ i → done ≡ sets (set room at product_kind) (at + 1) (encode_factors (take i (product_in r)))
      → done ≡ sets room at (encode_products (product_in r ∷ []))
  unfolding encode_products
  whole room done at i h d =
      let fs = product_in r in
      d ∙ ap (λ (x : List Factor). sets (set room at product_kind) (at + 1) (encode_factors x)) (take_all i fs h)
      ∙ rw (add-one, append-nil (encode_factors fs))

pub loop-i-init : goal.loop-i-init
unfolding encode_factors
loop-i-init c = (omega arith, refl)

pub put_factor-requires-clause-constant_bound : goal.put_factor-requires-clause-constant_bound
put_factor-requires-clause-constant_bound c =
    let f = c.args.factors in
    let k = c.requires.product in
    binary f k c.as_slice-constants.result.now c.as_slice-constants.ensures c.loop-i.i
    (omega (arith, c.loop-i-test.true, many f k c.as_slice-mask-items.result.now c.as_slice-mask-items.ensures))

pub loop-i-preserved : goal.loop-i-preserved
loop-i-preserved c =
    let l = c.loop-i in
    let f = c.args.factors in
    let k = c.requires.product in
    let cs = c.as_slice-constants in
    let ms = c.as_slice-mask-items in
    let h : l.i < length (product_in f) = omega (arith, c.loop-i-test.true, many f k ms.result.now ms.ensures) in (
      omega arith,
      next f k (set c.args.room.now c.args.at product_kind) l.room c.put_factor.new.room c.args.at l.place l.i (factor (get_or cs.result.now l.i 0) (get_or ms.result.now l.i 0))
          (pair f k cs.result.now ms.result.now cs.ensures ms.ensures l.i h) h l.invariant.0 l.invariant.1 c.put_factor.ensures,
    )

pub returns : goal.returns
returns c =
    let l = c.loop-i in
    let f = c.args.factors in
    let k = c.requires.product in
    let n = many f k c.as_slice-mask-items.result.now c.as_slice-mask-items.ensures in record {
      value = omega (arith, n, c.loop-i-test.false, l.auto.i-end, l.invariant.0);
      room_after = whole f k c.args.room.now l.room c.args.at l.i (omega (arith, n, c.loop-i-test.false)) l.invariant.1;
    }
