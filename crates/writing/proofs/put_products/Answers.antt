-- `writing::put_products` meets its contract: the products of the candidates passed are written one behind the other. Assumes nothing.
use mathlib.Core.Path.{◌≡◌, refl, sym, ap, ◌∙◌, subst}
use mathlib.Core.List.{List, [], ◌∷◌}
use Prim.Native.Nat.{ℕ, ◌+◌, ◌≤◌, ◌<◌}
use native.Mathlib.Numerals.{add-one}
use native.Mathlib.Omega.{arith}
use lib.ListN.{length, get_or}
use lib.Seq.{sets, length-sets}
use Rattle.basis.specs.Short.{listed}
use Rattle.product.specs.Product.{Factor}
use Rattle.form.specs.Encoding.{encode_products}
use Rattle.bases.proofs.Entry.{entry-candidate}
use Rattle.choice.specs.declared.Choice.{Choice}
use Rattle.cubes.specs.Cubes.{IsCandidate}
use Rattle.cover.specs.WrittenForm.{product_by}
use Rattle.choice.specs.declared.Prime.{Prime}
use Rattle.choice.specs.Search.{candidate_of}
use Rattle.choice.specs.Chosen.{no_prime, prime_in, chosen_at, chosen_by, products_by, IsChoice}
use Rattle.choice.proofs.Products.{product_at, item-below, item-at}
use Rattle.factors.specs.declared.FactorList.{FactorList}
use Rattle.factors.specs.Factors.{factors_of, product_in, IsProduct}
use Rattle.factors.proofs.Products.{product-back, is-product, product-binary}
use Rattle.writing.specs.Products.{product_length, products_length, form_length}
use Rattle.table.proofs.Fill.{sets-append}
use Rattle.writing.proofs.Lengths.{lengths-grow, bytes_next, product-length-at, products-length}
use Rattle.writing.proofs.put_products.Goals as goal
use Rattle.writing.proofs.put_products.Goals.{In-loop-prime}

-- The product of the next candidate, as a value.
module _ (es : List ℕ) (m : ℕ) (r : Choice) (h : IsChoice m r) (i : ℕ) (l : i < r.count) (v : FactorList) (e : v ≡ factors_of (product_at es m r i)) where
  is : IsProduct v
  is = subst IsProduct (sym e) (is-product (product_at es m r i) (product-binary es m (chosen_at r i) (entry-candidate (h.entry i l))))

  in-it : product_in v ≡ product_at es m r i
  in-it = ap product_in e ∙ product-back (product_at es m r i)

  -- The place behind it, which is still in the room.
  behind : (at : ℕ) → at ≡ 2 + products_length m r.primes i → at + product_length (length (product_in v)) ≡ 2 + products_length m r.primes (i + 1)
  unfolding products_length
  behind at a =
      let q = ap length in-it ∙ product-length-at es m r h i l in
      rw (a, q, add-one) (omega arith)

  fits : (at room : ℕ) → at ≡ 2 + products_length m r.primes i → form_length m r ≤ room → at + product_length (length (product_in v)) ≤ room
  fits at room a f = omega (arith, behind at a, lengths-grow m r.primes (i + 1) r.count (omega arith))

  -- It is written behind those before it.
  next : (room done later : List ℕ) (at : ℕ) → at ≡ 2 + products_length m r.primes i → done ≡ sets room 2 (encode_products (products_by es m r i))
      → later ≡ sets done at (encode_products (product_in v ∷ [])) → later ≡ sets room 2 (encode_products (products_by es m r (i + 1)))
  next room done later at a d q =
      let before = encode_products (products_by es m r i) in
      let more = encode_products (product_at es m r i ∷ []) in
      q ∙ ap (λ (p : List Factor). sets done at (encode_products (p ∷ []))) in-it
      ∙ ap (λ (x : List ℕ). sets x at more) d
      ∙ sets-append room 2 before more at (a ∙ ap (λ (z : ℕ). 2 + z) (sym (products-length es m r h i (omega arith))))
      ∙ rw add-one (ap (sets room 2) (sym (bytes_next es m r i)))

pub loop-prime-init : goal.loop-prime-init
unfolding products_length encode_products products_by chosen_by
loop-prime-init c = (refl, refl)

-- The prime at the index is that of the choice, and its product is the value.
below : (c : In-loop-prime) → c.loop-prime.prime-index < c.args.choice.now.count
below c = item-below c.args.choice.now c.as_slice-prime-items.result.now c.as_slice-prime-items.ensures.primes c.loop-prime.prime-index c.loop-prime-test.true

same : (c : In-loop-prime) → get_or c.as_slice-prime-items.result.now c.loop-prime.prime-index no_prime ≡ prime_in c.args.choice.now c.loop-prime.prime-index
same c = item-at c.args.choice.now c.as_slice-prime-items.result.now c.as_slice-prime-items.ensures.primes c.loop-prime.prime-index c.loop-prime-test.true

valued : (es : List ℕ) (m : ℕ) (p q : Prime) → p ≡ q → (v : FactorList) → v ≡ factors_of (product_by es m (candidate_of p)) → v ≡ factors_of (product_by es m (candidate_of q))
valued es m p q e v h = h ∙ ap (λ z. factors_of (product_by es m (candidate_of z))) e

-- The room is as long as it was.
long : (products room done : List ℕ) → done ≡ sets room 2 products → length done ≡ length room
long products room done e = ap length e ∙ length-sets room 2 products

pub product_of-product-requires-clause-candidate : goal.product_of-product-requires-clause-candidate
product_of-product-requires-clause-candidate c =
    let p = (goal.at.product_of-product-requires-clause-candidate c).In-loop-prime in
    subst (λ (z : Prime). IsCandidate c.args.m (candidate_of z)) (sym (same p)) (entry-candidate (c.requires.choice.entry c.loop-prime.prime-index (below p)))

pub put_product-at-requires : goal.put_product-at-requires
put_product-at-requires c =
    let p = (goal.at.put_product-at-requires c).In-loop-prime in
    let a = c.args in
    let l = c.loop-prime in
    let v = c.product_of-product in
    let es = listed a.equations in
    let e = valued es a.m (get_or c.as_slice-prime-items.result.now l.prime-index no_prime) (prime_in a.choice.now l.prime-index) (same p) v.result v.ensures in record {
      product = is es a.m a.choice.now c.requires.choice l.prime-index (below p) v.result e;
      factors_in_bounds = fits es a.m a.choice.now c.requires.choice l.prime-index (below p) v.result e l.at (length l.room) l.invariant.0
          (omega (arith, c.requires.choice_in_bounds, long (encode_products (products_by es a.m a.choice.now l.prime-index)) a.room.now l.room l.invariant.1));
    }

pub loop-prime-preserved : goal.loop-prime-preserved
loop-prime-preserved c =
    let p = (goal.at.loop-prime-preserved c).In-loop-prime in
    let a = c.args in
    let l = c.loop-prime in
    let v = c.product_of-product in
    let es = listed a.equations in
    let e = valued es a.m (get_or c.as_slice-prime-items.result.now l.prime-index no_prime) (prime_in a.choice.now l.prime-index) (same p) v.result v.ensures in
    let w = c.put_product-at in (
      w.ensures.value ∙ behind es a.m a.choice.now c.requires.choice l.prime-index (below p) v.result e l.at l.invariant.0,
      next es a.m a.choice.now c.requires.choice l.prime-index (below p) v.result e a.room.now l.room w.new.room l.at l.invariant.0 l.invariant.1 w.ensures.room_after,
    )

pub returns : goal.returns
returns c =
    let a = c.args in
    let l = c.loop-prime in
    let e : l.prime-index ≡ a.choice.now.count = omega (arith, c.as_slice-prime-items.ensures.number, c.loop-prime-test.false, l.auto.prime-index-end) in record {
      value = l.invariant.0 ∙ ap (λ (k : ℕ). 2 + products_length a.m a.choice.now.primes k) e;
      room_after = l.invariant.1 ∙ ap (λ (k : ℕ). sets a.room.now 2 (encode_products (products_by (listed a.equations) a.m a.choice.now k))) e;
    }
