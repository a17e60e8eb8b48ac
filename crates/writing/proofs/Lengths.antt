-- Laws of specs.Products: the products of a choice one after the other, and how many bytes they take. Read next: Answers.
use mathlib.Core.Path.{◌≡◌, refl, sym, ap, ◌∙◌}
use mathlib.Core.List.{List, [], ◌∷◌, ◌++◌}
use Prim.Native.Nat.{ℕ, zero, suc, ◌+◌, ◌*◌, ◌-◌, ◌≤◌, ◌<◌}
use native.Mathlib.Decide.{ℕ_discrete}
use native.Mathlib.Omega.{arith}
use lib.ListN.{length, set, length-append}
use lib.Seq.{sets}
use Rattle.records.specs.Kinds.{variables_kind, encode_end}
use Rattle.table.specs.Decision.{front}
use Rattle.form.specs.Encoding.{encode_products, encode_form}
use Rattle.cubes.specs.Records.{max_listed}
use Rattle.bases.proofs.Entry.{vectors-length, entry-candidate}
use Rattle.choice.specs.declared.Choice.{Choice}
use Rattle.choice.specs.declared.Prime.{Prime}
use Rattle.choice.specs.Chosen.{prime_in, chosen_at, chosen_by, products_by, IsChoice}
use Rattle.choice.proofs.Products.{product_at, products-next, products-count}
use Rattle.factors.proofs.Products.{product-factors}
use Rattle.writing.specs.Products.{products_length, form_length}
use Rattle.table.proofs.Fill.{sets-append, sets-front}
use Rattle.writing.proofs.Bytes.{products-append, product-bytes}

-- ---- the lengths alone

-- More products take more bytes.
pub lengths-grow : (m : ℕ) (primes : List Prime) (i k : ℕ) → i ≤ k → products_length m primes i ≤ products_length m primes k
unfolding products_length
lengths-grow m primes i zero h = let q : i ≡ 0 = omega arith in rw q (omega arith)
lengths-grow m primes i (suc k) h = go (ℕ_discrete i (suc k)) (lengths-grow m primes i k)
  where
    go : Dec (i ≡ suc k) → (i ≤ k → products_length m primes i ≤ products_length m primes k) → products_length m primes i ≤ products_length m primes (suc k)
    go (yes q) f = rw q (omega arith)
    go (no q) f = omega (arith, f (omega arith))

-- At most 25 bytes each.
pub lengths-few : (m : ℕ) (primes : List Prime) (k : ℕ) → (0 < k → m ≤ max_listed) → products_length m primes k ≤ 25 * k
unfolding products_length
lengths-few m primes zero h = omega arith
lengths-few m primes (suc k) h = omega (arith, h (omega arith), lengths-few m primes k (λ p. h (omega arith)))

-- ---- the products of a choice

module _ (es : List ℕ) (m : ℕ) (r : Choice) where
  pub bytes_next : (i : ℕ) → encode_products (products_by es m r (suc i)) ≡ encode_products (products_by es m r i) ++ encode_products (product_at es m r i ∷ [])
  bytes_next i = ap encode_products (products-next es m r i) ∙ products-append (products_by es m r i) (product_at es m r i ∷ [])

  module _ (h : IsChoice m r) where
    pub product-length-at : (i : ℕ) → i < r.count → length (product_at es m r i) ≡ m - (prime_in r i).degree
    product-length-at i l =
        product-factors es m (chosen_at r i) (entry-candidate (h.entry i l)) ∙ ap (λ (z : ℕ). m - z) (vectors-length (prime_in r i).degree (prime_in r i).entry)

    pub products-length : (k : ℕ) → k ≤ r.count → length (encode_products (products_by es m r k)) ≡ products_length m r.primes k
    unfolding products_length products_by chosen_by encode_products
    products-length zero l = refl
    products-length (suc k) l =
        let q = product-length-at k l in
        ap length (bytes_next k)
        ∙ omega (
          arith,
          length-append (encode_products (products_by es m r k)) (encode_products (product_at es m r k ∷ [])),
          products-length k (omega arith),
          product-bytes (product_at es m r k),
        )

    pub form-bytes-length : (n : ℕ) → length (encode_form (record { variables = n; products = products_by es m r r.count })) ≡ form_length m r
    unfolding encode_form
    form-bytes-length n = omega (
      arith,
      length-append (encode_products (products_by es m r r.count)) (encode_end (length (products_by es m r r.count))),
      products-length r.count (omega arith),
    )

    -- The records of a form stored one behind the other are the form at the front of the room.
    pub form-stored : (n at : ℕ) (room after last : List ℕ) → at ≡ 2 + products_length m r.primes r.count → form_length m r ≤ length room
        → after ≡ sets (set (set room 0 variables_kind) 1 n) 2 (encode_products (products_by es m r r.count)) → last ≡ sets after at (encode_end r.count)
        → last ≡ front (encode_form (record { variables = n; products = products_by es m r r.count })) room
    unfolding encode_form
    form-stored n at room after last e f p q =
        let ps = products_by es m r r.count in
        q ∙ ap (λ (x : List ℕ). sets x at (encode_end r.count)) p
        ∙ sets-append (set (set room 0 variables_kind) 1 n) 2 (encode_products ps) (encode_end r.count) at (e ∙ ap (λ (z : ℕ). 2 + z) (sym (products-length r.count (omega arith))))
        ∙ ap (λ (z : ℕ). sets room 0 (variables_kind ∷ n ∷ (encode_products ps ++ encode_end z))) (sym (products-count es m r r.count))
        ∙ sets-front room (encode_form (record { variables = n; products = ps })) (omega (arith, form-bytes-length n))
