-- The bytes of a form with a product more or one fewer: what is kept of the old form, the product, and the end record (`appended-written`, `removed-written`).
-- Read next: Faulting.
use mathlib.Core.Path.{◌≡◌, refl, sym, ap, ap₂, ◌∙◌}
use mathlib.Core.List.{List, [], ◌∷◌, ◌++◌, append_assoc, append-nil}
use Prim.Native.Nat.{ℕ, ◌+◌, ◌-◌, ◌≤◌}
use native.Mathlib.Omega.{arith}
use lib.ListN.{length, take, get_or, length-append}
use lib.Seq.{take_at, get_or-append-add, length-take-le}
use Rattle.records.specs.Kinds.{variables_kind, Bytes, word_of, word_record_length, encode_end}
use Rattle.records.proofs.KindBytes.{word-of-bytes}
use Rattle.product.specs.Product.{Factor}
use Rattle.form.specs.Encoding.{encode_products, encode_product, encode_form}
use Rattle.form.specs.Decoding.{form_variables, form_products, decode_product}
use Rattle.form.specs.Refusal.{IsForm, IsProduct}
use Rattle.form.proofs.Encodings.{rewritten-same}
use Rattle.form.proofs.Alone.{product-laid}
use Rattle.index.specs.Answers.{appended_bytes, without_last, last_of, removed_bytes, last_place}
use Rattle.index.proofs.Records.{last_apart}

products-append : (ps qs : List (List Factor)) → encode_products (ps ++ qs) ≡ encode_products ps ++ encode_products qs
unfolding encode_products
products-append [] qs = refl
products-append (p ∷ ps) qs = rw (products-append ps qs) (sym (append_assoc (encode_product p) (encode_products ps) (encode_products qs)))

one_product : (p : List Factor) → encode_products (p ∷ []) ≡ encode_product p
unfolding encode_products
one_product p = append-nil (encode_product p)

-- A form up to its end record.
abbrev front_of : ℕ → List (List Factor) → List ℕ
front_of n ps = variables_kind ∷ n ∷ encode_products ps

front-more : (n : ℕ) (ps : List (List Factor)) (p : List Factor) → front_of n (ps ++ (p ∷ [])) ≡ front_of n ps ++ encode_product p
front-more n ps p = ap (λ (l : List ℕ). variables_kind ∷ n ∷ l) (products-append ps (p ∷ []) ∙ ap (λ (l : List ℕ). encode_products ps ++ l) (one_product p))

module _ (form : List ℕ) (b : Bytes form) (h : IsForm form) where
  abbrev n : ℕ
  n = form_variables form

  abbrev ps : List (List Factor)
  ps = form_products form

  -- An accepted form is its front and its end record.
  form-parts : form ≡ front_of n ps ++ encode_end (length ps)
  unfolding encode_form
  form-parts = sym (rewritten-same form b h)

  pub front_length : length (front_of n ps) + word_record_length ≡ length form
  front_length = sym (ap length form-parts ∙ length-append (front_of n ps) (encode_end (length ps)))

  -- The end record has the number of products.
  pub count-read : (end : ℕ) → end + word_record_length ≡ length form → word_of (get_or form (end + 1) 0) (get_or form (end + 2) 0) ≡ length ps
  count-read end e =
      let same : end ≡ length (front_of n ps) = omega (arith, front_length) in
      let at : (i : ℕ) → get_or form (end + i) 0 ≡ get_or (encode_end (length ps)) i 0
      = λ i. ap₂ (λ (l : List ℕ) (k : ℕ). get_or l (k + i) 0) form-parts same ∙ get_or-append-add (front_of n ps) (encode_end (length ps)) i 0 in
      ap₂ word_of (at 1) (at 2) ∙ word-of-bytes (length ps)

  -- What is kept of it when a product is appended, and when the last one is taken away.
  kept-all : (end : ℕ) → end + word_record_length ≡ length form → take end form ≡ front_of n ps
  kept-all end e = ap (take end) form-parts ∙ take_at (front_of n ps) (encode_end (length ps)) end (omega (arith, front_length))

  pub appended-written : (product : List ℕ) → Bytes product → IsProduct n product → (end : ℕ) → end + word_record_length ≡ length form
      → appended_bytes form product ≡ (take end form ++ product) ++ encode_end (length ps + 1)
  unfolding appended_bytes encode_form
  appended-written product c g end e =
      let p = decode_product product in
      let count : length (ps ++ (p ∷ [])) ≡ length ps + 1 = length-append ps (p ∷ []) in
      let written : encode_product p ≡ product = sym ((product-laid n product g).written c) in
      ap₂ (λ (l : List ℕ) (k : ℕ). l ++ encode_end k)
      (front-more n ps p ∙ ap₂ ◌++◌ (sym (kept-all end e)) written) count

  pub removed-written : 1 ≤ length ps → removed_bytes form ≡ (take (last_place form) form ++ []) ++ encode_end (length ps - 1)
  unfolding removed_bytes encode_form last_place
  removed-written s =
      let qs = without_last ps in
      let p = last_of [] ps in
      let apart = last_apart [] ps s in
      let count : length qs ≡ length ps - 1 = omega (arith, ap length apart, length-append qs (p ∷ [])) in
      let whole : form ≡ front_of n qs ++ (encode_product p ++ encode_end (length ps))
      = form-parts ∙ ap (λ (l : List ℕ). l ++ encode_end (length ps)) (ap (front_of n) apart ∙ front-more n qs p) ∙ append_assoc (front_of n qs) (encode_product p) (encode_end (length ps)) in
      let kept : take (last_place form) form ≡ front_of n qs = ap (take (last_place form)) whole ∙ take_at (front_of n qs) (encode_product p ++ encode_end (length ps)) (last_place form) (omega arith) in
      ap₂ (λ (l : List ℕ) (k : ℕ). l ++ encode_end k) (sym (append-nil (front_of n qs)) ∙ ap (λ (l : List ℕ). l ++ []) (sym kept)) count

  pub last_within : 1 ≤ length ps → last_place form + word_record_length ≤ length form
  unfolding last_place
  last_within s =
      let qs = without_last ps in
      let p = last_of [] ps in
      omega (arith, front_length, ap length (ap (front_of n) (last_apart [] ps s) ∙ front-more n qs p), length-append (front_of n qs) (encode_product p))

-- ---- how long they are

pub appended-length : (form product : List ℕ) → Bytes form → IsForm form → Bytes product → IsProduct (form_variables form) product → length (appended_bytes form product) ≡ length form + length product
appended-length form product b h c g =
    let end = length form - word_record_length in
    let e : end + word_record_length ≡ length form = omega (arith, front_length form b h) in
    omega (arith, ap length (appended-written form b h product c g end e), length-append (take end form ++ product) (encode_end (length (form_products form) + 1)), length-append (take end form) product, length-take-le end form (omega arith))

pub removed-length : (form : List ℕ) → length (removed_bytes form) ≡ last_place form + word_record_length
unfolding removed_bytes encode_form last_place
removed-length form = let qs = without_last (form_products form) in omega (arith, length-append (encode_products qs) (encode_end (length qs)))
