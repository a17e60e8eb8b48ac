-- The products of bytes as the loops meet them: the factors of a product one after the other, and the products of a form one after the other up to the last.
-- Read next: Forms.
use mathlib.Core.Path.{◌≡◌, refl, sym, ap, ◌∙◌, subst}
use mathlib.Core.Bool.{Bool, true, false, cond, ◌&&◌, and_assoc}
use mathlib.Core.Logic.{◌≢◌}
use mathlib.Core.List.{List, [], ◌∷◌}
use Prim.Native.Nat.{ℕ, ◌+◌, ◌*◌, ◌≤◌, ◌<◌}
use native.Mathlib.Omega.{arith}
use lib.Dec.{eqb}
use lib.ListN.{length, drop, get_or, length-drop, length-append}
use lib.Seq.{get_or-drop, drop-drop}
use borrow.Author.Tests.{eqb-true, eqb-false, ne_eqb}
use Rattle.records.specs.Kinds.{product_kind, factor_kind}
use Rattle.product.specs.Product.{Factor, factor_at, product_at}
use Rattle.form.specs.Decoding.{factor_of, Parts, parts_from, WholeFactors, over, other, further}
use Rattle.form.specs.Counting.{factor_length}
use Rattle.form.specs.Encoding.{encode_factors, encode_products}
use Rattle.form.specs.Refusal.{IsForm}
use Rattle.form.proofs.Laying.{Laying, ends, begins, holds, LaidAs, form, form-laid}
use Rattle.form.proofs.Encodings.{parts-end, parts-product, parts-factor, laying-first}
use Rattle.form_calls.proofs.Valuing.{Rest, rest}
use Rattle.index.specs.Changes.{factors_of_product, factor_begins, WholeProduct}
use Rattle.index.specs.Answers.{without_last, last_of}

-- The byte at a place is the first of those from there on.
byte_at : (bytes : List ℕ) (place : ℕ) → get_or (drop place bytes) 0 0 ≡ get_or bytes place 0
byte_at bytes place = let same : place + 0 ≡ place = omega arith in get_or-drop place bytes 0 0 ∙ ap (λ (p : ℕ). get_or bytes p 0) same

-- ---- the factors of a product

-- A factor at the front is whole, and the others follow it.
front-factor : {l : List ℕ} → WholeFactors l → get_or l 0 0 ≡ factor_kind
    → (factor_length ≤ length l) × WholeFactors (drop factor_length l) × ((parts_from 0 l).factors ≡ factor_of (drop 1 l) ∷ (parts_from 0 (drop factor_length l)).factors)
front-factor over e = absurd (omega arith)
front-factor (other n) e = absurd (n e)
front-factor (further {byte = byte} {constant = constant} {low = low} {high = high} {rest = rest} q w) e =
    (omega arith, w, ap (λ (p : Parts). p.factors) (parts-factor byte constant low high rest q))

-- Without one at the front there are none.
front-other : {l : List ℕ} → WholeFactors l → get_or l 0 0 ≢ factor_kind → (parts_from 0 l).factors ≡ []
unfolding parts_from
front-other over n = refl
front-other (other {byte = byte} {rest = rest} q) n = rw (ne_eqb byte factor_kind q) (go (eqb byte product_kind))
  where
    go : (t : Bool) → (cond {A = Parts} t (record { factors = []; products = (parts_from 0 rest).factors ∷ (parts_from 0 rest).products }) (record { factors = []; products = [] })).factors ≡ []
    go true = refl
    go false = refl
front-other (further q w) n = absurd (n q)

module _ (bytes : List ℕ) (at : ℕ) (whole : WholeFactors (drop at bytes)) where
  pub factor-there : factor_begins bytes at ≡ true
      → (at + factor_length ≤ length bytes) × WholeFactors (drop (at + factor_length) bytes) × ((parts_from 0 (drop at bytes)).factors ≡ factor_of (drop (at + 1) bytes) ∷ (parts_from 0 (drop (at + factor_length) bytes)).factors)
  unfolding factor_begins
  factor-there e =
      let h = front-factor whole (byte_at bytes at ∙ eqb-true (get_or bytes at 0) factor_kind e) in
      (omega (arith, h.0, length-drop at bytes), rw (drop-drop factor_length at bytes) at h.1, rw (drop-drop factor_length at bytes, drop-drop 1 at bytes) at h.2)

  pub factors-over : factor_begins bytes at ≡ false → (parts_from 0 (drop at bytes)).factors ≡ []
  unfolding factor_begins
  factors-over e = front-other whole (λ q. eqb-false (get_or bytes at 0) factor_kind e (sym (byte_at bytes at) ∙ q))

-- A product holds a point if its factors so far do and those that are left do.
pub held_next : (t : Bool) (f : Factor) (fs : List Factor) (w : ℕ) → t && product_at (f ∷ fs) w ≡ (t && factor_at f w) && product_at fs w
unfolding product_at
held_next t f fs w = sym (and_assoc t (factor_at f w) (product_at fs w))

pub held_none : (w : ℕ) → product_at [] w ≡ true
unfolding product_at
held_none w = refl

-- ---- the products of a form

laying-whole : {n : ℕ} {l : List ℕ} {products : ℕ} {earlier : List Factor} {all : ℕ} → Laying n l products earlier all → WholeFactors l
laying-whole (ends {byte = byte} q w a) = other {byte = byte} (λ e. omega (arith, q, e))
laying-whole (begins {byte = byte} q h r) = other {byte = byte} (λ e. omega (arith, q, e))
laying-whole (holds q nz f a r) = further q (laying-whole r)

-- The bytes are the rest of a form, and no factor is left of the product before them.
pub record Begun (bytes : List ℕ) : Type 0 where
  pub left : Rest bytes
  pub none : (parts_from 0 bytes).factors ≡ []

-- So it is where the first product of a form may begin.
pub first-begun : (bytes : List ℕ) → IsForm bytes → Begun (drop 2 bytes)
first-begun bytes h = go (form-laid bytes h).1
  where
    go : {l : List ℕ} {all : ℕ} → LaidAs l all → Begun (drop 2 l)
    go (form q b r) = record { left = rest r; none = laying-first refl r }

-- Past the factors that are left of a product, the other products follow.
record Past (l : List ℕ) : Type 0 where
  begun : Begun (drop (factor_length * length (parts_from 0 l).factors) l)
  products : (parts_from 0 l).products ≡ (parts_from 0 (drop (factor_length * length (parts_from 0 l).factors) l)).products

past-none : {l : List ℕ} → Rest l → (parts_from 0 l).factors ≡ [] → Past l
past-none {l} r e =
    let none : factor_length * length (parts_from 0 l).factors ≡ 0 = ap (λ (fs : List Factor). factor_length * length fs) e in
    record { begun = subst (λ (k : ℕ). Begun (drop k l)) (sym none) (record { left = r; none = e }); products = ap (λ (k : ℕ). (parts_from 0 (drop k l)).products) (sym none) }

past : {n : ℕ} {l : List ℕ} {products : ℕ} {earlier : List Factor} {all : ℕ} → Laying n l products earlier all → Past l
past {n = n} {products = products} {earlier = earlier} {all = all} (ends {byte = byte} {low = low} {high = high} q w a) = past-none (rest {n = n} {products = products} {earlier = earlier} {all = all} (ends q w a)) (ap (λ (p : Parts). p.factors) (parts-end byte (low ∷ high ∷ []) q))
past {n = n} {products = products} {earlier = earlier} {all = all} (begins {byte = byte} {rest = tail} q h r) = past-none (rest {n = n} {products = products} {earlier = earlier} {all = all} (begins q h r)) (ap (λ (p : Parts). p.factors) (parts-product byte tail q))
past (holds {byte = byte} {constant = constant} {low = low} {high = high} {rest = tail} q nz f a r) =
    let read = parts-factor byte constant low high tail q in
    let later = past r in
    let fs = (parts_from 0 tail).factors in
    let l = byte ∷ constant ∷ low ∷ high ∷ tail in
    let long : factor_length * length (parts_from 0 l).factors ≡ factor_length + factor_length * length fs = ap (λ (p : Parts). factor_length * length p.factors) read ∙ omega arith in
    let same : drop (factor_length * length (parts_from 0 l).factors) l ≡ drop (factor_length * length fs) tail = ap (λ (k : ℕ). drop k l) long ∙ sym (drop-drop (factor_length * length fs) factor_length l) in
    record { begun = subst Begun (sym same) later.begun; products = ap (λ (p : Parts). p.products) read ∙ later.products ∙ ap (λ (t : List ℕ). (parts_from 0 t).products) (sym same) }

-- A product that begins: its factors are whole, and past them the other products follow.
front-product : {n : ℕ} {l : List ℕ} {products : ℕ} {earlier : List Factor} {all : ℕ} → Laying n l products earlier all → get_or l 0 0 ≡ product_kind
    → (0 < length l) × WholeFactors (drop 1 l) × Past (drop 1 l) × ((parts_from 0 l).products ≡ (parts_from 0 (drop 1 l)).factors ∷ (parts_from 0 (drop 1 l)).products)
front-product (ends q w a) e = absurd (omega (arith, q, e))
front-product (begins {byte = byte} {rest = tail} q h r) e = (omega arith, laying-whole r, past r, ap (λ (p : Parts). p.products) (parts-product byte tail q))
front-product (holds q nz f a r) e = absurd (omega (arith, q, e))

-- Where none begins, none is left.
front-end : {n : ℕ} {l : List ℕ} {products : ℕ} {earlier : List Factor} {all : ℕ} → Laying n l products earlier all → (parts_from 0 l).factors ≡ [] → get_or l 0 0 ≢ product_kind → (parts_from 0 l).products ≡ []
front-end (ends {byte = byte} {low = low} {high = high} q w a) z e = ap (λ (p : Parts). p.products) (parts-end byte (low ∷ high ∷ []) q)
front-end (begins q h r) z e = absurd (e q)
front-end (holds {byte = byte} {constant = constant} {low = low} {high = high} {rest = tail} q nz f a r) z e =
    absurd (omega (arith, ap length (sym (ap (λ (p : Parts). p.factors) (parts-factor byte constant low high tail q)) ∙ z)))

-- Where the record after the last factor of the product at the place begins.
abbrev pub next_product : List ℕ → ℕ → ℕ
next_product bytes place = place + 1 + factor_length * length (factors_of_product bytes place)

module _ (bytes : List ℕ) (place : ℕ) (b : Begun (drop place bytes)) where
  pub product-there : get_or bytes place 0 ≡ product_kind
      → WholeProduct bytes place × Begun (drop (next_product bytes place) bytes) × ((parts_from 0 (drop place bytes)).products ≡ factors_of_product bytes place ∷ (parts_from 0 (drop (next_product bytes place) bytes)).products)
  product-there e =
      let h = front-product b.left.laying (byte_at bytes place ∙ e) in
      let on = drop-drop 1 place bytes in
      let beyond = drop-drop (factor_length * length (factors_of_product bytes place)) (place + 1) bytes in
      let p : Past (drop (place + 1) bytes) = subst Past on h.2 in (
        (omega (arith, h.0, length-drop place bytes), subst WholeFactors on h.1),
        subst Begun beyond p.begun,
        h.3 ∙ ap (λ (l : List ℕ). (parts_from 0 l).factors ∷ (parts_from 0 l).products) on ∙ ap (λ (ps : List (List Factor)). factors_of_product bytes place ∷ ps) (p.products ∙ ap (λ (l : List ℕ). (parts_from 0 l).products) beyond),
      )

  pub products-over : get_or bytes place 0 ≢ product_kind → (parts_from 0 (drop place bytes)).products ≡ []
  products-over e = front-end b.left.laying b.none (λ q. e (sym (byte_at bytes place) ∙ q))

  -- Where a product is left, one begins.
  pub product-byte : 1 ≤ length (parts_from 0 (drop place bytes)).products → get_or bytes place 0 ≡ product_kind
  product-byte h = go (eqb (get_or bytes place 0) product_kind) refl
    where
      go : (t : Bool) → eqb (get_or bytes place 0) product_kind ≡ t → get_or bytes place 0 ≡ product_kind
      go true e = eqb-true (get_or bytes place 0) product_kind e
      go false e = absurd (omega (arith, h, ap length (products-over (eqb-false (get_or bytes place 0) product_kind e))))

-- ---- the last product

-- The first element of a list, or the given one.
abbrev head_or : {A : Type 0} → A → List A → A
head_or d [] = d
head_or d (x ∷ l) = x

factors-length : (fs : List Factor) → length (encode_factors fs) ≡ factor_length * length fs
unfolding encode_factors
factors-length [] = refl
factors-length (f ∷ fs) = omega (arith, factors-length fs)

-- The products before the last are so many bytes; a product before others adds its own.
abbrev pub lasts_length : List (List Factor) → ℕ
lasts_length ps = length (encode_products (without_last ps))

lasts-more : (p q : List Factor) (ps : List (List Factor)) → lasts_length (p ∷ q ∷ ps) ≡ 1 + factor_length * length p + lasts_length (q ∷ ps)
unfolding encode_products
lasts-more p q ps = omega (arith, length-append (encode_factors p) (encode_products (without_last (q ∷ ps))), factors-length p)

pub lasts-next : (p : List Factor) (ps : List (List Factor)) → 1 ≤ length ps → lasts_length (p ∷ ps) ≡ 1 + factor_length * length p + lasts_length ps
lasts-next p [] h = absurd (omega arith)
lasts-next p (q ∷ ps) h = lasts-more p q ps

pub lasts-one : (ps : List (List Factor)) → length ps ≡ 1 → lasts_length ps ≡ 0
unfolding encode_products
lasts-one [] h = absurd (omega arith)
lasts-one (p ∷ []) h = refl
lasts-one (p ∷ q ∷ ps) h = absurd (omega arith)

-- Past those bytes the last product stands.
pub last-there : (bytes : List ℕ) (ps : List (List Factor)) (place : ℕ) → Begun (drop place bytes) → (parts_from 0 (drop place bytes)).products ≡ ps → 1 ≤ length ps
    → WholeProduct bytes (place + lasts_length ps) × (factors_of_product bytes (place + lasts_length ps) ≡ last_of [] ps)
last-there bytes [] place b e h = absurd (omega arith)
last-there bytes (p ∷ []) place b e h =
    let there = product-there bytes place b (product-byte bytes place b (rw e (omega arith))) in
    let same : place + lasts_length (p ∷ []) ≡ place = omega (arith, lasts-one (p ∷ []) refl) in
    let first : factors_of_product bytes place ∷ (parts_from 0 (drop (next_product bytes place) bytes)).products ≡ p ∷ [] = sym there.2 ∙ e in
    subst (λ (k : ℕ). WholeProduct bytes k × (factors_of_product bytes k ≡ p)) (sym same) (there.0, ap (head_or []) first)
last-there bytes (p ∷ q ∷ ps) place b e h =
    let there = product-there bytes place b (product-byte bytes place b (rw e (omega arith))) in
    let all : factors_of_product bytes place ∷ (parts_from 0 (drop (next_product bytes place) bytes)).products ≡ p ∷ q ∷ ps = sym there.2 ∙ e in
    let first : factors_of_product bytes place ≡ p = ap (head_or []) all in
    let same : next_product bytes place + lasts_length (q ∷ ps) ≡ place + lasts_length (p ∷ q ∷ ps) = omega (arith, ap (λ (fs : List Factor). factor_length * length fs) first, lasts-more p q ps) in
    subst (λ (k : ℕ). WholeProduct bytes k × (factors_of_product bytes k ≡ last_of q ps)) same (last-there bytes (q ∷ ps) (next_product bytes place) there.1 (ap (drop 1) all) (omega arith))

-- ---- a product that is left

-- It begins at the place, and past it the next one does; the last one is no further away than before.
module _ (bytes : List ℕ) (place : ℕ) (b : Begun (drop place bytes)) where
  pub product-left : 1 ≤ length (parts_from 0 (drop place bytes)).products
      → WholeProduct bytes place × Begun (drop (next_product bytes place) bytes) × ((parts_from 0 (drop place bytes)).products ≡ factors_of_product bytes place ∷ (parts_from 0 (drop (next_product bytes place) bytes)).products)
  product-left h = product-there bytes place b (product-byte bytes place b h)

  pub lasts-nearer : 2 ≤ length (parts_from 0 (drop place bytes)).products
      → next_product bytes place + lasts_length (parts_from 0 (drop (next_product bytes place) bytes)).products ≡ place + lasts_length (parts_from 0 (drop place bytes)).products
  lasts-nearer h =
      let p = factors_of_product bytes place in
      let ps = (parts_from 0 (drop (next_product bytes place) bytes)).products in
      let there = product-left (omega (arith, h)) in
      let some : 1 ≤ length ps = omega (arith, h, ap length there.2) in
      omega (arith, ap lasts_length there.2, lasts-next p ps some)
