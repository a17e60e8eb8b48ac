-- The value of a form as a loop meets it, a record more at a time: what is known of the product that the loop is in, then what follows.
-- Read next: Answering.
use mathlib.Core.Path.{◌≡◌, refl, sym, ap, ◌∙◌}
use mathlib.Core.Bool.{Bool, true, false, ◌&&◌, ◌||◌}
use mathlib.Core.Logic.{◌≢◌}
use mathlib.Core.List.{List, [], ◌∷◌}
use Prim.Native.Nat.{ℕ, ◌≤◌, ◌<◌, ◌+◌}
use native.Mathlib.Omega.{arith}
use lib.ListN.{length, drop, get_or, length-drop}
use lib.Seq.{get_or-drop, drop-drop}
use Rattle.records.specs.Kinds.{product_kind, factor_kind}
use Rattle.product.specs.Product.{Factor, factor_at, product_at, some_product_at}
use Rattle.form.specs.Decoding.{factor_of, Parts, no_parts, parts_from}
use Rattle.form.proofs.Laying.{Laying, ends, begins, holds, LaidAs, form}
use Rattle.form.proofs.Encodings.{parts-end, parts-product, parts-factor}

-- The value of what is left, once it is known whether the product that the loop is in holds the point so far.
unfoldable pub value_from : Bool → Parts → ℕ → Bool
value_from inside p w = (inside && product_at p.factors w) || some_product_at p.products w

-- Before the first product, only the products count.
pub value-first : (p : Parts) (w : ℕ) → value_from false p w ≡ some_product_at p.products w
unfolding value_from
value-first p w = refl

value-product : (inside : Bool) (fs : List Factor) (ps : List (List Factor)) (w : ℕ)
    → value_from inside (record { factors = []; products = fs ∷ ps }) w ≡ inside || value_from true (record { factors = fs; products = ps }) w
unfolding value_from product_at some_product_at
value-product true fs ps w = refl
value-product false fs ps w = refl

value-factor : (inside : Bool) (f : Factor) (p : Parts) (w : ℕ)
    → value_from inside (record { factors = f ∷ p.factors; products = p.products }) w ≡ value_from (inside && factor_at f w) p w
unfolding value_from product_at
value-factor true f p w = refl
value-factor false f p w = refl

value-end : (inside : Bool) (w : ℕ) → value_from inside no_parts w ≡ inside
unfolding value_from product_at some_product_at
value-end true w = refl
value-end false w = refl

-- The bytes are the rest of a form.
pub record Rest (bytes : List ℕ) : Type 0 where
  pub variables : ℕ
  pub all : ℕ
  pub products : ℕ
  pub earlier : List Factor
  pub laying : Laying variables bytes products earlier all

pub rest : {n : ℕ} {bytes : List ℕ} {products : ℕ} {earlier : List Factor} {all : ℕ} → Laying n bytes products earlier all → Rest bytes
rest {n} {bytes} {products} {earlier} {all} l = record { variables = n; all = all; products = products; earlier = earlier; laying = l }

pub rest-first : {bytes : List ℕ} {all : ℕ} → LaidAs bytes all → Rest (drop 2 bytes)
rest-first (form q b r) = rest r

-- ---- each record, by its kind

some : {n : ℕ} {l : List ℕ} {products : ℕ} {earlier : List Factor} {all : ℕ} → Laying n l products earlier all → 0 < length l
some (ends q w a) = omega arith
some (begins q h r) = omega arith
some (holds q nz f a r) = omega arith

product-next : {n : ℕ} {l : List ℕ} {products : ℕ} {earlier : List Factor} {all : ℕ} → Laying n l products earlier all → get_or l 0 0 ≡ product_kind
    → Rest (drop 1 l) × (parts_from 0 l ≡ record { factors = []; products = (parts_from 0 (drop 1 l)).factors ∷ (parts_from 0 (drop 1 l)).products })
product-next (ends q w a) p = absurd (omega arith)
product-next (begins {byte = byte} {rest = tail} q h r) p = (rest r, parts-product byte tail q)
product-next (holds q nz f a r) p = absurd (omega arith)

factor-next : {n : ℕ} {l : List ℕ} {products : ℕ} {earlier : List Factor} {all : ℕ} → Laying n l products earlier all → get_or l 0 0 ≡ factor_kind
    → (4 ≤ length l) × Rest (drop 4 l) × (parts_from 0 l ≡ record { factors = factor_of (drop 1 l) ∷ (parts_from 0 (drop 4 l)).factors; products = (parts_from 0 (drop 4 l)).products })
factor-next (ends q w a) p = absurd (omega arith)
factor-next (begins q h r) p = absurd (omega arith)
factor-next (holds {byte = byte} {constant = constant} {low = low} {high = high} {rest = tail} q nz f a r) p = (omega arith, rest r, parts-factor byte constant low high tail q)

end-next : {n : ℕ} {l : List ℕ} {products : ℕ} {earlier : List Factor} {all : ℕ} → Laying n l products earlier all → get_or l 0 0 ≢ product_kind → get_or l 0 0 ≢ factor_kind → parts_from 0 l ≡ no_parts
end-next (ends {byte = byte} {low = low} {high = high} q w a) p f = parts-end byte (low ∷ high ∷ []) q
end-next (begins q h r) p f = absurd (p q)
end-next (holds q nz g a r) p f = absurd (f q)

-- The same at a place of the bytes, with the value of what is left there.
module _ (bytes : List ℕ) (place : ℕ) (r : Rest (drop place bytes)) where
  pub rest-there : place < length bytes
  rest-there = omega (arith, some r.laying, length-drop place bytes)

  kind_at : get_or (drop place bytes) 0 0 ≡ get_or bytes place 0
  kind_at = let same : place + 0 ≡ place = omega arith in get_or-drop place bytes 0 0 ∙ ap (λ (p : ℕ). get_or bytes p 0) same

  pub product_there : get_or bytes place 0 ≡ product_kind
      → Rest (drop (place + 1) bytes) × ((inside : Bool) (w : ℕ) → value_from inside (parts_from 0 (drop place bytes)) w ≡ inside || value_from true (parts_from 0 (drop (place + 1) bytes)) w)
  product_there q =
      let h = product-next r.laying (kind_at ∙ q) in
      let on = drop-drop 1 place bytes in
      (rw on at h.0, λ inside w. ap (λ (p : Parts). value_from inside p w) h.1 ∙ rw on (value-product inside (parts_from 0 (drop (place + 1) bytes)).factors (parts_from 0 (drop (place + 1) bytes)).products w))

  pub factor-at : get_or bytes place 0 ≡ factor_kind
      → (place + 4 ≤ length bytes) × Rest (drop (place + 4) bytes)
      × ((inside : Bool) (w : ℕ) → value_from inside (parts_from 0 (drop place bytes)) w ≡ value_from (inside && factor_at (factor_of (drop (place + 1) bytes)) w) (parts_from 0 (drop (place + 4) bytes)) w)
  factor-at q =
      let h = factor-next r.laying (kind_at ∙ q) in
      let on = drop-drop 4 place bytes in
      let body = drop-drop 1 place bytes in (
        omega (arith, h.0, length-drop place bytes),
        rw on at h.1,
        λ inside w. ap (λ (p : Parts). value_from inside p w) h.2 ∙ rw (on, body) (value-factor inside (factor_of (drop (place + 1) bytes)) (parts_from 0 (drop (place + 4) bytes)) w),
      )

  pub end-at : get_or bytes place 0 ≢ product_kind → get_or bytes place 0 ≢ factor_kind → (inside : Bool) (w : ℕ) → value_from inside (parts_from 0 (drop place bytes)) w ≡ inside
  end-at p f inside w = ap (λ (q : Parts). value_from inside q w) (end-next r.laying (λ e. p (sym kind_at ∙ e)) (λ e. f (sym kind_at ∙ e))) ∙ value-end inside w
