-- Bytes stored at growing places: records one behind the other, and their lengths. Read next: Lengths.
use mathlib.Core.Path.{◌≡◌, refl, sym, ap, ◌∙◌}
use mathlib.Core.List.{List, [], ◌∷◌, ◌++◌, append_assoc}
use Prim.Native.Nat.{ℕ, ◌+◌, ◌*◌, ◌<◌}
use native.Mathlib.Numerals.{add-one}
use native.Mathlib.Omega.{arith}
use lib.ListN.{length, take, set, get_or, length-set, length-append}
use lib.Seq.{sets, length-sets, take-suc}
use Rattle.records.specs.Kinds.{product_kind}
use Rattle.product.specs.Product.{Factor, factor}
use Rattle.form.specs.Encoding.{encode_factors, encode_products}
use Rattle.writing.specs.Products.{product_length}

-- ---- stores

-- Stores leave the length: two single ones at the front, then bytes behind them.
pub stored-length : (room : List ℕ) (first second : ℕ) (bytes after : List ℕ) → after ≡ sets (set (set room 0 first) 1 second) 2 bytes → length after ≡ length room
stored-length room first second bytes after e = ap length e ∙ simp (length-sets, length-set)

-- ---- records

pub factors-append : (fs gs : List Factor) → encode_factors (fs ++ gs) ≡ encode_factors fs ++ encode_factors gs
unfolding encode_factors
factors-append [] gs = refl
factors-append (f ∷ fs) gs = ap (λ l. encode_factors (f ∷ []) ++ l) (factors-append fs gs)

-- One factor more.
pub factors-next : (fs : List Factor) (i : ℕ) → i < length fs → encode_factors (take (i + 1) fs) ≡ encode_factors (take i fs) ++ encode_factors (get_or fs i (factor 0 0) ∷ [])
factors-next fs i h = rw (add-one, take-suc fs i (factor 0 0) h) (factors-append (take i fs) (get_or fs i (factor 0 0) ∷ []))

pub factors-length : (fs : List Factor) → length (encode_factors fs) ≡ 4 * length fs
unfolding encode_factors
factors-length [] = refl
factors-length (f ∷ fs) = let q = factors-length fs in omega arith

pub products-append : (ps qs : List (List Factor)) → encode_products (ps ++ qs) ≡ encode_products ps ++ encode_products qs
unfolding encode_products
products-append [] qs = refl
products-append (p ∷ ps) qs = ap (λ l. product_kind ∷ l) (ap (λ l. encode_factors p ++ l) (products-append ps qs) ∙ sym (append_assoc (encode_factors p) (encode_products ps) (encode_products qs)))

-- One product.
pub product-bytes : (p : List Factor) → length (encode_products (p ∷ [])) ≡ product_length (length p)
unfolding encode_products
product-bytes p = let q = length-append (encode_factors p) [] in omega (arith, factors-length p)
