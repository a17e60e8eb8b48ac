-- The bytes of a form (document 01, "The written form"). That a list of bytes is accepted exactly if it is that of a valid form is
-- `form-exactly`. Read next: Decoding.
use Rattle.std.specs.Prelude.{◌≡◌, List, [], ◌∷◌, ◌++◌, ℕ, length}
use Rattle.records.specs.Kinds.{variables_kind, product_kind, factor_kind, low_byte, high_byte, encode_end}
use Rattle.product.specs.Product.{Factor, AllFit, Canonical}
use Rattle.form.specs.Form.{Form, ValidForm}

-- The body of a factor: its constant, then its mask, low byte first.
abbrev pub factor_body : Factor → List ℕ
factor_body f = f.constant ∷ low_byte f.mask ∷ high_byte f.mask ∷ []

-- The records of factors, one after the other.
unfoldable pub encode_factors : List Factor → List ℕ
encode_factors [] = []
encode_factors (f ∷ fs) = factor_kind ∷ (factor_body f ++ encode_factors fs)

-- The records of products: each is 50 and its factors.
unfoldable pub encode_products : List (List Factor) → List ℕ
encode_products [] = []
encode_products (p ∷ ps) = product_kind ∷ (encode_factors p ++ encode_products ps)

-- A product alone: 50 and its factors (document 02, No. 5).
abbrev pub encode_product : List Factor → List ℕ
encode_product p = product_kind ∷ encode_factors p

-- A form: 4E and n, its products, 45 and their number.
unfoldable pub encode_form : Form → List ℕ
encode_form f = variables_kind ∷ f.variables ∷ (encode_products f.products ++ encode_end (length f.products))

-- The bytes are those of a valid form.
abbrev pub EncodedForm : List ℕ → Type 0
EncodedForm bytes = (f : Form) × ValidForm f × (bytes ≡ encode_form f)

-- The bytes are those of a canonical product of n variables.
abbrev pub EncodedProduct : ℕ → List ℕ → Type 0
EncodedProduct n bytes = (p : List Factor) × AllFit n p × Canonical p × (bytes ≡ encode_product p)
