-- The form that the bytes of an accepted input stand for (document 01, "The written form"). Read next: Walk.
use Rattle.std.specs.Prelude.{◌≡◌, cond, ◌≢◌, List, [], ◌∷◌, ℕ, zero, suc, eqb, get_or, drop}
use Rattle.records.specs.declared.Kind.TheVariants.{Product, Factor as FactorKind}
use Rattle.records.specs.Kinds.{product_kind, factor_kind, body_length, word_of}
use Rattle.product.specs.Product.{Factor, factor}
use Rattle.form.specs.Form.{Form}

-- The factor whose body stands at the front of the bytes.
abbrev pub factor_of : List ℕ → Factor
factor_of bytes = factor (get_or bytes 0 0) (word_of (get_or bytes 1 0) (get_or bytes 2 0))

-- What the records from a place on stand for: the factors before the next product begins, and the products from there on.
pub record Parts : Type 0 where
  pub factors : List Factor
  pub products : List (List Factor)

-- No factors and no products.
abbrev pub no_parts : Parts
no_parts = record { factors = []; products = [] }

-- A record before later ones, given its kind byte and the bytes after it: a product begins with the factors that follow, a factor is one of
-- those, and every other kind ends them.
abbrev pub parts_before : ℕ → List ℕ → Parts → Parts
parts_before kind rest later =
    cond (eqb kind product_kind) (record { factors = []; products = later.factors ∷ later.products })
    (cond (eqb kind factor_kind) (record { factors = factor_of rest ∷ later.factors; products = later.products }) no_parts)

-- The length of the body of a factor or of a product, by the kind byte.
abbrev pub part_length : ℕ → ℕ
part_length kind = cond (eqb kind factor_kind) (body_length FactorKind) (body_length Product)

-- The parts of the bytes once the given number of bytes of a body is passed.
unfoldable pub parts_from : ℕ → List ℕ → Parts
parts_from skip [] = no_parts
parts_from zero (kind ∷ rest) = parts_before kind rest (parts_from (part_length kind) rest)
parts_from (suc skip) (byte ∷ rest) = parts_from skip rest

-- n is the body of the first record (document 01, "The written form", kind 4E).
abbrev pub form_variables : List ℕ → ℕ
form_variables bytes = get_or bytes 1 0

-- The products stand after it.
abbrev pub form_products : List ℕ → List (List Factor)
form_products bytes = (parts_from 0 (drop 2 bytes)).products

-- The form that the bytes stand for. That its encoding is these bytes, where they are accepted, is `rewritten-same`.
abbrev pub decode_form : List ℕ → Form
decode_form bytes = record { variables = form_variables bytes; products = form_products bytes }

-- The product that the bytes of a product alone stand for: the factors after its 50 (document 02, No. 5).
abbrev pub decode_product : List ℕ → List Factor
decode_product bytes = (parts_from 0 (drop 1 bytes)).factors

-- Whole records of factors stand at the front of the bytes, up to a record of another kind or the end of the bytes.
pub data WholeFactors : List ℕ → Type 0 where
  over : WholeFactors []
  other : {byte : ℕ} {rest : List ℕ} → byte ≢ factor_kind → WholeFactors (byte ∷ rest)
  further : {byte constant low high : ℕ} {rest : List ℕ} → byte ≡ factor_kind → WholeFactors rest → WholeFactors (byte ∷ constant ∷ low ∷ high ∷ rest)
