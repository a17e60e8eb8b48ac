-- The rules of a form: which records may stand where, what its end record counts, and when a body is wrong (document 01, "The written form"; document 02,
-- No. 3). The faults of its bytes are those of crate `records` by these rules; that the walk reports the first of them is `form-first`. Read next:
-- Counting.
use Rattle.std.specs.Prelude.{Bool, true, false, not, ◌&&◌, List, [], ◌∷◌, ◌++◌, ℕ, eqb, leb, get_or}
use Rattle.records.specs.declared.Kind.{Kind}
use Rattle.records.specs.declared.Kind.TheVariants.{Variables, Product, Factor as FactorKind, End, On, Free}
use Rattle.records.specs.Faults.{Record, is_variables, record_count, Rules}
use Rattle.table.specs.Table.{bad_count}
use Rattle.product.specs.Product.{Factor, fits, agrees}
use Rattle.form.specs.Form.{max_products}
use Rattle.form.specs.Decoding.{factor_of}

-- A kind is that of a product's beginning.
abbrev pub is_product : Kind → Bool
is_product Variables = false
is_product Product = true
is_product FactorKind = false
is_product End = false
is_product On = false
is_product Free = false

-- How many products begin among these records.
abbrev pub products_in : List Record → ℕ
products_in before = record_count is_product before

-- After the first record and so many products: a product, the end, or a factor once a product has begun.
abbrev pub later_admits : ℕ → Kind → Bool
later_admits products Variables = false
later_admits products Product = true
later_admits products FactorKind = not (eqb products 0)
later_admits products End = true
later_admits products On = false
later_admits products Free = false

-- The first record gives n.
abbrev pub form_admits : List Record → Kind → Bool
form_admits [] kind = is_variables kind
form_admits (r ∷ before) kind = later_admits (products_in (r ∷ before)) kind

-- n, in the body of the first record.
abbrev pub variables_in : List Record → ℕ
variables_in [] = 0
variables_in (r ∷ before) = get_or r.body 0 0

-- The factors of the last product once a record of this kind and body is passed.
abbrev pub factors_passed : List Factor → Kind → List ℕ → List Factor
factors_passed earlier Variables body = earlier
factors_passed earlier Product body = []
factors_passed earlier FactorKind body = earlier ++ (factor_of body ∷ [])
factors_passed earlier End body = earlier
factors_passed earlier On body = earlier
factors_passed earlier Free body = earlier

unfoldable pub factors_since : List Factor → List Record → List Factor
factors_since earlier [] = earlier
factors_since earlier (r ∷ before) = factors_since (factors_passed earlier r.kind r.body) before

-- The factors of the product that these records end in: those after the last 50.
abbrev pub last_factors : List Record → List Factor
last_factors before = factors_since [] before

-- The end counts the products. A form has no length of its own that it can't exceed: the number of products and of their factors bounds it.
abbrev pub form_rules : Rules
form_rules =
    record {
      admits = form_admits;
      is_surplus = λ before kind. is_product kind && leb max_products (products_in before);
      is_counted = is_product;
      wrong_variables = λ body. bad_count (get_or body 0 0);
      wrong_factor = λ before body. not (fits (variables_in before) (factor_of body));
      disagrees = λ before body. not (agrees (last_factors before) (factor_of body));
      is_longest = λ place. false;
    }
