-- What a form is: products of n variables, its value at a point and its points (document 01, "The written form"). Read next: Encoding.
use Rattle.std.specs.Prelude.{Bool, List, ℕ, ◌≤◌, ◌^◌, length}
use Rattle.gf2.specs.Limits.{max_variables}
use Rattle.gf2.specs.Finite.{Mem, select}
use Rattle.product.specs.Product.{Factor, AllFit, Canonical, some_product_at}

-- The most products of a form (document 01, "The written form").
abbrev pub max_products : ℕ
max_products = 64

-- A form of n variables: its products in their order, each with its factors in theirs.
pub record Form : Type 0 where
  pub variables : ℕ
  pub products : List (List Factor)

-- A form as document 01, "The written form" admits it: n as in a table, at most 64 products, each of factors of n variables and canonical.
pub record ValidForm (f : Form) : Type 0 where
  pub some : 1 ≤ f.variables
  pub few : f.variables ≤ max_variables
  pub short : length f.products ≤ max_products
  pub fitting : (p : List Factor) → Mem p f.products → AllFit f.variables p
  pub canonicals : (p : List Factor) → Mem p f.products → Canonical p

-- The value of a form at a point: true when some product is.
abbrev pub form_at : Form → ℕ → Bool
form_at f w = some_product_at f.products w

-- The points of a form, rising.
unfoldable pub form_points : Form → List ℕ
form_points f = select (form_at f) (2 ^ f.variables)
