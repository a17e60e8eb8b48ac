-- The record of a point, the index of a form, and whether a list begins with it (document 02, No. 5). Read next: Changes.
use Rattle.std.specs.Prelude.{Bool, cond, ◌&&◌, List, [], ◌∷◌, ℕ, zero, suc, ◌<◌, ◌^◌, eqb, ltb, get_or}
use Rattle.gf2.specs.Finite.{all}
use Rattle.product.specs.Product.{Factor, product_at}
use Rattle.form.specs.Form.{Form}
use Rattle.form.specs.Decoding.{form_variables, form_products}
use Rattle.form.specs.Refusal.{IsForm, form_fault}
use Rattle.index.specs.declared.PointRecord.{PointRecord}

-- The number that stands for no product.
abbrev pub no_product : ℕ
no_product = 65535

-- The record of a count and a first product.
abbrev pub point_record : ℕ → ℕ → PointRecord
point_record count first = record { count = count; first = first }

-- The record of a point that no product holds.
abbrev pub no_record : PointRecord
no_record = point_record 0 no_product

-- How many of the products hold the point.
unfoldable pub holders : List (List Factor) → ℕ → ℕ
holders [] w = 0
holders (p ∷ ps) w = cond (product_at p w) (suc (holders ps w)) (holders ps w)

-- The number of the first product that holds the point, if the first of them has the given number; 65,535 if none holds it.
unfoldable pub first_from : ℕ → List (List Factor) → ℕ → ℕ
first_from k [] w = no_product
first_from k (p ∷ ps) w = cond (product_at p w) k (first_from (suc k) ps w)

-- The record of a point: the number of products that hold it, and the first of them, counted from 0.
abbrev pub point_record_of : List (List Factor) → ℕ → PointRecord
point_record_of ps w = point_record (holders ps w) (first_from 0 ps w)

-- The values at 0 to k - 1.
unfoldable pub tabulate : {A : Type 0} → (ℕ → A) → ℕ → List A
tabulate g zero = []
tabulate g (suc k) = g 0 ∷ tabulate (λ w. g (suc w)) k

-- The index of a form: the records of all points of its variables, in their order.
unfoldable pub form_index : Form → List PointRecord
form_index f = tabulate (point_record_of f.products) (2 ^ f.variables)

-- Two records have the same numbers.
unfoldable pub same_record : PointRecord → PointRecord → Bool
same_record r s = eqb r.count s.count && eqb r.first s.first

-- The first k records of the list are those that the form gives the points 0 to k - 1.
unfoldable pub agrees_upto : List ℕ → List PointRecord → ℕ → Bool
agrees_upto form list k = all (λ w. same_record (get_or list w no_record) (point_record_of (form_products form) w)) k

-- The list begins with the index of the form. That it does exactly then is `index_is`.
abbrev pub is_index : List ℕ → List PointRecord → Bool
is_index form list = agrees_upto form list (2 ^ form_variables form)

-- ---- as the loop over the records has it

-- The point is one of the form's.
abbrev pub HasPoint : List ℕ → ℕ → Type 0
HasPoint form w = IsForm form × (w < 2 ^ form_variables form)

-- The records before a point are right, and so is the point's own.
abbrev pub still_of : List ℕ → ℕ → Bool → PointRecord → Bool
still_of form w right old = same_record old (point_record_of (form_products form) w) && right

-- The lesser of two numbers.
abbrev pub lesser : ℕ → ℕ → ℕ
lesser a b = cond (ltb a b) a b

-- How many of the records that are lent belong to the form; none to bytes that are refused.
unfoldable pub bound_of : List ℕ → ℕ → ℕ
bound_of form records = cond (eqb (form_fault form) 0) (lesser records (2 ^ form_variables form)) 0
