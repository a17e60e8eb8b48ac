-- When the bytes of a form are refused, with which number and which place (document 01, "Refusal numbers"; document 02, No. 3).
-- Read next: crate `form_calls`.
use Rattle.std.specs.Prelude.{◌≡◌, false, List, [], ◌∷◌, ℕ}
use Rattle.table.specs.Refusal.{Test, first_fault, first_place, wrong_kind_fault, bytes_missing_fault, wrong_variables_fault, wrong_factor_fault, not_canonical_fault, wrong_count_fault, bytes_after_fault, too_many_products_fault}
use Rattle.records.specs.Walks.{is_fault, layout_tests}
use Rattle.form.specs.Walk.{walked_form, walked_product}

-- The bytes are a form. That they are so exactly if they encode a valid form is `form-exactly`.
abbrev pub IsForm : List ℕ → Type 0
IsForm bytes = is_fault (walked_form bytes) ≡ false

-- What can be wrong with the bytes of a form (document 02, No. 3).
abbrev pub form_faults : List ℕ
form_faults =
    wrong_kind_fault ∷
    bytes_missing_fault ∷
    wrong_variables_fault ∷
    wrong_factor_fault ∷
    not_canonical_fault ∷
    wrong_count_fault ∷
    bytes_after_fault ∷
    too_many_products_fault ∷
    []

-- The tests of a form's bytes.
abbrev pub form_tests : List ℕ → List Test
form_tests bytes = layout_tests form_faults (walked_form bytes)

-- The refusal of a form's bytes, or 0, and the place that goes with it.
unfoldable pub form_fault : List ℕ → ℕ
form_fault bytes = first_fault (form_tests bytes)

unfoldable pub form_place : List ℕ → ℕ
form_place bytes = first_place (form_tests bytes)

-- ---- a product alone (document 02, No. 5)

-- The bytes are a product of n variables. That they are so exactly if they encode a canonical product is `product-exactly`.
abbrev pub IsProduct : ℕ → List ℕ → Type 0
IsProduct n bytes = is_fault (walked_product n bytes) ≡ false

-- What can be wrong with them: n is the form's, there is no end record, and a second product is a kind that stands wrong.
abbrev pub product_faults : List ℕ
product_faults = wrong_kind_fault ∷ bytes_missing_fault ∷ wrong_factor_fault ∷ not_canonical_fault ∷ []

abbrev pub product_tests : ℕ → List ℕ → List Test
product_tests n bytes = layout_tests product_faults (walked_product n bytes)

-- The refusal of a product's bytes, or 0, and the place that goes with it.
unfoldable pub product_fault : ℕ → List ℕ → ℕ
product_fault n bytes = first_fault (product_tests n bytes)

unfoldable pub product_place : ℕ → List ℕ → ℕ
product_place n bytes = first_place (product_tests n bytes)
