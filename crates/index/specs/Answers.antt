-- The answers of the calls that keep an index, and what stands in the lent list and room afterwards (document 02, No. 5). A call is said of a list; where the
-- code has only the length of the list and whether it is the form's index, so has the definition (`..By`). Read next: crate `index_list`.
use Rattle.std.specs.Prelude.{Bool, not, List, [], ◌∷◌, ◌++◌, ℕ, ◌+◌, ◌^◌, eqb, ltb, leb, length}
use Rattle.records.specs.declared.Kind.TheVariants.{Variables}
use Rattle.records.specs.Kinds.{body_length}
use Rattle.table.specs.Refusal.{Test, test, test_at, first_place, room_fault, empty_form_fault, records_fault, too_many_products_fault}
use Rattle.table.specs.declared.Refusal.{Refusal}
use Rattle.table.specs.Answers.{number_of, place_of}
use Rattle.table.specs.Decision.{Decision, decide, answer_of, after_of, room_test}
use Rattle.product.specs.Product.{Factor}
use Rattle.form.specs.Form.{max_products, Form}
use Rattle.form.specs.Encoding.{encode_products, encode_form}
use Rattle.form.specs.Decoding.{form_variables, form_products, decode_form, decode_product}
use Rattle.form.specs.Refusal.{form_tests, product_tests}
use Rattle.index.specs.declared.PointRecord.{PointRecord}
use Rattle.index.specs.declared.Indexed.{Indexed}
use Rattle.index.specs.Records.{is_index, form_index}
use Rattle.index.specs.Changes.{appended_at, removed_at, map_first}

-- ---- the numbers that a call returns

-- Those of the form that the list belongs to after the call: its n, its length in bytes, and how many products it has.
abbrev pub index_accepted : Form → ℕ → Indexed
index_accepted f long = record { refusal = 0; place = 0; variables = f.variables; length = long; products = length f.products }

-- A refusal returns its number and its place with all other numbers 0.
abbrev pub index_refused : ℕ → ℕ → Indexed
index_refused place number = record { refusal = number; place = place; variables = 0; length = 0; products = 0 }

-- What a call gives for a refusal.
abbrev pub refused_index : Refusal → Indexed
refused_index refusal = index_refused (place_of refusal) (number_of refusal)

-- A call by its tests and the form that it accepts.
abbrev pub index_call : List Test → Form → ℕ → Decision Indexed
index_call tests f long = record { tests = tests; accepted = index_accepted f long; refused = index_refused (first_place tests) }

-- ---- the tests of the list

-- It is shorter than 2^n.
abbrev pub list_test : List ℕ → ℕ → Test
list_test form records = test room_fault (ltb records (2 ^ form_variables form))

-- Then, for a call that changes it: its first 2^n records aren't those of the form.
abbrev pub list_tests : List ℕ → ℕ → Bool → List Test
list_tests form records same = list_test form records ∷ test records_fault (not same) ∷ []

-- ---- building

abbrev pub build_tests : List ℕ → ℕ → List Test
build_tests form records = form_tests form ++ (list_test form records ∷ [])

abbrev pub build_call : List ℕ → ℕ → Decision Indexed
build_call form records = index_call (build_tests form records) (decode_form form) (length form)

unfoldable pub build_answer_by : List ℕ → ℕ → Indexed
build_answer_by form records = answer_of (build_call form records)

unfoldable pub build_answer : List ℕ → List PointRecord → Indexed
build_answer form list = answer_of (build_call form (length list))

-- The list after the call: the index of the form at its front and the rest as lent, or all as lent.
unfoldable pub build_after : List ℕ → List PointRecord → List PointRecord
build_after form list = after_of (build_call form (length list)) (form_index (decode_form form)) list

-- ---- appending a product

-- The form with the product as its last.
abbrev pub appended_form : List ℕ → List ℕ → Form
appended_form form product = record { variables = form_variables form; products = form_products form ++ (decode_product product ∷ []) }

unfoldable pub appended_bytes : List ℕ → List ℕ → List ℕ
appended_bytes form product = encode_form (appended_form form product)

-- The form has as many products as a form can have; the number is given with place 0.
abbrev pub full_test : List ℕ → Test
full_test form = test_at too_many_products_fault 0 (leb max_products (length (form_products form)))

-- The tests before that of the room: the form's own, the product's own, those of the list, then that there are too many products.
abbrev pub append_tests : List ℕ → List ℕ → ℕ → Bool → List Test
append_tests form product records same =
    form_tests form ++ (product_tests (form_variables form) product ++ (list_tests form records same ++ (full_test form ∷ [])))

abbrev pub append_call : List ℕ → List ℕ → ℕ → Bool → List ℕ → Decision Indexed
append_call form product records same room =
    index_call (append_tests form product records same ++ room_test (appended_bytes form product) room) (appended_form form product)
    (length (appended_bytes form product))

unfoldable pub append_answer_by : List ℕ → List ℕ → ℕ → Bool → List ℕ → Indexed
append_answer_by form product records same room = answer_of (append_call form product records same room)

unfoldable pub append_after_by : List ℕ → List ℕ → ℕ → Bool → List ℕ → List ℕ
append_after_by form product records same room = after_of (append_call form product records same room) (appended_bytes form product) room

abbrev pub append_to : List ℕ → List ℕ → List PointRecord → List ℕ → Decision Indexed
append_to form product list room = append_call form product (length list) (is_index form list) room

unfoldable pub append_answer : List ℕ → List ℕ → List PointRecord → List ℕ → Indexed
append_answer form product list room = answer_of (append_to form product list room)

-- The room after the call: the new form at its front and the rest as lent, or all as lent.
unfoldable pub append_after : List ℕ → List ℕ → List PointRecord → List ℕ → List ℕ
append_after form product list room = after_of (append_to form product list room) (appended_bytes form product) room

-- The list after the call: the product counted at each of its points, or all as lent.
unfoldable pub append_list_after : List ℕ → List ℕ → List PointRecord → List ℕ → List PointRecord
append_list_after form product list room =
    decide (append_to form product list room).tests
    (map_first (appended_at (length (form_products form)) (decode_product product)) (2 ^ form_variables form) list) (λ number. list)

-- ---- taking the last product away

-- A list without its last element, and that element, or the given one of an empty list.
abbrev pub without_last : {A : Type 0} → List A → List A
without_last [] = []
without_last (x ∷ []) = []
without_last (x ∷ y ∷ l) = x ∷ without_last (y ∷ l)

abbrev pub last_of : {A : Type 0} → A → List A → A
last_of x [] = x
last_of x (y ∷ l) = last_of y l

-- The product that is taken away, and the form without it.
abbrev pub last_product : List ℕ → List Factor
last_product form = last_of [] (form_products form)

abbrev pub removed_form : List ℕ → Form
removed_form form = record { variables = form_variables form; products = without_last (form_products form) }

unfoldable pub removed_bytes : List ℕ → List ℕ
removed_bytes form = encode_form (removed_form form)

-- Where the last product begins: after the first record and all products before it.
unfoldable pub last_place : List ℕ → ℕ
last_place form = 1 + body_length Variables + length (encode_products (without_last (form_products form)))

-- The form has no product.
abbrev pub empty_test : List ℕ → Test
empty_test form = test empty_form_fault (eqb (length (form_products form)) 0)

-- The tests before that of the room: the form's own, those of the list, then that there is nothing to take away.
abbrev pub remove_tests : List ℕ → ℕ → Bool → List Test
remove_tests form records same = form_tests form ++ (list_tests form records same ++ (empty_test form ∷ []))

abbrev pub remove_call : List ℕ → ℕ → Bool → List ℕ → Decision Indexed
remove_call form records same room =
    index_call (remove_tests form records same ++ room_test (removed_bytes form) room) (removed_form form) (length (removed_bytes form))

unfoldable pub remove_answer_by : List ℕ → ℕ → Bool → List ℕ → Indexed
remove_answer_by form records same room = answer_of (remove_call form records same room)

unfoldable pub remove_after_by : List ℕ → ℕ → Bool → List ℕ → List ℕ
remove_after_by form records same room = after_of (remove_call form records same room) (removed_bytes form) room

abbrev pub remove_from : List ℕ → List PointRecord → List ℕ → Decision Indexed
remove_from form list room = remove_call form (length list) (is_index form list) room

unfoldable pub remove_answer : List ℕ → List PointRecord → List ℕ → Indexed
remove_answer form list room = answer_of (remove_from form list room)

-- The room after the call: the new form at its front and the rest as lent, or all as lent.
unfoldable pub remove_after : List ℕ → List PointRecord → List ℕ → List ℕ
remove_after form list room = after_of (remove_from form list room) (removed_bytes form) room

-- The list after the call: the product no longer counted at any of its points, or all as lent.
unfoldable pub remove_list_after : List ℕ → List PointRecord → List ℕ → List PointRecord
remove_list_after form list room =
    decide (remove_from form list room).tests (map_first (removed_at (last_product form)) (2 ^ form_variables form) list) (λ number. list)
