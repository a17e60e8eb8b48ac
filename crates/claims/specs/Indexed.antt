-- An index kept beside a form (document 02, No. 5): after any run of calls that append a product or take the last one away, refused ones mixed in, the list
-- begins with the index built afresh of the form so far. A single claim about a built index and the whole list of calls.
--
-- It is a claim about the running calls. The contracts of `glospruma_index_build`, `glospruma_index_append` and `glospruma_index_remove`
-- (crates/glospruma/src/lib.rt) say that the numbers they return are `build_answer`, `append_answer` and `remove_answer` of their arguments, that the lent list holds
-- `build_after`, `append_list_after` and `remove_list_after` of them, and the lent room `append_after` and `remove_after`, which are all that is spoken of here.
-- Read next: PrimeCounts.
use Rattle.std.specs.Prelude.{◌≡◌, Bool, true, false, cond, ◌≢◌, ◌↔◌, List, [], ◌∷◌, ◌++◌, ℕ, ◌+◌, ◌-◌, ◌≤◌, ◌<◌, ◌^◌, eqb, length, get_or, take, drop}
use Rattle.gf2.specs.Finite.{select}
use Rattle.records.specs.Kinds.{Bytes}
use Rattle.product.specs.Product.{Factor, product_at}
use Rattle.form.specs.Form.{max_products}
use Rattle.form.specs.Encoding.{encode_form}
use Rattle.form.specs.Decoding.{form_variables, form_products, decode_form, decode_product}
use Rattle.form.specs.Refusal.{form_fault, product_fault}
use Rattle.cubes.specs.Lists.{keep}
use Rattle.index.specs.declared.PointRecord.{PointRecord}
use Rattle.index.specs.declared.Indexed.{Indexed}
use Rattle.index.specs.Records.{no_product, no_record, form_index}
use Rattle.index.specs.Answers.{build_answer, build_after, appended_bytes, append_answer, append_after, append_list_after, without_last, last_product, removed_bytes, remove_answer, remove_after, remove_list_after}
use Rattle.claims.specs.Demand3.{sum_of}

-- ---- one call

-- What is handed from call to call: the bytes of a form, and the list.
pub record Kept : Type 0 where
  pub form : List ℕ
  pub list : List PointRecord

-- A call appends a product, given by its bytes, or takes the last product away; either has room for the new form.
pub data Changing : Type 0 where
  appending : (product room : List ℕ) → Changing
  removing : (room : List ℕ) → Changing

-- The numbers that the call returns, and the room and the list as it returns.
abbrev pub numbers_returned : Kept → Changing → Indexed
numbers_returned s (appending product room) = append_answer s.form product s.list room
numbers_returned s (removing room) = remove_answer s.form s.list room

abbrev pub room_left : Kept → Changing → List ℕ
room_left s (appending product room) = append_after s.form product s.list room
room_left s (removing room) = remove_after s.form s.list room

abbrev pub list_left : Kept → Changing → List PointRecord
list_left s (appending product room) = append_list_after s.form product s.list room
list_left s (removing room) = remove_list_after s.form s.list room

-- It was accepted: it returned no refusal.
abbrev pub was_taken : Kept → Changing → Bool
was_taken s c = eqb (numbers_returned s c).refusal 0

-- What the next call is given. The form is what an accepted call left at the front of its room, as many bytes as it said; a refused one leaves the form as it
-- was. The list is the one that the call left.
abbrev pub kept_after : Kept → Changing → Kept
kept_after s c = record { form = cond (was_taken s c) (take (numbers_returned s c).length (room_left s c)) s.form; list = list_left s c }

-- The product that the call counts in or out: the one that it is given, or the last one of the form that it is given.
abbrev pub touched : Kept → Changing → List Factor
touched s (appending product room) = decode_product product
touched s (removing room) = last_product s.form

-- The count of a point of that product before the call and after it: one more, or one less.
abbrev pub CountMoved : Changing → ℕ → ℕ → Type 0
CountMoved (appending product room) before after = after ≡ before + 1
CountMoved (removing room) before after = before ≡ after + 1

-- Nothing that is left to refuse applies: the product's own faults, a 65th product or none to take away, and room that is short.
abbrev pub CanBeMade : List ℕ → Changing → Type 0
CanBeMade form (appending product room) =
    (product_fault (form_variables form) product ≡ 0) × (length (form_products form) < max_products) × (length (appended_bytes form product) ≤ length room)
CanBeMade form (removing room) = (0 < length (form_products form)) × (length (removed_bytes form) ≤ length room)

-- ---- lists of calls

-- An index built for a form in a list.
abbrev pub built : List ℕ → List PointRecord → Kept
built form list = record { form = form; list = build_after form list }

-- Each call is given what the one before it left.
unfoldable pub kept_by : Kept → List Changing → Kept
kept_by s [] = s
kept_by s (c ∷ cs) = kept_by (kept_after s c) cs

-- The products as a plain list: a call appends its product as the last one, or takes the last one away, if it is accepted.
abbrev pub changed_products : Changing → List (List Factor) → List (List Factor)
changed_products (appending product room) ps = ps ++ (decode_product product ∷ [])
changed_products (removing room) ps = without_last ps

unfoldable pub products_kept : Kept → List Changing → List (List Factor) → List (List Factor)
products_kept s [] ps = ps
products_kept s (c ∷ cs) ps = products_kept (kept_after s c) cs (cond (was_taken s c) (changed_products c ps) ps)

-- ---- the claim

-- The record of a point in a list.
abbrev pub record_at : List PointRecord → ℕ → PointRecord
record_at list w = get_or list w no_record

-- A call that is given a form of n variables and its index.
pub record CallKeeps (n : ℕ) (s : Kept) (c : Changing) : Type 0 where
  -- It is refused for its product, for a 65th one or none to take away, and for short room; never for the form and the list that are handed on.
  pub accepts : ((numbers_returned s c).refusal ≡ 0) ↔ CanBeMade s.form c
  -- Accepted: it tells the numbers of the form that it leaves; the record of every point outside the product is as it was, and at every point of the
  -- product the count goes up or down by one.
  pub told : (numbers_returned s c).refusal ≡ 0
      → numbers_returned s c
      ≡ record { refusal = 0; place = 0; variables = n; length = length (kept_after s c).form; products = length (form_products (kept_after s c).form) }
  pub outside : (numbers_returned s c).refusal ≡ 0 → (w : ℕ) → w < 2 ^ n → product_at (touched s c) w ≡ false → record_at (kept_after s c).list w ≡ record_at s.list w
  pub inside : (numbers_returned s c).refusal ≡ 0 → (w : ℕ) → w < 2 ^ n → product_at (touched s c) w ≡ true
      → CountMoved c (record_at s.list w).count (record_at (kept_after s c).list w).count
  -- Refused: form and list are as they were.
  pub refused : (numbers_returned s c).refusal ≢ 0 → kept_after s c ≡ s

-- What the record of a point says of some products: how many hold the point, and the first that does, counted from 0, or 65,535 if there is none.
pub record Says (ps : List (List Factor)) (w : ℕ) (r : PointRecord) : Type 0 where
  pub count : r.count ≡ length (keep (λ p. product_at p w) ps)
  pub none : (r.first ≡ no_product) ↔ (r.count ≡ 0)
  pub within : r.count ≢ 0 → r.first < length ps
  pub holds : r.count ≢ 0 → product_at (get_or ps r.first []) w ≡ true
  pub first : (k : ℕ) → k < length ps → k < r.first → product_at (get_or ps k []) w ≡ false

-- What the calls left of a form and a list in which its index was built: the form so far, the list, and the products as a plain list.
abbrev pub form_left : List ℕ → List PointRecord → List Changing → List ℕ
form_left form list calls = (kept_by (built form list) calls).form

abbrev pub index_left : List ℕ → List PointRecord → List Changing → List PointRecord
index_left form list calls = (kept_by (built form list) calls).list

abbrev pub products_left : List ℕ → List PointRecord → List Changing → List (List Factor)
products_left form list calls = products_kept (built form list) calls (form_products form)

-- Of a form and a list for which building is accepted, and any list of calls from there; so of every beginning of a list of calls too.
pub record IndexKept (form : List ℕ) (list : List PointRecord) (calls : List Changing) : Type 0 where
  -- The form so far is accepted and of the same n. Its products are those that it had at first and those appended, without those taken away, in order, and
  -- its bytes are the encoding of exactly these. (What a caller lends are bytes, numbers below 256.)
  pub accepted : form_fault (form_left form list calls) ≡ 0
  pub variables : form_variables (form_left form list calls) ≡ form_variables form
  pub products : form_products (form_left form list calls) ≡ products_left form list calls
  pub bytes : Bytes form → form_left form list calls ≡ encode_form (record { variables = form_variables form; products = products_left form list calls })
  -- The first 2 ^ n records are the index built afresh of the form so far: building it in the list is accepted and changes nothing, and building it in any
  -- other list that is long enough writes the same records.
  pub index : take (2 ^ form_variables form) (index_left form list calls) ≡ form_index (decode_form (form_left form list calls))
  pub afresh : ((build_answer (form_left form list calls) (index_left form list calls)).refusal ≡ 0)
      × (build_after (form_left form list calls) (index_left form list calls) ≡ index_left form list calls)
  pub elsewhere : (other : List PointRecord) → 2 ^ form_variables form ≤ length other
      → ((build_answer (form_left form list calls) other).refusal ≡ 0)
      × (take (2 ^ form_variables form) (build_after (form_left form list calls) other) ≡ take (2 ^ form_variables form) (index_left form list calls))
  -- Each of them says what it should of the products of the form so far.
  pub says : (w : ℕ) → w < 2 ^ form_variables form → Says (form_products (form_left form list calls)) w (record_at (index_left form list calls) w)
  -- The records past 2 ^ n are as they were before the index was built.
  pub rest : drop (2 ^ form_variables form) (index_left form list calls) ≡ drop (2 ^ form_variables form) list
  pub long : length (index_left form list calls) ≡ length list
  -- The counts over all points add up to the sizes of the products: the number of points that each holds, which is 2 ^ (n - f) for f factors.
  pub counts : sum_of (λ r. r.count) (take (2 ^ form_variables form) (index_left form list calls))
      ≡ sum_of (λ p. length (select (product_at p) (2 ^ form_variables form))) (form_products (form_left form list calls))
  pub sizes : sum_of (λ r. r.count) (take (2 ^ form_variables form) (index_left form list calls))
      ≡ sum_of (λ p. 2 ^ (form_variables form - length p)) (form_products (form_left form list calls))
  -- Every call of the run, by what those before it left.
  pub each : (before : List Changing) (c : Changing) (after : List Changing) → calls ≡ before ++ (c ∷ after)
      → CallKeeps (form_variables form) (kept_by (built form list) before) c
