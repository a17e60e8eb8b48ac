-- What becomes of the records when a product is appended to a form or its last product taken away (document 02, No. 5). It is said by the change at each
-- point; that the records are then those of the new form is `appended-index` and `removed-index`. Read next: Answers.
use Rattle.std.specs.Prelude.{◌≡◌, Bool, cond, ◌≢◌, List, [], ◌∷◌, ℕ, zero, suc, ◌+◌, ◌-◌, ◌*◌, ◌<◌, ◌≤◌, ◌^◌, eqb, leb, length, get_or, drop}
use Rattle.gf2.specs.Limits.{max_variables}
use Rattle.records.specs.Kinds.{factor_kind, word_record_length}
use Rattle.product.specs.Product.{Factor, product_at}
use Rattle.form.specs.Form.{max_products}
use Rattle.form.specs.Decoding.{parts_from, form_products, WholeFactors}
use Rattle.form.specs.Counting.{factor_length}
use Rattle.form.specs.Refusal.{IsForm}
use Rattle.index.specs.declared.PointRecord.{PointRecord}
use Rattle.index.specs.declared.Indexed.{Indexed}
use Rattle.index.specs.declared.ProductSeen.{ProductSeen}
use Rattle.index.specs.Records.{no_product, point_record, no_record, point_record_of, lesser}

-- ---- at one point

-- One product more holds the point: if it is the only one, it is the first.
abbrev pub add_holder : ℕ → PointRecord → PointRecord
add_holder number r = point_record (r.count + 1) (cond (eqb r.count 0) number r.first)

-- A product is appended under this number: only its own points change.
abbrev pub appended_at : ℕ → List Factor → ℕ → PointRecord → PointRecord
appended_at number p w r = cond (product_at p w) (add_holder number r) r

-- One product fewer holds the point, and not the first of several: if it was the only one, none is the first.
abbrev pub drop_holder : PointRecord → PointRecord
drop_holder r = point_record (r.count - 1) (cond (leb r.count 1) no_product r.first)

-- The last product is taken away: only its own points change.
abbrev pub removed_at : List Factor → ℕ → PointRecord → PointRecord
removed_at p w r = cond (product_at p w) (drop_holder r) r

-- ---- in a list

-- The first k elements of a list changed, each by its place and what it was; the others stay.
unfoldable pub map_first : {A : Type 0} → (ℕ → A → A) → ℕ → List A → List A
map_first f zero l = l
map_first f (suc k) [] = []
map_first f (suc k) (x ∷ l) = f 0 x ∷ map_first (λ w. f (suc w)) k l

-- ---- as the loop over the records has it, by the answer of the call

-- The ways to change a list: to build it from a form, to append a product that stands alone, and to take away the last product of a form.
abbrev pub build_way : ℕ
build_way = 0

abbrev pub append_way : ℕ
append_way = 1

abbrev pub remove_way : ℕ
remove_way = 2

-- The factors of the product whose 50 stands at the place.
abbrev pub factors_of_product : List ℕ → ℕ → List Factor
factors_of_product bytes place = (parts_from 0 (drop (place + 1) bytes)).factors

-- Where the product that is taken away begins in the old form: there the new one has its end record.
abbrev pub removed_place : Indexed → ℕ
removed_place answer = answer.length - word_record_length

-- The record of a point after an accepted call, from the bytes that the change reads: a form, a product alone, or the old form.
unfoldable pub changed_of : ℕ → List ℕ → Indexed → ℕ → PointRecord → PointRecord
changed_of way bytes answer w r =
    cond (eqb way append_way) (appended_at (answer.products - 1) (factors_of_product bytes 0) w r)
    (cond (eqb way remove_way) (removed_at (factors_of_product bytes (removed_place answer)) w r)
    (point_record_of (form_products bytes) w))

-- How many of the records that are lent a call changes; none where it is refused.
unfoldable pub reach_of : Indexed → ℕ → ℕ
reach_of answer records = cond (eqb answer.refusal 0) (lesser records (2 ^ answer.variables)) 0

-- The list after the call.
abbrev pub updated : ℕ → List ℕ → Indexed → List PointRecord → List PointRecord
updated way bytes answer list = map_first (changed_of way bytes answer) (reach_of answer (length list)) list

-- ---- the product at a place, as the code sees it

-- A factor begins at the place. Behind the last byte none does: what is read there as 0 is no kind.
unfoldable pub factor_begins : List ℕ → ℕ → Bool
factor_begins bytes place = eqb (get_or bytes place 0) factor_kind

-- What it says of a point, and where the record after its last factor begins.
unfoldable pub product_seen : List ℕ → ℕ → ℕ → ProductSeen
product_seen bytes place w =
    record { holds = product_at (factors_of_product bytes place) w; next = place + 1 + factor_length * length (factors_of_product bytes place) }

-- ---- what the loop asks

-- An accepted answer has a number of variables as in a table.
abbrev pub Few : Indexed → Type 0
Few answer = answer.refusal ≡ 0 → answer.variables ≤ max_variables

-- A product begins at the place, and its factors are whole.
abbrev pub WholeProduct : List ℕ → ℕ → Type 0
WholeProduct bytes place = (place < length bytes) × WholeFactors (drop (place + 1) bytes)

-- The change can be made at the point: the bytes are what the way reads, and a count that grows has room for one more.
pub record ChangesAt (way : ℕ) (bytes : List ℕ) (answer : Indexed) (w : ℕ) (r : PointRecord) : Type 0 where
  pub point : w < 2 ^ max_variables
  pub room : way ≡ append_way → r.count < no_product
  pub some : way ≡ append_way → (1 ≤ answer.products) × (answer.products ≤ max_products)
  pub product : way ≡ append_way → WholeProduct bytes 0
  pub end : way ≡ remove_way → word_record_length ≤ answer.length
  pub last : way ≡ remove_way → WholeProduct bytes (removed_place answer)
  pub form : way ≢ append_way → way ≢ remove_way → IsForm bytes

-- It can be made at all points that it reaches.
pub record Changes (way : ℕ) (bytes : List ℕ) (answer : Indexed) (list : List PointRecord) : Type 0 where
  pub few : Few answer
  pub each : (w : ℕ) → w < reach_of answer (length list) → ChangesAt way bytes answer w (get_or list w no_record)
