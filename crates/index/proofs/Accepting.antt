-- The three calls: when each is accepted (`build-exactly`, `append-exactly`, `remove-exactly`), what it leaves then, and that a refused one leaves all as lent.
-- The form that an accepted call leaves is one (`appended-sound`, `removed-sound`). Read next: Examples.
use mathlib.Core.Path.{◌≡◌, refl, sym, ap, ◌∙◌, subst}
use mathlib.Core.Bool.{Bool, true}
use mathlib.Core.Logic.{◌≢◌, inl, inr, ◌↔◌}
use mathlib.Core.List.{List, [], ◌∷◌, ◌++◌}
use Prim.Native.Nat.{ℕ, ◌<◌, ◌≤◌, ◌^◌}
use native.Mathlib.Omega.{arith}
use lib.Dec.{ltb}
use lib.ListN.{length, length-append}
use borrow.Author.Tests.{ltb-false, le-ltb}
use Rattle.gf2.specs.Finite.{Mem}
use Rattle.gf2.proofs.Finite.{mem-snoc, snoc-mem}
use Rattle.table.specs.Refusal.{Fault}
use Rattle.table.specs.Refusal.{test, first_fault, room_fault}
use Rattle.table.specs.Decision.{front, room_test}
use Rattle.table.proofs.FirstFault.{none_both, none-next}
use Rattle.table.proofs.Decide.{decide-accepted, decide-refused, decide-number}
use Rattle.product.specs.Product.{Factor}
use Rattle.form.specs.Form.{max_products}
use Rattle.form.specs.Encoding.{encode_form}
use Rattle.form.specs.Decoding.{form_variables, form_products, decode_form, decode_product}
use Rattle.form.specs.Refusal.{IsForm, IsProduct, form_tests, form_fault}
use Rattle.form.proofs.Encodings.{decoded, encoded-form, form-valid}
use Rattle.form.proofs.Accepting.{form-numbered, accepted-form}
use Rattle.form.proofs.Alone.{accepted-product, product-laid}
use Rattle.index.specs.declared.PointRecord.{PointRecord}
use Rattle.index.specs.declared.Indexed.{Indexed}
use Rattle.index.specs.Records.{form_index, is_index}
use Rattle.index.specs.Changes.{appended_at, removed_at, map_first}
use Rattle.index.specs.Answers.{index_accepted, list_test, list_tests, build_tests, build_call, build_answer, build_after, appended_form, appended_bytes, full_test, append_tests, append_to, append_answer, append_after, append_list_after, without_last, last_of, last_product, removed_form, removed_bytes, empty_test, remove_tests, remove_from, remove_answer, remove_after, remove_list_after}
use Rattle.index.proofs.Records.{last_apart}
use Rattle.index.proofs.Faulting.{list_right, product-right, full-none, empty-none, AppendSound, append-sound, RemoveSound, remove-sound, append-numbered, remove-numbered}

-- ---- the tests that find nothing

list-clear : (form : List ℕ) (records : ℕ) (same : Bool) → 2 ^ form_variables form ≤ records → same ≡ true → first_fault (list_tests form records same) ≡ 0
unfolding first_fault
list-clear form records same h e = rw (le-ltb records (2 ^ form_variables form) h, e)

module _ (form : List ℕ) (records : ℕ) (same : Bool) where
  append-clear : (product : List ℕ) → AppendSound form product records same → first_fault (append_tests form product records same) ≡ 0
  append-clear product a =
      let sound = (accepted-form form).1 a.form-sound in
      let alone = (accepted-product (form_variables form) product).1 a.product-sound in
      let none = full-none form a.few ∙ list_right form sound records same (full_test form ∷ []) (list-clear form records same a.long a.right)
      ∙ product-right form sound product (list_tests form records same ++ (full_test form ∷ [])) alone in
      sym (ap (λ (f : Fault). f.number) none)

  remove-clear : RemoveSound form records same → first_fault (remove_tests form records same) ≡ 0
  remove-clear a =
      let sound = (accepted-form form).1 a.form-sound in
      let some : length (form_products form) ≢ 0 = λ z. omega (arith, a.some) in
      let none = empty-none form some ∙ list_right form sound records same (empty_test form ∷ []) (list-clear form records same a.long a.right) in
      sym (ap (λ (f : Fault). f.number) none)

-- The one test of a length.
long-enough : (short long : ℕ) → (first_fault (test room_fault (ltb short long) ∷ []) ≡ 0) ↔ (long ≤ short)
unfolding first_fault
long-enough short long =
    let e = none-next (test room_fault (ltb short long)) [] (λ z. omega arith) in
    (λ z. ltb-false short long (e.0 z).0, λ h. e.1 (le-ltb short long h, refl))

-- ---- building

build-number : (form : List ℕ) (list : List PointRecord) → (build_answer form list).refusal ≡ first_fault (build_tests form (length list))
unfolding build_answer
build-number form list =
    let d = build_call form (length list) in
    decide-number (λ (a : Indexed). a.refusal) d.tests d.accepted d.refused refl (λ k. refl)

pub build-exactly : (form : List ℕ) (list : List PointRecord) → ((build_answer form list).refusal ≡ 0) ↔ (IsForm form × (2 ^ form_variables form ≤ length list))
unfolding form_fault
build-exactly form list =
    let parts = none_both (form_tests form) (list_test form (length list) ∷ []) (form-numbered form) in
    let long = long-enough (length list) (2 ^ form_variables form) in (
      λ z. let r = parts.0 (sym (build-number form list) ∙ z) in ((accepted-form form).0 r.0, long.0 r.1),
      λ h. build-number form list ∙ parts.1 ((accepted-form form).1 h.0, long.1 h.1),
    )

-- Accepted: the index of the form, and the rest as lent.
pub build-left : (form : List ℕ) (list : List PointRecord) → (build_answer form list).refusal ≡ 0 → build_after form list ≡ front (form_index (decode_form form)) list
unfolding build_after
build-left form list z = decide-accepted (build_tests form (length list)) (front (form_index (decode_form form)) list) (λ number. list) (sym (build-number form list) ∙ z)

pub build-refused : (form : List ℕ) (list : List PointRecord) → (build_answer form list).refusal ≢ 0 → build_after form list ≡ list
unfolding build_after
build-refused form list n =
    let ts = build_tests form (length list) in
    decide-refused ts (front (form_index (decode_form form)) list) (λ number. list) (first_fault ts) (λ z. n (build-number form list ∙ z)) refl

-- ---- appending a product

module _ (form product : List ℕ) (list : List PointRecord) (room : List ℕ) where
  append-number : (append_answer form product list room).refusal ≡ first_fault (append_to form product list room).tests
  unfolding append_answer
  append-number =
      let d = append_to form product list room in
      decide-number (λ (a : Indexed). a.refusal) d.tests d.accepted d.refused refl (λ k. refl)

  pub append-exactly : ((append_answer form product list room).refusal ≡ 0)
      ↔ (AppendSound form product (length list) (is_index form list) × (length (appended_bytes form product) ≤ length room))
  append-exactly =
      let records = length list in
      let same = is_index form list in
      let parts = none_both (append_tests form product records same) (room_test (appended_bytes form product) room) (append-numbered form product records same) in
      let fits = long-enough (length room) (length (appended_bytes form product)) in (
        λ z. let r = parts.0 (sym append-number ∙ z) in (append-sound form product records same r.0, fits.0 r.1),
        λ a. append-number ∙ parts.1 (append-clear form records same product a.0, fits.1 a.1),
      )

  -- Accepted: the numbers of the new form, its bytes at the front of the room, and the product counted at each of its points.
  module _ (z : (append_answer form product list room).refusal ≡ 0) where
    pub append-told : append_answer form product list room ≡ index_accepted (appended_form form product) (length (appended_bytes form product))
    unfolding append_answer
    append-told = let d = append_to form product list room in decide-accepted d.tests d.accepted d.refused (sym append-number ∙ z)

    pub append-room : append_after form product list room ≡ front (appended_bytes form product) room
    unfolding append_after
    append-room = decide-accepted (append_to form product list room).tests (front (appended_bytes form product) room) (λ number. room) (sym append-number ∙ z)

    pub append-counted : append_list_after form product list room ≡ map_first (appended_at (length (form_products form)) (decode_product product)) (2 ^ form_variables form) list
    unfolding append_list_after
    append-counted =
        decide-accepted (append_to form product list room).tests
        (map_first (appended_at (length (form_products form)) (decode_product product)) (2 ^ form_variables form) list) (λ number. list) (sym append-number ∙ z)

  pub append-refused : (append_answer form product list room).refusal ≢ 0 → append_list_after form product list room ≡ list
  unfolding append_list_after
  append-refused n =
      let ts = (append_to form product list room).tests in
      decide-refused ts (map_first (appended_at (length (form_products form)) (decode_product product)) (2 ^ form_variables form) list) (λ number. list) (first_fault ts)
      (λ z. n (append-number ∙ z)) refl

-- The form with one canonical product more is one, if it had fewer than the most.
pub appended-sound : (form product : List ℕ) → IsForm form → IsProduct (form_variables form) product → length (form_products form) < max_products → IsForm (appended_bytes form product)
unfolding appended_bytes
appended-sound form product sound alone few =
    let v = form-valid form sound in
    let l = product-laid (form_variables form) product alone in
    let p = decode_product product in
    encoded-form (appended_form form product) (record {
      some = v.some;
      few = v.few;
      short = omega (arith, length-append (form_products form) (p ∷ []));
      fitting = λ q m. elim (mem-snoc q (form_products form) p m) [ inl k ↦ v.fitting q k | inr e ↦ rw e l.fitting ];
      canonicals = λ q m. elim (mem-snoc q (form_products form) p m) [ inl k ↦ v.canonicals q k | inr e ↦ rw e l.canonicals ];
    })

pub appended-read : (form product : List ℕ) → decode_form (appended_bytes form product) ≡ appended_form form product
unfolding appended_bytes
appended-read form product = decoded (appended_form form product)

pub appended-again : (form product : List ℕ) → encode_form (decode_form (appended_bytes form product)) ≡ appended_bytes form product
unfolding appended_bytes
appended-again form product = ap encode_form (decoded (appended_form form product))

-- ---- taking the last product away

module _ (form : List ℕ) (list : List PointRecord) (room : List ℕ) where
  remove-number : (remove_answer form list room).refusal ≡ first_fault (remove_from form list room).tests
  unfolding remove_answer
  remove-number =
      let d = remove_from form list room in
      decide-number (λ (a : Indexed). a.refusal) d.tests d.accepted d.refused refl (λ k. refl)

  pub remove-exactly : ((remove_answer form list room).refusal ≡ 0) ↔ (RemoveSound form (length list) (is_index form list) × (length (removed_bytes form) ≤ length room))
  remove-exactly =
      let records = length list in
      let same = is_index form list in
      let parts = none_both (remove_tests form records same) (room_test (removed_bytes form) room) (remove-numbered form records same) in
      let fits = long-enough (length room) (length (removed_bytes form)) in (
        λ z. let r = parts.0 (sym remove-number ∙ z) in (remove-sound form records same r.0, fits.0 r.1),
        λ a. remove-number ∙ parts.1 (remove-clear form records same a.0, fits.1 a.1),
      )

  -- Accepted: the numbers of the new form, its bytes at the front of the room, and the product no longer counted at any of its points.
  module _ (z : (remove_answer form list room).refusal ≡ 0) where
    pub remove-told : remove_answer form list room ≡ index_accepted (removed_form form) (length (removed_bytes form))
    unfolding remove_answer
    remove-told = let d = remove_from form list room in decide-accepted d.tests d.accepted d.refused (sym remove-number ∙ z)

    pub remove-room : remove_after form list room ≡ front (removed_bytes form) room
    unfolding remove_after
    remove-room = decide-accepted (remove_from form list room).tests (front (removed_bytes form) room) (λ number. room) (sym remove-number ∙ z)

    pub remove-counted : remove_list_after form list room ≡ map_first (removed_at (last_product form)) (2 ^ form_variables form) list
    unfolding remove_list_after
    remove-counted =
        decide-accepted (remove_from form list room).tests (map_first (removed_at (last_product form)) (2 ^ form_variables form) list) (λ number. list) (sym remove-number ∙ z)

  pub remove-refused : (remove_answer form list room).refusal ≢ 0 → remove_list_after form list room ≡ list
  unfolding remove_list_after
  remove-refused n =
      let ts = (remove_from form list room).tests in
      decide-refused ts (map_first (removed_at (last_product form)) (2 ^ form_variables form) list) (λ number. list) (first_fault ts) (λ z. n (remove-number ∙ z)) refl

-- The form without its last product is one.
pub removed-sound : (form : List ℕ) → IsForm form → 0 < length (form_products form) → IsForm (removed_bytes form)
unfolding removed_bytes
removed-sound form sound some =
    let v = form-valid form sound in
    let ps = form_products form in
    let whole = last_apart [] ps some in
    encoded-form (removed_form form) (record {
      some = v.some;
      few = v.few;
      short = omega (arith, v.short, ap length whole, length-append (without_last ps) (last_of [] ps ∷ []));
      fitting = λ q m. v.fitting q (earlier q m);
      canonicals = λ q m. v.canonicals q (earlier q m);
    })
  where
    earlier : (q : List Factor) → Mem q (without_last (form_products form)) → Mem q (form_products form)
    earlier q m = subst (Mem q) (sym (last_apart [] (form_products form) some)) (snoc-mem q (without_last (form_products form)) (last_of [] (form_products form)) (inl m))

pub removed-read : (form : List ℕ) → decode_form (removed_bytes form) ≡ removed_form form
unfolding removed_bytes
removed-read form = decoded (removed_form form)

pub removed-again : (form : List ℕ) → encode_form (decode_form (removed_bytes form)) ≡ removed_bytes form
unfolding removed_bytes
removed-again form = ap encode_form (decoded (removed_form form))
