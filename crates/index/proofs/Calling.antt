-- What the calls cite that go over the list: the change of the list is what the definition of the call says, and can be made at every point that it
-- reaches; and the index may be tested as far as the list goes. Read next: Accepting.
use mathlib.Core.Path.{◌≡◌, refl, sym, ap, ◌∙◌, subst}
use mathlib.Core.Bool.{Bool, true, false, cond, not}
use mathlib.Core.Logic.{◌≢◌}
use mathlib.Core.List.{List, [], ◌∷◌, ◌++◌}
use Prim.Native.Nat.{ℕ, ◌+◌, ◌-◌, ◌≤◌, ◌<◌, ◌^◌}
use native.Mathlib.Nat.{lt_of_lt_of_le}
use native.Mathlib.Decide.{ℕ_discrete}
use native.Mathlib.Omega.{arith}
use lib.Dec.{eqb, ltb}
use lib.Pow.{pow_mono}
use lib.ListN.{length, get_or, drop, length-append}
use borrow.Author.Tests.{eq-eqb, ne_eqb, le-ltb, ltb-false}
use Rattle.gf2.specs.Limits.{max_variables}
use Rattle.gf2.proofs.Finite.{all-at}
use Rattle.table.specs.Refusal.{Fault}
use Rattle.table.specs.Refusal.{Test, first_fault, first_place, fault_at, fault_of, Numbered, room_fault, records_fault}
use Rattle.table.specs.Decision.{decide, answer_of, front, room_test}
use Rattle.table.proofs.FirstFault.{none_both}
use Rattle.table.proofs.Decide.{decide-accepted, decide-refused, decide-number}
use Rattle.records.specs.Kinds.{word_record_length}
use Rattle.product.specs.Product.{Factor}
use Rattle.form.specs.Form.{max_products, Form}
use Rattle.form.specs.Decoding.{form_variables, form_products, decode_form, decode_product}
use Rattle.form.specs.Refusal.{IsForm, form_tests, form_fault, product_tests}
use Rattle.form.proofs.Encodings.{form-valid}
use Rattle.form.proofs.Accepting.{accepted-form, form-numbered}
use Rattle.form.proofs.Alone.{product-laid}
use Rattle.index.specs.declared.PointRecord.{PointRecord}
use Rattle.index.specs.declared.Indexed.{Indexed}
use Rattle.index.specs.Records.{no_record, point_record_of, tabulate, form_index, same_record, agrees_upto, is_index, bound_of}
use Rattle.index.specs.Changes.{appended_at, removed_at, map_first, build_way, append_way, remove_way, factors_of_product, changed_of, reach_of, updated, WholeProduct, Changes}
use Rattle.index.specs.Answers.{index_accepted, index_refused, index_call, list_test, list_tests, build_tests, build_answer_by, build_answer, build_after, appended_form, appended_bytes, full_test, append_tests, append_answer_by, append_after_by, append_answer, append_after, append_list_after, last_product, removed_form, removed_bytes, last_place, empty_test, remove_tests, remove_answer_by, remove_after_by, remove_answer, remove_after, remove_list_after}
use Rattle.index.proofs.Records.{same-is, holders-few}
use Rattle.index.proofs.InPlace.{first-none, reach-point}
use Rattle.index.proofs.Lists.{tabulate-built, index-length}
use Rattle.index.proofs.Reading.{first-begun, last-there}
use Rattle.index.proofs.Forms.{removed-length}
use Rattle.index.proofs.Faulting.{early, late, AppendSound, append-sound, append-numbered, RemoveSound, remove-sound, remove-numbered, list-none}

-- ---- how far a call reaches

reach-all : (f : Form) (long records : ℕ) → 2 ^ f.variables ≤ records → reach_of (index_accepted f long) records ≡ 2 ^ f.variables
unfolding reach_of
reach-all f long records h = rw (le-ltb records (2 ^ f.variables) h)

reach-none : (a : Indexed) (records : ℕ) → a.refusal ≢ 0 → reach_of a records ≡ 0
unfolding reach_of
reach-none a records n = rw (ne_eqb a.refusal 0 n)

-- ---- a call by its tests: accepted or refused

module _ (ts : List Test) (f : Form) (long : ℕ) where
  abbrev answer : Indexed
  answer = answer_of (index_call ts f long)

  answer-number : answer.refusal ≡ first_fault ts
  answer-number = decide-number (λ (a : Indexed). a.refusal) ts (index_accepted f long) (index_refused (first_place ts)) refl (λ k. refl)

  -- Where the answer has no refusal, it is that of the form.
  taken : answer.refusal ≡ 0 → (first_fault ts ≡ 0) × (answer ≡ index_accepted f long)
  taken z =
      let none = sym answer-number ∙ z in
      (none, decide-accepted ts (index_accepted f long) (index_refused (first_place ts)) none)

  -- A refused call changes nothing; an accepted one changes the records of all points.
  module _ (way : ℕ) (bytes : List ℕ) (list : List PointRecord) (changed : List PointRecord)
      (enough : first_fault ts ≡ 0 → 2 ^ f.variables ≤ length list)
      (made : first_fault ts ≡ 0 → map_first (changed_of way bytes (index_accepted f long)) (2 ^ f.variables) list ≡ changed) where
    pub list-after : updated way bytes answer list ≡ decide ts changed (λ number. list)
    list-after = go (ℕ_discrete (first_fault ts) 0)
      where
        go : Dec (first_fault ts ≡ 0) → updated way bytes answer list ≡ decide ts changed (λ number. list)
        go (yes z) =
            let same = decide-accepted ts (index_accepted f long) (index_refused (first_place ts)) z in
            ap (λ (a : Indexed). updated way bytes a list) same ∙ ap (λ (k : ℕ). map_first (changed_of way bytes (index_accepted f long)) k list) (reach-all f long (length list) (enough z))
            ∙ made z ∙ sym (decide-accepted ts changed (λ number. list) z)
        go (no n) =
            let refused : answer.refusal ≢ 0 = λ z. n (sym answer-number ∙ z) in
            ap (λ (k : ℕ). map_first (changed_of way bytes answer) k list) (reach-none answer (length list) refused) ∙ first-none (changed_of way bytes answer) list
            ∙ sym (decide-refused ts changed (λ number. list) (first_fault ts) n refl)

-- A point that an accepted call reaches is a small number.
reached-small : (a : Indexed) (records w : ℕ) → (a.refusal ≡ 0 → a.variables ≤ max_variables) → w < reach_of a records → w < 2 ^ max_variables
reached-small a records w few h = let r = reach-point a records w h in lt_of_lt_of_le r.1 (pow_mono (few r.0))

-- ---- building

module _ (form : List ℕ) (list : List PointRecord) where
  pub build-answer : build_answer_by form (length list) ≡ build_answer form list
  unfolding build_answer_by build_answer
  build-answer = refl

  -- The bytes of an accepted call are a form, and the list is long enough.
  build-sound : first_fault (build_tests form (length list)) ≡ 0 → IsForm form × (2 ^ form_variables form ≤ length list)
  unfolding form_fault first_fault
  build-sound z =
      let both = (none_both (form_tests form) (list_test form (length list) ∷ []) (form-numbered form)).0 z in
      ((accepted-form form).0 both.0, (list-none form (length list) true both.1).0)

  pub build-changes : Changes build_way form (build_answer_by form (length list)) list
  unfolding build_answer_by
  build-changes = record {
    few = few;
    each = λ w h. record {
      point = reached-small a (length list) w few h;
      room = λ e. absurd (omega arith);
      some = λ e. absurd (omega arith);
      product = λ e. absurd (omega arith);
      end = λ e. absurd (omega arith);
      last = λ e. absurd (omega arith);
      form = λ p q. (build-sound (taken ts f (length form) (reach-point a (length list) w h).0).0).0;
    };
  }
    where
      ts : List Test
      ts = build_tests form (length list)

      f : Form
      f = decode_form form

      a : Indexed
      a = answer_of (index_call ts f (length form))

      few : a.refusal ≡ 0 → a.variables ≤ max_variables
      few z = let t = taken ts f (length form) z in subst (λ (x : Indexed). x.variables ≤ max_variables) (sym t.1) (form-valid form (build-sound t.0).0).few

  pub build-list : updated build_way form (build_answer_by form (length list)) list ≡ build_after form list
  unfolding build_answer_by build_after changed_of form_index
  build-list =
      list-after (build_tests form (length list)) (decode_form form) (length form) build_way form list (front (form_index (decode_form form)) list) (λ z. (build-sound z).1)
      (λ z. tabulate-built (point_record_of (form_products form)) (2 ^ form_variables form) list (build-sound z).1
      ∙ ap (λ (k : ℕ). tabulate (point_record_of (form_products form)) (2 ^ form_variables form) ++ drop k list) (sym (index-length (decode_form form))))

-- ---- the index may be tested as far as the list goes

-- What decides goes by the first fault alone.
faults-after : (ts us vs : List Test) → Numbered ts → Numbered us → fault_of ts ≡ fault_of us → fault_of (ts ++ vs) ≡ fault_of (us ++ vs)
faults-after ts us vs h k e = go (ℕ_discrete (first_fault ts) 0)
  where
    number : first_fault ts ≡ first_fault us
    number = ap (λ (f : Fault). f.number) e

    go : Dec (first_fault ts ≡ 0) → fault_of (ts ++ vs) ≡ fault_of (us ++ vs)
    go (yes z) = late ts vs h z ∙ sym (late us vs k (sym number ∙ z))
    go (no n) = sym (early ts vs refl n) ∙ e ∙ early us vs refl (λ z. n (number ∙ z))

faults-before : (ts us vs : List Test) → fault_of us ≡ fault_of vs → fault_of (ts ++ us) ≡ fault_of (ts ++ vs)
unfolding first_fault first_place
faults-before [] us vs e = e
faults-before (t ∷ ts) us vs e = let later = faults-before ts us vs e in ap (λ (f : Fault). fault_at (cond t.applies t.number f.number) (cond t.applies t.place f.place)) later

module _ (form : List ℕ) (records : ℕ) (s t : Bool) (same : form_fault form ≡ 0 → 2 ^ form_variables form ≤ records → s ≡ t) where
  -- A list that is too short is refused for that, whatever its records are.
  lists-same : form_fault form ≡ 0 → (vs : List Test) → fault_of (list_tests form records s ++ vs) ≡ fault_of (list_tests form records t ++ vs)
  unfolding first_fault first_place
  lists-same z vs = go (ltb records (2 ^ form_variables form)) refl
    where
      fault : Bool → Bool → Fault
      fault short u = fault_at (cond short room_fault (cond (not u) records_fault (first_fault vs))) (cond short 0 (cond (not u) 0 (first_place vs)))

      go : (short : Bool) → ltb records (2 ^ form_variables form) ≡ short → fault short s ≡ fault short t
      go true q = refl
      go false q = ap (fault false) (same z (ltb-false records (2 ^ form_variables form) q))

  -- Bytes that are no form are refused for that.
  tests_same : (before vs : List Test) → fault_of (form_tests form ++ (before ++ (list_tests form records s ++ vs))) ≡ fault_of (form_tests form ++ (before ++ (list_tests form records t ++ vs)))
  unfolding form_fault
  tests_same before vs = go (ℕ_discrete (form_fault form) 0)
    where
      go : Dec (form_fault form ≡ 0) → fault_of (form_tests form ++ (before ++ (list_tests form records s ++ vs))) ≡ fault_of (form_tests form ++ (before ++ (list_tests form records t ++ vs)))
      go (yes z) =
          faults-before (form_tests form) (before ++ (list_tests form records s ++ vs)) (before ++ (list_tests form records t ++ vs))
          (faults-before before (list_tests form records s ++ vs) (list_tests form records t ++ vs) (lists-same z vs))
      go (no n) = sym (early (form_tests form) (before ++ (list_tests form records s ++ vs)) refl n) ∙ early (form_tests form) (before ++ (list_tests form records t ++ vs)) refl n

-- The answer and the room go by the first fault.
answer-same : (ts us : List Test) (f : Form) (long : ℕ) → fault_of ts ≡ fault_of us → answer_of (index_call ts f long) ≡ answer_of (index_call us f long)
answer-same ts us f long e = ap (λ (x : Fault). cond (eqb x.number 0) (index_accepted f long) (index_refused x.place x.number)) e

decide-same : {A : Type 0} (ts us : List Test) (a : A) (r : ℕ → A) → fault_of ts ≡ fault_of us → decide ts a r ≡ decide us a r
decide-same ts us a r e = ap (λ (x : Fault). cond (eqb x.number 0) a (r x.number)) e

module _ (form : List ℕ) (list : List PointRecord) where
  -- What the loop over the list finds.
  abbrev same : Bool
  same = agrees_upto form list (bound_of form (length list))

  -- For a form and a list that is long enough, that is the whole test.
  bound-whole : form_fault form ≡ 0 → 2 ^ form_variables form ≤ length list → bound_of form (length list) ≡ 2 ^ form_variables form
  unfolding bound_of
  bound-whole z h = rw (eq-eqb (form_fault form) 0 z, le-ltb (length list) (2 ^ form_variables form) h)

  whole-test : form_fault form ≡ 0 → 2 ^ form_variables form ≤ length list → same ≡ is_index form list
  whole-test z h = ap (agrees_upto form list) (bound-whole z h)

  -- Where the test holds, no count is larger than the number of products.
  counts-few : IsForm form → 2 ^ form_variables form ≤ length list → same ≡ true → (w : ℕ) → w < 2 ^ form_variables form → (get_or list w no_record).count ≤ max_products
  unfolding agrees_upto
  counts-few h l e w m =
      let z = (accepted-form form).1 h in
      let right = same-is (get_or list w no_record) (point_record_of (form_products form) w) (all-at (λ v. same_record (get_or list v no_record) (point_record_of (form_products form) v)) (2 ^ form_variables form) (sym (whole-test z l) ∙ e) w m) in
      omega (arith, ap (λ (r : PointRecord). r.count) right, holders-few (form_products form) w, (form-valid form h).short)

-- ---- appending a product

module _ (form product : List ℕ) (list : List PointRecord) (room : List ℕ) where
  -- The tests as the code makes them, and as the call is defined.
  abbrev append_by : Bool → List Test
  append_by s = append_tests form product (length list) s ++ room_test (appended_bytes form product) room

  append-same : fault_of (append_by (same form list)) ≡ fault_of (append_by (is_index form list))
  append-same =
      faults-after (append_tests form product (length list) (same form list)) (append_tests form product (length list) (is_index form list)) (room_test (appended_bytes form product) room)
      (append-numbered form product (length list) (same form list)) (append-numbered form product (length list) (is_index form list))
      (tests_same form (length list) (same form list) (is_index form list) (whole-test form list) (product_tests (form_variables form) product) (full_test form ∷ []))

  pub append-answer : append_answer_by form product (length list) (same form list) room ≡ append_answer form product list room
  unfolding append_answer_by append_answer
  append-answer = answer-same (append_by (same form list)) (append_by (is_index form list)) (appended_form form product) (length (appended_bytes form product)) append-same

  pub append-after : append_after_by form product (length list) (same form list) room ≡ append_after form product list room
  unfolding append_after_by append_after
  append-after = decide-same (append_by (same form list)) (append_by (is_index form list)) (front (appended_bytes form product) room) (λ number. room) append-same

  -- What an accepted call says, and the numbers of its answer.
  appending : (s : Bool) → first_fault (append_by s) ≡ 0 → AppendSound form product (length list) s
  appending s z = append-sound form product (length list) s ((none_both (append_tests form product (length list) s) (room_test (appended_bytes form product) room) (append-numbered form product (length list) s)).0 z).0

  one_more : length (form_products form ++ (decode_product product ∷ [])) ≡ length (form_products form) + 1
  one_more = length-append (form_products form) (decode_product product ∷ [])

  pub append-changes : Changes append_way product (append_answer_by form product (length list) (same form list) room) list
  unfolding append_answer_by
  append-changes = record {
    few = few;
    each = λ w h.
        let r = reach-point a (length list) w h in
        let t = taken ts f long r.0 in
        let s = appending (same form list) t.0 in
        let within : w < 2 ^ form_variables form = subst (λ (x : Indexed). w < 2 ^ x.variables) t.1 r.1 in
        let products : a.products ≡ length (form_products form) + 1 = ap (λ (x : Indexed). x.products) t.1 ∙ one_more in
        let laid = product-laid (form_variables form) product s.product-sound in
        record {
          point = reached-small a (length list) w few h;
          room = λ e. omega (arith, counts-few form list s.form-sound s.long s.right w within);
          some = λ e. (omega (arith, products), omega (arith, products, s.few));
          product = λ e. (laid.some, laid.whole);
          end = λ e. absurd (omega arith);
          last = λ e. absurd (omega arith);
          form = λ n m. absurd (n refl);
        };
  }
    where
      ts : List Test
      ts = append_by (same form list)

      f : Form
      f = appended_form form product

      long : ℕ
      long = length (appended_bytes form product)

      a : Indexed
      a = answer_of (index_call ts f long)

      few : a.refusal ≡ 0 → a.variables ≤ max_variables
      few z =
          let t = taken ts f long z in
          subst (λ (x : Indexed). x.variables ≤ max_variables) (sym t.1) (form-valid form (appending (same form list) t.0).form-sound).few

  pub append-list : updated append_way product (append_answer_by form product (length list) (same form list) room) list ≡ append_list_after form product list room
  unfolding append_answer_by append_list_after changed_of
  append-list =
      let p = decode_product product in
      let changed = map_first (appended_at (length (form_products form)) p) (2 ^ form_variables form) list in
      let number : length (form_products form ++ (p ∷ [])) - 1 ≡ length (form_products form) = omega (arith, one_more) in
      list-after (append_by (same form list)) (appended_form form product) (length (appended_bytes form product)) append_way product list changed (λ z. (appending (same form list) z).long)
      (λ z. ap (λ (k : ℕ). map_first (appended_at k p) (2 ^ form_variables form) list) number)
      ∙ decide-same (append_by (same form list)) (append_by (is_index form list)) changed (λ number. list) append-same

-- ---- taking the last product away

module _ (form : List ℕ) (list : List PointRecord) (room : List ℕ) where
  abbrev remove_by : Bool → List Test
  remove_by s = remove_tests form (length list) s ++ room_test (removed_bytes form) room

  remove-same : fault_of (remove_by (same form list)) ≡ fault_of (remove_by (is_index form list))
  remove-same =
      faults-after (remove_tests form (length list) (same form list)) (remove_tests form (length list) (is_index form list)) (room_test (removed_bytes form) room)
      (remove-numbered form (length list) (same form list)) (remove-numbered form (length list) (is_index form list))
      (tests_same form (length list) (same form list) (is_index form list) (whole-test form list) [] (empty_test form ∷ []))

  pub remove-answer : remove_answer_by form (length list) (same form list) room ≡ remove_answer form list room
  unfolding remove_answer_by remove_answer
  remove-answer = answer-same (remove_by (same form list)) (remove_by (is_index form list)) (removed_form form) (length (removed_bytes form)) remove-same

  pub remove-after : remove_after_by form (length list) (same form list) room ≡ remove_after form list room
  unfolding remove_after_by remove_after
  remove-after = decide-same (remove_by (same form list)) (remove_by (is_index form list)) (front (removed_bytes form) room) (λ number. room) remove-same

  removing : (s : Bool) → first_fault (remove_by s) ≡ 0 → RemoveSound form (length list) s
  removing s z = remove-sound form (length list) s ((none_both (remove_tests form (length list) s) (room_test (removed_bytes form) room) (remove-numbered form (length list) s)).0 z).0

  -- The product that is taken away stands where the new form has its end record.
  last-lies : RemoveSound form (length list) (same form list) → WholeProduct form (length (removed_bytes form) - word_record_length) × (factors_of_product form (length (removed_bytes form) - word_record_length) ≡ last_product form)
  unfolding last_place
  last-lies s =
      let place : length (removed_bytes form) - word_record_length ≡ last_place form = omega (arith, removed-length form) in
      subst (λ (k : ℕ). WholeProduct form k × (factors_of_product form k ≡ last_product form)) (sym place) (last-there form (form_products form) 2 (first-begun form s.form-sound) refl s.some)

  pub remove-changes : Changes remove_way form (remove_answer_by form (length list) (same form list) room) list
  unfolding remove_answer_by
  remove-changes = record {
    few = few;
    each = λ w h.
        let r = reach-point a (length list) w h in
        let t = taken ts f long r.0 in
        let s = removing (same form list) t.0 in
        let size : a.length ≡ long = ap (λ (x : Indexed). x.length) t.1 in
        record {
          point = reached-small a (length list) w few h;
          room = λ e. absurd (omega arith);
          some = λ e. absurd (omega arith);
          product = λ e. absurd (omega arith);
          end = λ e. omega (arith, size, removed-length form);
          last = λ e. subst (λ (k : ℕ). WholeProduct form (k - word_record_length)) (sym size) (last-lies s).0;
          form = λ n m. absurd (m refl);
        };
  }
    where
      ts : List Test
      ts = remove_by (same form list)

      f : Form
      f = removed_form form

      long : ℕ
      long = length (removed_bytes form)

      a : Indexed
      a = answer_of (index_call ts f long)

      few : a.refusal ≡ 0 → a.variables ≤ max_variables
      few z =
          let t = taken ts f long z in
          subst (λ (x : Indexed). x.variables ≤ max_variables) (sym t.1) (form-valid form (removing (same form list) t.0).form-sound).few

  pub remove-list : updated remove_way form (remove_answer_by form (length list) (same form list) room) list ≡ remove_list_after form list room
  unfolding remove_answer_by remove_list_after changed_of
  remove-list =
      let changed = map_first (removed_at (last_product form)) (2 ^ form_variables form) list in
      list-after (remove_by (same form list)) (removed_form form) (length (removed_bytes form)) remove_way form list changed (λ z. (removing (same form list) z).long)
      (λ z. ap (λ (p : List Factor). map_first (removed_at p) (2 ^ form_variables form) list) (last-lies (removing (same form list) z)).1)
      ∙ decide-same (remove_by (same form list)) (remove_by (is_index form list)) changed (λ number. list) remove-same
