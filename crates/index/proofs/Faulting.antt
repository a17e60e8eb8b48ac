-- What the faults that are found say of the bytes of a form and of a product, and how the tests of the calls follow one another. Read next: Calling.
use mathlib.Core.Path.{◌≡◌, refl, sym, ap, ap₂, ◌∙◌}
use mathlib.Core.Bool.{Bool, true, false, cond, not}
use mathlib.Core.Logic.{◌≢◌}
use mathlib.Core.List.{List, [], ◌∷◌, ◌++◌}
use Prim.Native.Nat.{ℕ, ◌≤◌, ◌<◌, ◌^◌}
use native.Mathlib.Omega.{arith}
use lib.Dec.{eqb, ltb, leb}
use lib.ListN.{length}
use borrow.Author.Tests.{eq-eqb, ne_eqb, eqb-false, le-leb, lt-leb, leb-false, ltb-false}
use Rattle.gf2.specs.Finite.{holds}
use Rattle.table.specs.Refusal.{Fault}
use Rattle.table.specs.Refusal.{Test, test, test_at, first_fault, first_place, fault_at, fault_of, Numbered, room_fault, empty_form_fault, records_fault, too_many_products_fault}
use Rattle.std.specs.Prelude.{Result, Err}
use Rattle.table.specs.declared.Refusal.{Refusal}
use Rattle.table.specs.Answers.{number_of, place_of, fault_from}
use Rattle.table.specs.Decision.{answer_of}
use Rattle.table.proofs.Results.{number-nonzero}
use Rattle.table.proofs.Decide.{decide-accepted, decide-refused, PlacedWays, placed-ways}
use Rattle.table.proofs.FirstFault.{numbered, fault-append, fault-before, none_both, place-append, place-before}
use Rattle.form.specs.Form.{max_products, Form}
use Rattle.form.specs.Decoding.{form_variables, form_products}
use Rattle.form.specs.Refusal.{IsForm, form_tests, form_fault, IsProduct, product_tests, product_fault}
use Rattle.form.proofs.Accepting.{accepted-form, form-numbered}
use Rattle.form.proofs.Alone.{accepted-product, product-numbered}
use Rattle.index.specs.Answers.{index_accepted, index_refused, refused_index, index_call, list_test, list_tests, build_tests, full_test, append_tests, appended_form, appended_bytes, append_answer_by, append_after_by, empty_test, remove_tests, removed_form, removed_bytes, remove_answer_by, remove_after_by}

-- A refusal by its number and its place, as the result of a call hands it on.
abbrev pub told_by : Refusal → Fault
told_by refusal = fault_at (number_of refusal) (place_of refusal)

pub handed-on : {A : Type 0} {result : Result A Refusal} {refusal other : Refusal} → result ≡ Err refusal → refusal ≡ other → fault_from result ≡ told_by other
handed-on p q = ap fault_from (p ∙ ap Err q)

-- Where nothing is found of a product it is one.
pub product-sound : (n : ℕ) (product : List ℕ) → fault_at 0 0 ≡ fault_of (product_tests n product) → (product_fault n product ≡ 0) × IsProduct n product
unfolding product_fault
product-sound n product e = let none = sym (ap (λ (f : Fault). f.number) e) in (none, (accepted-product n product).0 none)

-- ---- tests one after the other

-- A fault of the first tests is that of all, and where they find none it is that of the others.
pub early : (ts us : List Test) {found : Fault} → found ≡ fault_of ts → found.number ≢ 0 → found ≡ fault_of (ts ++ us)
early ts us e n =
    let some : first_fault ts ≢ 0 = λ z. n (ap (λ (f : Fault). f.number) e ∙ z) in
    e ∙ ap₂ fault_at (sym (fault-before ts us some)) (sym (place-before ts us some))

pub refused-early : (ts us : List Test) (refusal : Refusal) → told_by refusal ≡ fault_of ts → told_by refusal ≡ fault_of (ts ++ us)
refused-early ts us refusal e = early ts us e (number-nonzero refusal)

pub late : (ts us : List Test) → Numbered ts → first_fault ts ≡ 0 → fault_of (ts ++ us) ≡ fault_of us
late ts us h e = ap₂ fault_at (fault-append ts us h e) (place-append ts us h e)

-- ---- the tests of the list, which have no place

pub list-numbered : (form : List ℕ) (records : ℕ) (same : Bool) → Numbered (list_tests form records same)
unfolding holds
list-numbered form records same = numbered (list_tests form records same) refl

-- Where nothing is said of the records they are the one test of building.
build-list : (form : List ℕ) (records : ℕ) → fault_of (list_tests form records true) ≡ fault_of (list_test form records ∷ [])
unfolding first_fault first_place
build-list form records = refl

-- ---- what is found by the calls, test by test

module _ (form : List ℕ) (h : form_fault form ≡ 0) where
  -- The form is sound: the other tests decide.
  pub past-form : (us : List Test) → fault_of (form_tests form ++ us) ≡ fault_of us
  unfolding form_fault
  past-form us = late (form_tests form) us (form-numbered form) h

  module _ (records : ℕ) (same : Bool) (us : List Test) where
    pub list-wrong : (refusal : Refusal) → told_by refusal ≡ fault_of (list_tests form records same) → told_by refusal ≡ fault_of (form_tests form ++ (list_tests form records same ++ us))
    list-wrong refusal e = refused-early (list_tests form records same) us refusal e ∙ sym (past-form (list_tests form records same ++ us))

    pub list_right : first_fault (list_tests form records same) ≡ 0 → fault_of us ≡ fault_of (form_tests form ++ (list_tests form records same ++ us))
    list_right z = sym (past-form (list_tests form records same ++ us) ∙ late (list_tests form records same) us (list-numbered form records same) z)

    pub list-passed : fault_at 0 0 ≡ fault_of (list_tests form records same) → fault_of us ≡ fault_of (form_tests form ++ (list_tests form records same ++ us))
    list-passed e = list_right (sym (ap (λ (f : Fault). f.number) e))

  module _ (records : ℕ) where
    pub build-found : {found : Fault} → found ≡ fault_of (list_tests form records true) → found ≡ fault_of (build_tests form records)
    build-found e = e ∙ build-list form records ∙ sym (past-form (list_test form records ∷ []))

  module _ (product : List ℕ) (us : List Test) where
    pub product-wrong : (refusal : Refusal) → told_by refusal ≡ fault_of (product_tests (form_variables form) product)
        → told_by refusal ≡ fault_of (form_tests form ++ (product_tests (form_variables form) product ++ us))
    product-wrong refusal e = refused-early (product_tests (form_variables form) product) us refusal e ∙ sym (past-form (product_tests (form_variables form) product ++ us))

    pub product-right : product_fault (form_variables form) product ≡ 0 → fault_of (form_tests form ++ us) ≡ fault_of (form_tests form ++ (product_tests (form_variables form) product ++ us))
    unfolding product_fault
    product-right z =
        past-form us ∙ sym (past-form (product_tests (form_variables form) product ++ us) ∙ late (product_tests (form_variables form) product) us (product-numbered (form_variables form) product) z)

-- ---- the last test before that of the room

pub full-found : (form : List ℕ) → max_products ≤ length (form_products form) → fault_at too_many_products_fault 0 ≡ fault_of (full_test form ∷ [])
unfolding first_fault first_place
full-found form h = rw (le-leb max_products (length (form_products form)) h)

pub full-none : (form : List ℕ) → length (form_products form) < max_products → fault_at 0 0 ≡ fault_of (full_test form ∷ [])
unfolding first_fault first_place
full-none form h = rw (lt-leb max_products (length (form_products form)) h)

pub empty-found : (form : List ℕ) → length (form_products form) ≡ 0 → fault_at empty_form_fault 0 ≡ fault_of (empty_test form ∷ [])
unfolding first_fault first_place
empty-found form h = rw (eq-eqb (length (form_products form)) 0 h)

pub empty-none : (form : List ℕ) → length (form_products form) ≢ 0 → fault_at 0 0 ≡ fault_of (empty_test form ∷ [])
unfolding first_fault first_place
empty-none form h = rw (ne_eqb (length (form_products form)) 0 h)

-- ---- the answer of a call without a room

module _ (ts : List Test) (f : Form) (long : ℕ) where
  pub answer-refused : (refusal : Refusal) → told_by refusal ≡ fault_of ts → refused_index refusal ≡ answer_of (index_call ts f long)
  answer-refused refusal e =
      let number : first_fault ts ≡ number_of refusal = ap (λ (x : Fault). x.number) (sym e) in
      ap (λ (x : Fault). index_refused x.place (number_of refusal)) e ∙ sym (decide-refused ts (index_accepted f long) (index_refused (first_place ts)) (number_of refusal) (number-nonzero refusal) number)

  pub answer-accepted : first_fault ts ≡ 0 → index_accepted f long ≡ answer_of (index_call ts f long)
  answer-accepted z = sym (decide-accepted ts (index_accepted f long) (index_refused (first_place ts)) z)

-- ---- what an accepted call says

-- The list is long enough, and begins with the index.
pub list-none : (form : List ℕ) (records : ℕ) (same : Bool) → first_fault (list_tests form records same) ≡ 0 → (2 ^ form_variables form ≤ records) × (same ≡ true)
unfolding first_fault
list-none form records same = go (ltb records (2 ^ form_variables form)) same refl
  where
    go : (t u : Bool) → ltb records (2 ^ form_variables form) ≡ t → cond t room_fault (cond (not u) records_fault 0) ≡ 0 → (2 ^ form_variables form ≤ records) × (u ≡ true)
    go true u q e = absurd (omega arith)
    go false true q e = (ltb-false records (2 ^ form_variables form) q, refl)
    go false false q e = absurd (omega arith)

-- There is room for a product, and one to take away.
full-left : (k : ℕ) → first_fault (test_at too_many_products_fault 0 (leb max_products k) ∷ []) ≡ 0 → k < max_products
unfolding first_fault
full-left k = go (leb max_products k) refl
  where
    go : (t : Bool) → leb max_products k ≡ t → cond t too_many_products_fault 0 ≡ 0 → k < max_products
    go true q e = absurd (omega arith)
    go false q e = leb-false max_products k q

empty_left : (k : ℕ) → first_fault (test empty_form_fault (eqb k 0) ∷ []) ≡ 0 → 1 ≤ k
unfolding first_fault
empty_left k = go (eqb k 0) refl
  where
    go : (t : Bool) → eqb k 0 ≡ t → cond t empty_form_fault 0 ≡ 0 → 1 ≤ k
    go true q e = absurd (omega arith)
    go false q e = omega (arith, eqb-false k 0 q)

pub record AppendSound (form product : List ℕ) (records : ℕ) (same : Bool) : Type 0 where
  pub form-sound : IsForm form
  pub product-sound : IsProduct (form_variables form) product
  pub long : 2 ^ form_variables form ≤ records
  pub right : same ≡ true
  pub few : length (form_products form) < max_products

pub append-sound : (form product : List ℕ) (records : ℕ) (same : Bool) → first_fault (append_tests form product records same) ≡ 0 → AppendSound form product records same
unfolding form_fault product_fault
append-sound form product records same e =
    let n = form_variables form in
    let first = (none_both (form_tests form) (product_tests n product ++ (list_tests form records same ++ (full_test form ∷ []))) (form-numbered form)).0 e in
    let second = (none_both (product_tests n product) (list_tests form records same ++ (full_test form ∷ [])) (product-numbered n product)).0 first.1 in
    let third = (none_both (list_tests form records same) (full_test form ∷ []) (list-numbered form records same)).0 second.1 in
    let list = list-none form records same third.0 in
    record {
      form-sound = (accepted-form form).0 first.0;
      product-sound = (accepted-product n product).0 second.0;
      long = list.0;
      right = list.1;
      few = full-left (length (form_products form)) third.1;
    }

pub record RemoveSound (form : List ℕ) (records : ℕ) (same : Bool) : Type 0 where
  pub form-sound : IsForm form
  pub long : 2 ^ form_variables form ≤ records
  pub right : same ≡ true
  pub some : 1 ≤ length (form_products form)

pub remove-sound : (form : List ℕ) (records : ℕ) (same : Bool) → first_fault (remove_tests form records same) ≡ 0 → RemoveSound form records same
unfolding form_fault
remove-sound form records same e =
    let first = (none_both (form_tests form) (list_tests form records same ++ (empty_test form ∷ [])) (form-numbered form)).0 e in
    let second = (none_both (list_tests form records same) (empty_test form ∷ []) (list-numbered form records same)).0 first.1 in
    let list = list-none form records same second.0 in
    record { form-sound = (accepted-form form).0 first.0; long = list.0; right = list.1; some = empty_left (length (form_products form)) second.1 }

-- ---- the ways out of the calls with a room

pub append-numbered : (form product : List ℕ) (records : ℕ) (same : Bool) → Numbered (append_tests form product records same)
unfolding holds
append-numbered form product records same = numbered (append_tests form product records same) refl

pub append-ways : (form product : List ℕ) (records : ℕ) (same : Bool) (room : List ℕ)
    → PlacedWays (first_fault (append_tests form product records same)) (first_place (append_tests form product records same)) (appended_bytes form product) room
    (index_accepted (appended_form form product) (length (appended_bytes form product))) index_refused (append_answer_by form product records same room) (append_after_by form product records same room)
unfolding append_answer_by append_after_by
append-ways form product records same room =
    placed-ways (append_tests form product records same) (appended_bytes form product) room (index_accepted (appended_form form product) (length (appended_bytes form product))) index_refused
    (append-numbered form product records same)

pub remove-numbered : (form : List ℕ) (records : ℕ) (same : Bool) → Numbered (remove_tests form records same)
unfolding holds
remove-numbered form records same = numbered (remove_tests form records same) refl

pub remove-ways : (form : List ℕ) (records : ℕ) (same : Bool) (room : List ℕ)
    → PlacedWays (first_fault (remove_tests form records same)) (first_place (remove_tests form records same)) (removed_bytes form) room
    (index_accepted (removed_form form) (length (removed_bytes form))) index_refused (remove_answer_by form records same room) (remove_after_by form records same room)
unfolding remove_answer_by remove_after_by
remove-ways form records same room =
    placed-ways (remove_tests form records same) (removed_bytes form) room (index_accepted (removed_form form) (length (removed_bytes form))) index_refused (remove-numbered form records same)
