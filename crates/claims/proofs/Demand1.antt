-- Demand 1 holds: one law about any call that decides by its tests, and a line for each call. Read next: FormBytes.
use mathlib.Core.Path.{◌≡◌, refl, sym, ap, ◌∙◌, subst}
use mathlib.Core.Bool.{Bool, true, false, cond}
use mathlib.Core.Logic.{◌≢◌}
use mathlib.Core.List.{List, [], ◌∷◌, map}
use Prim.Native.Nat.{ℕ, ◌^◌}
use native.Mathlib.Decide.{ℕ_discrete}
use lib.Dec.{eqb}
use lib.ListN.{length}
use borrow.Author.Tests.{eqb-true, eq-eqb, ne_eqb}
use Rattle.gf2.specs.Finite.{holds, every}
use Rattle.gf2.proofs.Logic.{and_l, and_r}
use Rattle.gf2.proofs.Finite.{every-is}
use Rattle.table.specs.Refusal.{Fault}
use Rattle.table.specs.Refusal.{Test, has_place, first_fault, first_place, fault_at, Numbered}
use Rattle.table.specs.Decision.{Decision, answer_of, after_of}
use Rattle.table.specs.Table.{table_tests, shared}
use Rattle.table.proofs.FirstFault.{numbered, fault-first, no-fault, place_none, place-first, sound_place, place-zero}
use Rattle.table.proofs.Decide.{decide-accepted, decide-refused, decide-number, decide-exact}
use Rattle.table.proofs.Table.{refuted, shared-mem}
use Rattle.stored.specs.Stored.{stored_tests, stored_fault, stored_place}
use Rattle.stored.specs.Reading.{read_place, read_call, read_answer, read_on_after, read_free_after}
use Rattle.compare.specs.Answer.{compare_place, compare_call, compare_answer, compare_after}
use Rattle.analysis.specs.Spaces.{linear_space_call, linear_space_answer, complete_call, complete_answer, complete_after, analyse_call, analyse_answer, analyse_after}
use Rattle.analysis.specs.Affine.{affine_call, affine_answer, affine_after}
use Rattle.form.specs.Decoding.{form_variables, form_products, decode_product}
use Rattle.form_calls.specs.Reading.{points_call, points_answer, points_after, rewrite_call, rewrite_answer, rewrite_after}
use Rattle.cubes.specs.Lists.{keep}
use Rattle.cubes.specs.Listing.{records_of, listing_call, listing_answer_by, listing_after_by}
use Rattle.listing.specs.Answers.{call_of}
use Rattle.writing.specs.Writing.{write_call, write_answer, write_after}
use Rattle.report.proofs.Answering.{report-refused, report-read}
use Rattle.report.specs.Answer.{report_call, report_answer, report_after}
use Rattle.index.specs.declared.PointRecord.{PointRecord}
use Rattle.index.specs.Changes.{appended_at, removed_at}
use Rattle.index.specs.Answers.{build_call, build_answer, append_to, append_answer, append_after, append_list_after, last_product, remove_from, remove_answer, remove_after, remove_list_after}
use Rattle.index.proofs.InPlace.{first-front}
use Rattle.index.proofs.Accepting.{build-left, build-refused, append-counted, append-refused, remove-counted, remove-refused}
use Rattle.claims.specs.Demand1.{Room, LentList, AllZero, Decides, appended_records, removed_records, Printed, Demand1}

-- ---- any call that decides by its tests

-- Every test has a number with a place, or the place 0.
abbrev PlacesSound : List Test → Type 0
PlacesSound ts = every sound_place ts ≡ true

-- No test has a place.
abbrev PlacesNone : List Test → Type 0
PlacesNone ts = every (λ t. eqb t.place 0) ts ≡ true

-- So such a call gives none.
no-places : (ts : List Test) → PlacesNone ts → 0 ≡ first_place ts
unfolding first_place
no-places [] e = refl
no-places (t ∷ ts) e = go t.applies (eqb-true t.place 0 (and_l (eqb t.place 0) (every (λ u. eqb u.place 0) ts) e)) (no-places ts (and_r (eqb t.place 0) (every (λ u. eqb u.place 0) ts) e))
  where
    go : (b : Bool) → t.place ≡ 0 → 0 ≡ first_place ts → 0 ≡ cond b t.place (first_place ts)
    go true z next = sym z
    go false z next = next

module _ {A : Type 0} (fixed numbers : List ℕ) (fault : A → Fault) (others : A → List ℕ) (d : Decision A) (rooms : List Room) where
  -- The answer and every room go by the one decision; a refused answer has its number and its place, and every other number 0.
  pub decides : holds numbers 0 ≡ false → map (λ t. t.number) d.tests ≡ numbers → keep (holds numbers) fixed ≡ numbers
      → map (λ r. r.after) rooms ≡ map (λ r. after_of d r.written r.before) rooms
      → fault d.accepted ≡ fault_at 0 0 → ((k : ℕ) → fault (d.refused k) ≡ fault_at k (first_place d.tests)) → PlacesSound d.tests
      → ((k : ℕ) → AllZero (others (d.refused k)))
      → Decides fixed numbers fault others d (answer_of d) rooms
  decides some tested order after none given sound zeros = record {
    tested = tested;
    order = order;
    exact = decide-exact number d.tests d.accepted d.refused numbered-so none_number given-number;
    placed = λ k first. place ∙ place-first d.tests k first;
    no_place = λ e. place ∙ place-zero d.tests ((every-is sound_place d.tests).0 sound) (ap has_place (sym refusal) ∙ e);
    accepts = λ e. let f = sym refusal ∙ e in (decide-accepted d.tests d.accepted d.refused f, after ∙ rw (eq-eqb (first_fault d.tests) 0 f));
    refuses = λ n.
        let f : first_fault d.tests ≢ 0 = λ z. n (refusal ∙ z) in (
          subst (λ (x : A). AllZero (others x)) (sym (decide-refused d.tests d.accepted d.refused (first_fault d.tests) f refl)) (zeros (first_fault d.tests)),
          after ∙ rw (ne_eqb (first_fault d.tests) 0 f),
        );
  }
    where
      number : A → ℕ
      number x = (fault x).number

      none_number : number d.accepted ≡ 0
      none_number = ap (λ (f : Fault). f.number) none

      given-number : (k : ℕ) → number (d.refused k) ≡ k
      given-number k = ap (λ (f : Fault). f.number) (given k)

      numbered-so : Numbered d.tests
      numbered-so = numbered d.tests (ap (λ l. holds l 0) tested ∙ some)

      refusal : number (answer_of d) ≡ first_fault d.tests
      refusal = decide-number number d.tests d.accepted d.refused none_number given-number

      place : (fault (answer_of d)).place ≡ first_place d.tests
      place = go (ℕ_discrete (first_fault d.tests) 0)
        where
          go : Dec (first_fault d.tests ≡ 0) → (fault (answer_of d)).place ≡ first_place d.tests
          go (yes e) = ap (λ (x : A). (fault x).place) (decide-accepted d.tests d.accepted d.refused e) ∙ ap (λ (f : Fault). f.place) none ∙ sym (place_none d.tests numbered-so e)
          go (no n) = ap (λ (x : A). (fault x).place) (decide-refused d.tests d.accepted d.refused (first_fault d.tests) n refl) ∙ ap (λ (f : Fault). f.place) (given (first_fault d.tests))

-- ---- the printed report

report-printed : (bytes : List ℕ) → Printed bytes
unfolding stored_fault stored_place holds
report-printed bytes = record {
  tested = refl;
  exact = record { refused = fault-first (stored_tests bytes); accepted = no-fault (stored_tests bytes) (numbered (stored_tests bytes) refl) };
  placed = λ number first. place-first (stored_tests bytes) number first;
  accepts = report-read bytes;
  refuses = report-refused bytes;
}

-- ---- the lent lists

append-lent : (form product : List ℕ) (list : List PointRecord) (room : List ℕ)
    → LentList (append_answer form product list room).refusal (appended_records form product list) list (append_list_after form product list room)
append-lent form product list room = record {
  accepts = λ z. append-counted form product list room z ∙ first-front (appended_at (length (form_products form)) (decode_product product)) (2 ^ form_variables form) list;
  refuses = append-refused form product list room;
}

remove-lent : (form : List ℕ) (list : List PointRecord) (room : List ℕ)
    → LentList (remove_answer form list room).refusal (removed_records form list) list (remove_list_after form list room)
remove-lent form list room = record {
  accepts = λ z. remove-counted form list room z ∙ first-front (removed_at (last_product form)) (2 ^ form_variables form) list;
  refuses = remove-refused form list room;
}

-- ---- the calls

pub demand1 : Demand1
unfolding holds keep has_place table_tests read_place compare_place read_answer read_on_after read_free_after compare_answer compare_after linear_space_answer complete_answer complete_after analyse_answer analyse_after affine_answer affine_after records_of listing_answer_by listing_after_by points_answer points_after rewrite_answer rewrite_after write_answer write_after report_answer report_after build_answer append_answer append_after remove_answer remove_after
demand1 = record {
  read_table = λ bytes on free. decides _ _ _ _ (read_call bytes (length on) (length free)) _ refl refl refl refl refl (λ k. refl) refl (λ k. refl);
  compare = λ left right first room. decides _ _ _ _ (compare_call left right first room) _ refl refl refl refl refl (λ k. refl) refl (λ k. refl);
  linear_space = λ n on. decides _ _ _ _ (linear_space_call n on) _ refl refl refl refl refl (λ k. ap (fault_at k) (no-places (linear_space_call n on).tests refl)) refl (λ k. refl);
  complete = λ n on free room. decides _ _ _ _ (complete_call n on free room) _ refl refl refl refl refl (λ k. ap (fault_at k) (no-places (complete_call n on free room).tests refl)) refl (λ k. refl);
  analyse = λ n on free room. decides _ _ _ _ (analyse_call n on free room) _ refl refl refl refl refl (λ k. ap (fault_at k) (no-places (analyse_call n on free room).tests refl)) refl (λ k. refl);
  affine = λ n on room. decides _ _ _ _ (affine_call n on room) _ refl refl refl refl refl (λ k. ap (fault_at k) (no-places (affine_call n on room).tests refl)) refl (λ k. refl);
  never-shared = λ on. refuted (shared on []) (λ e. (shared-mem on [] e).2);
  list_primes = λ n on free place allowance room. decides _ _ _ _ (listing_call (call_of n on free place allowance room)) _ refl refl refl refl refl (λ k. ap (fault_at k) (no-places (listing_call (call_of n on free place allowance room)).tests refl)) refl (λ k. refl);
  write_form = λ n on free room. decides _ _ _ _ (write_call n on free room) _ refl refl refl refl refl (λ k. ap (fault_at k) (no-places (write_call n on free room).tests refl)) refl (λ k. refl);
  form_points = λ bytes room. decides _ _ _ _ (points_call bytes room) _ refl refl refl refl refl (λ k. refl) refl (λ k. refl);
  form_rewrite = λ bytes room. decides _ _ _ _ (rewrite_call bytes room) _ refl refl refl refl refl (λ k. refl) refl (λ k. refl);
  index_build = λ form list. decides _ _ _ _ (build_call form (length list)) _ refl refl refl refl refl (λ k. refl) refl (λ k. refl);
  index_build_list = λ form list. record { accepts = build-left form list; refuses = build-refused form list };
  index_append = λ form product list room. decides _ _ _ _ (append_to form product list room) _ refl refl refl refl refl (λ k. refl) refl (λ k. refl);
  index_append_list = append-lent;
  index_remove = λ form list room. decides _ _ _ _ (remove_from form list room) _ refl refl refl refl refl (λ k. refl) refl (λ k. refl);
  index_remove_list = remove-lent;
  report = λ bytes room. decides _ _ _ _ (report_call bytes room) _ refl refl refl refl refl (λ k. ap (fault_at k) (no-places (report_call bytes room).tests refl)) refl (λ k. refl);
  printed = report-printed;
}
