-- Demand 1: every table, form and number gets an answer; what is wrong is refused under one fixed number, in one fixed order, with its byte place where the
-- number has one, every other number 0 and all lent memory as before. No public call has a `requires`. Its contract (crates/glospruma/src/lib.rt) says that it returns the answer
-- and leaves each lent room as its line here names them, under the names of its parameters, so what is said of these is said of the running
-- calls, on all inputs; a test of the documents compares the two. Read next: Demand2.
use Rattle.std.specs.Prelude.{◌≡◌, false, ◌≢◌, List, [], ◌∷◌, ◌++◌, map, ℕ, ◌^◌, length, replicate, take}
use Rattle.gf2.specs.Finite.{holds}
use Rattle.basis.specs.declared.Basis.{Basis}
use Rattle.basis.specs.declared.ShortList.{ShortList}
use Rattle.table.specs.Refusal.{Fault}
use Rattle.table.specs.Refusal.{has_place, fault_at, First, Exact, variables_fault, point_fault, order_fault, shared_fault, size_fault, affine_fault, room_fault, place_fault, counts_fault, first_point_fault, empty_form_fault, records_fault, too_many_products_fault}
use Rattle.table.specs.Decision.{front, Decision}
use Rattle.table.specs.Table.{shared}
use Rattle.stored.specs.declared.TableRead.{TableRead}
use Rattle.stored.specs.Marks.{stored_variables, stored_on, stored_free}
use Rattle.stored.specs.Stored.{table_faults, stored_tests, stored_fault, stored_place}
use Rattle.stored.specs.Reading.{read_call, read_answer, read_on_after, read_free_after}
use Rattle.compare.specs.declared.Comparison.{Comparison}
use Rattle.compare.specs.Answer.{compare_bytes, compare_call, compare_answer, compare_after}
use Rattle.space.specs.Completion.{completed_points}
use Rattle.space_answer.specs.declared.LinearSpace.{LinearSpace}
use Rattle.analysis.specs.declared.Completion.{Completion}
use Rattle.analysis.specs.declared.Analysis.{Analysis}
use Rattle.analysis.specs.declared.AffineSpace.{AffineSpace}
use Rattle.analysis.specs.Spaces.{linear_space_call, linear_space_answer, complete_call, complete_answer, complete_after, completed_restriction, analyse_call, analyse_answer, analyse_after}
use Rattle.analysis.specs.Affine.{affine_projection, affine_call, affine_answer, affine_after}
use Rattle.form.specs.Decoding.{form_variables, form_products, decode_form, decode_product}
use Rattle.form.specs.Refusal.{form_faults, product_faults}
use Rattle.form_calls.specs.declared.FormPoints.{FormPoints}
use Rattle.form_calls.specs.declared.FormRewrite.{FormRewrite}
use Rattle.form_calls.specs.Reading.{points_read, points_call, points_answer, points_after, rewritten, rewrite_call, rewrite_answer, rewrite_after}
use Rattle.cubes.specs.Lists.{keep}
use Rattle.cubes.specs.Listing.{records_of, listing, Answer, listing_call, listing_answer, listing_after}
use Rattle.listing.specs.Answers.{table_of, call_of}
use Rattle.writing.specs.declared.FormWritten.{FormWritten}
use Rattle.writing.specs.Writing.{form_bytes, write_call, write_answer, write_after}
use Rattle.lines.specs.Lines.{fault_line}
use Rattle.table_report.specs.Text.{table_text}
use Rattle.report.specs.declared.ReportWritten.{ReportWritten}
use Rattle.report.specs.Report.{report_text}
use Rattle.report.specs.Answer.{report_call, report_answer, report_after}
use Rattle.index.specs.declared.PointRecord.{PointRecord}
use Rattle.index.specs.declared.Indexed.{Indexed}
use Rattle.index.specs.Records.{form_index}
use Rattle.index.specs.Changes.{appended_at, removed_at, map_first}
use Rattle.index.specs.Answers.{build_call, build_answer, build_after, appended_bytes, append_to, append_answer, append_after, append_list_after, last_product, removed_bytes, remove_from, remove_answer, remove_after, remove_list_after}

-- ---- one call

-- The one fixed order of the refusals of document 01, "Refusal numbers": bytes first, the room last. What is wrong with bytes has a number each (document 02,
-- No. 3), of which one alone can be given: which one, `FaultsTold` says.
abbrev pub refusal_order : List ℕ
refusal_order = form_faults ++ (variables_fault ∷ point_fault ∷ order_fault ∷ shared_fault ∷ affine_fault ∷ size_fault ∷ place_fault ∷ room_fault ∷ [])

-- The order of comparing two tables (document 02, No. 1): all refusals of the left table in that order, all of the right one, then the two of both.
abbrev pub stored_order : List ℕ
stored_order = table_faults ++ (variables_fault ∷ point_fault ∷ order_fault ∷ [])

abbrev pub comparison_order : List ℕ
comparison_order = stored_order ++ (stored_order ++ (counts_fault ∷ first_point_fault ∷ []))

-- The orders of the calls that keep an index (document 02, No. 5): the form's own refusals, the product's own, the two of the list, one of the number of products,
-- and the room for the new form.
abbrev pub append_order : List ℕ
append_order = form_faults ++ (product_faults ++ (room_fault ∷ records_fault ∷ too_many_products_fault ∷ room_fault ∷ []))

abbrev pub remove_order : List ℕ
remove_order = form_faults ++ (room_fault ∷ records_fault ∷ empty_form_fault ∷ room_fault ∷ [])

-- A lent room: the list that an accepted call writes to it, what it held when it was lent, and what it holds as the call returns.
pub record Room : Type 0 where
  pub written : List ℕ
  pub before : List ℕ
  pub after : List ℕ

abbrev pub lent : List ℕ → List ℕ → List ℕ → Room
lent written before after = record { written = written; before = before; after = after }

-- A lent list of records, by the refusal number of its call: accepted, it has the records written at its front, and the rest is as lent; refused, all is.
pub record LentList (refusal : ℕ) (written before after : List PointRecord) : Type 0 where
  pub accepts : refusal ≡ 0 → after ≡ front written before
  pub refuses : refusal ≢ 0 → after ≡ before

-- All of these numbers are 0.
abbrev pub AllZero : List ℕ → Type 0
AllZero numbers = numbers ≡ replicate (length numbers) 0

-- A refusal number of a call whose refusals have no place.
abbrev pub unplaced : ℕ → Fault
unplaced number = fault_at number 0

-- The call has tests of these numbers, taken in the order that is fixed, and returned `returned`, of which `fault` is the refusal number, 0 if it was
-- accepted, with its byte place, and `others` are all other numbers, those of its lists and their lengths included.
pub record Decides {A : Type 0} (fixed numbers : List ℕ) (fault : A → Fault) (others : A → List ℕ) (call : Decision A) (returned : A) (rooms : List Room) : Type 0 where
  pub tested : map (λ t. t.number) call.tests ≡ numbers
  pub order : keep (holds numbers) fixed ≡ numbers
  -- Refusal r is given exactly when a test of number r applies and none before it does; 0 exactly when none applies.
  pub exact : Exact call.tests (fault returned).number
  -- The place is that of the test whose number is given. It is 0 where the number has no place, and so where the call is accepted (document 02, No. 3).
  pub placed : (number : ℕ) (first : First call.tests number) → (fault returned).place ≡ first.found.place
  pub no_place : has_place (fault returned).number ≡ false → (fault returned).place ≡ 0
  -- Accepted: each room has its list at the front, and the rest of it is as lent.
  pub accepts : (fault returned).number ≡ 0 → (returned ≡ call.accepted) × (map (λ r. r.after) rooms ≡ map (λ r. front r.written r.before) rooms)
  -- Refused: every other number is 0, so that every list is empty, and each room is as lent.
  pub refuses : (fault returned).number ≢ 0 → AllZero (others returned) × (map (λ r. r.after) rooms ≡ map (λ r. r.before) rooms)

-- ---- all other numbers of each answer

abbrev pub basis_numbers : Basis → List ℕ
basis_numbers b = b.len ∷ b.vectors

abbrev pub short_numbers : ShortList → List ℕ
short_numbers s = s.len ∷ s.values

abbrev pub read_others : TableRead → List ℕ
read_others r = r.variables ∷ r.on_count ∷ r.free_count ∷ []

abbrev pub compare_others : Comparison → List ℕ
compare_others r = r.records ∷ r.next ∷ r.total ∷ []

abbrev pub linear_space_others : LinearSpace → List ℕ
linear_space_others r = r.degree ∷ basis_numbers r.basis

abbrev pub complete_others : Completion → List ℕ
complete_others r = r.count ∷ r.degree ∷ r.k0 ∷ r.k1 ∷ []

abbrev pub analyse_others : Analysis → List ℕ
analyse_others r = r.degree ∷ r.count ∷ (basis_numbers r.basis ++ (short_numbers r.canonical ++ short_numbers r.equations))

abbrev pub affine_others : AffineSpace → List ℕ
affine_others r = r.least ∷ r.dimension ∷ r.count ∷ basis_numbers r.basis

abbrev pub write_others : FormWritten → List ℕ
write_others r = r.length ∷ r.products ∷ []

abbrev pub listing_others : Answer → List ℕ
listing_others r = r.next ∷ r.passed ∷ r.records ∷ []

abbrev pub points_others : FormPoints → List ℕ
points_others r = r.variables ∷ r.count ∷ []

abbrev pub rewrite_others : FormRewrite → List ℕ
rewrite_others r = r.length ∷ []

abbrev pub report_others : ReportWritten → List ℕ
report_others r = r.length ∷ []

abbrev pub indexed_others : Indexed → List ℕ
indexed_others r = r.variables ∷ r.length ∷ r.products ∷ []

-- ---- the records that a change of an index writes

-- The first 2 ^ n of the list, each as it was or, at a point of the product, counted in or out.
abbrev pub appended_records : List ℕ → List ℕ → List PointRecord → List PointRecord
appended_records form product list =
    take (2 ^ form_variables form) (map_first (appended_at (length (form_products form)) (decode_product product)) (2 ^ form_variables form) list)

abbrev pub removed_records : List ℕ → List PointRecord → List PointRecord
removed_records form list = take (2 ^ form_variables form) (map_first (removed_at (last_product form)) (2 ^ form_variables form) list)

-- ---- the printed report

-- The tests of a stored table decide what is printed: a table refused prints `refused N`, with ` at P` where N has a place, and nothing else. Where only
-- the form is refused, 5 stands in the text of the table.
pub record Printed (bytes : List ℕ) : Type 0 where
  pub tested : map (λ t. t.number) (stored_tests bytes) ≡ 20 ∷ 21 ∷ 25 ∷ 26 ∷ 1 ∷ 2 ∷ 3 ∷ []
  pub exact : Exact (stored_tests bytes) (stored_fault bytes)
  pub placed : (number : ℕ) (first : First (stored_tests bytes) number) → stored_place bytes ≡ first.found.place
  pub accepts : stored_fault bytes ≡ 0 → report_text bytes ≡ table_text (stored_variables bytes) (stored_on bytes) (stored_free bytes)
  pub refuses : stored_fault bytes ≢ 0 → report_text bytes ≡ fault_line (stored_fault bytes) (stored_place bytes)

-- ---- every public call, on all inputs

pub record Demand1 : Type 0 where
  pub read_table : (bytes on free : List ℕ)
      → Decides refusal_order (20 ∷ 21 ∷ 25 ∷ 26 ∷ 1 ∷ 2 ∷ 3 ∷ 7 ∷ []) (λ r. fault_at r.refusal r.place) read_others
      (read_call bytes (length on) (length free)) (read_answer bytes (length on) (length free))
      (lent (stored_on bytes) on (read_on_after bytes on free) ∷ lent (stored_free bytes) free (read_free_after bytes on free) ∷ [])
  -- Where both tables are refused, the left number is given. A room that runs short stops the listing: there is no 7.
  pub compare : (left right : List ℕ) (first : ℕ) (room : List ℕ)
      → Decides comparison_order (20 ∷ 21 ∷ 25 ∷ 26 ∷ 1 ∷ 2 ∷ 3 ∷ 20 ∷ 21 ∷ 25 ∷ 26 ∷ 1 ∷ 2 ∷ 3 ∷ 10 ∷ 11 ∷ []) (λ r. fault_at r.refusal r.place) compare_others
      (compare_call left right first room) (compare_answer left right first room)
      (lent (compare_bytes left right first room) room (compare_after left right first room) ∷ [])
  pub linear_space : (n : ℕ) (on : List ℕ)
      → Decides refusal_order (1 ∷ 2 ∷ 3 ∷ 4 ∷ []) (λ r. unplaced r.refusal) linear_space_others
      (linear_space_call n on) (linear_space_answer n on)
      []
  pub complete : (n : ℕ) (on free room : List ℕ)
      → Decides refusal_order (1 ∷ 2 ∷ 3 ∷ 4 ∷ 7 ∷ []) (λ r. unplaced r.refusal) complete_others
      (complete_call n on free room) (complete_answer n on free room)
      (lent (completed_points n on free) room (complete_after n on free room) ∷ [])
  pub analyse : (n : ℕ) (on free room : List ℕ)
      → Decides refusal_order (1 ∷ 2 ∷ 3 ∷ 4 ∷ 7 ∷ []) (λ r. unplaced r.refusal) analyse_others
      (analyse_call n on free room) (analyse_answer n on free room)
      (lent (completed_restriction n on free) room (analyse_after n on free room) ∷ [])
  pub affine : (n : ℕ) (on room : List ℕ)
      → Decides refusal_order (1 ∷ 2 ∷ 3 ∷ 4 ∷ 6 ∷ 7 ∷ []) (λ r. unplaced r.refusal) affine_others
      (affine_call n on room) (affine_answer n on room)
      (lent (affine_projection n on) room (affine_after n on room) ∷ [])
  -- The two calls that take on points alone have no free points, so that their test of number 4 never applies.
  pub never-shared : (on : List ℕ) → shared on [] ≡ false
  -- A listing that runs short of room stops and is not refused: there is no 7.
  pub list_primes : (n : ℕ) (on free : List ℕ) (place allowance : ℕ) (room : List ℕ)
      → Decides refusal_order (1 ∷ 2 ∷ 3 ∷ 4 ∷ 5 ∷ 9 ∷ []) (λ r. unplaced r.refusal) listing_others
      (listing_call (call_of n on free place allowance room)) (listing_answer (call_of n on free place allowance room))
      (lent (records_of (table_of n on free) (listing (call_of n on free place allowance room)).primes) room (listing_after (call_of n on free place allowance room)) ∷ [])
  pub write_form : (n : ℕ) (on free room : List ℕ)
      → Decides refusal_order (1 ∷ 2 ∷ 3 ∷ 4 ∷ 5 ∷ 7 ∷ []) (λ r. unplaced r.refusal) write_others
      (write_call n on free room) (write_answer n on free room)
      (lent (form_bytes n on free) room (write_after n on free room) ∷ [])
  pub form_points : (bytes room : List ℕ)
      → Decides refusal_order (20 ∷ 21 ∷ 22 ∷ 23 ∷ 24 ∷ 25 ∷ 26 ∷ 27 ∷ 7 ∷ []) (λ r. fault_at r.refusal r.place) points_others
      (points_call bytes room) (points_answer bytes room)
      (lent (points_read bytes) room (points_after bytes room) ∷ [])
  pub form_rewrite : (bytes room : List ℕ)
      → Decides refusal_order (20 ∷ 21 ∷ 22 ∷ 23 ∷ 24 ∷ 25 ∷ 26 ∷ 27 ∷ 7 ∷ []) (λ r. fault_at r.refusal r.place) rewrite_others
      (rewrite_call bytes room) (rewrite_answer bytes room)
      (lent (rewritten bytes) room (rewrite_after bytes room) ∷ [])
  -- The calls that keep an index: the second line of each is its lent list.
  pub index_build : (form : List ℕ) (list : List PointRecord)
      → Decides refusal_order (20 ∷ 21 ∷ 22 ∷ 23 ∷ 24 ∷ 25 ∷ 26 ∷ 27 ∷ 7 ∷ []) (λ r. fault_at r.refusal r.place) indexed_others
      (build_call form (length list)) (build_answer form list)
      []
  pub index_build_list : (form : List ℕ) (list : List PointRecord)
      → LentList (build_answer form list).refusal (form_index (decode_form form)) list (build_after form list)
  pub index_append : (form product : List ℕ) (list : List PointRecord) (room : List ℕ)
      → Decides append_order (20 ∷ 21 ∷ 22 ∷ 23 ∷ 24 ∷ 25 ∷ 26 ∷ 27 ∷ 20 ∷ 21 ∷ 23 ∷ 24 ∷ 7 ∷ 17 ∷ 27 ∷ 7 ∷ []) (λ r. fault_at r.refusal r.place) indexed_others
      (append_to form product list room) (append_answer form product list room)
      (lent (appended_bytes form product) room (append_after form product list room) ∷ [])
  pub index_append_list : (form product : List ℕ) (list : List PointRecord) (room : List ℕ)
      → LentList (append_answer form product list room).refusal (appended_records form product list) list (append_list_after form product list room)
  pub index_remove : (form : List ℕ) (list : List PointRecord) (room : List ℕ)
      → Decides remove_order (20 ∷ 21 ∷ 22 ∷ 23 ∷ 24 ∷ 25 ∷ 26 ∷ 27 ∷ 7 ∷ 17 ∷ 12 ∷ 7 ∷ []) (λ r. fault_at r.refusal r.place) indexed_others
      (remove_from form list room) (remove_answer form list room)
      (lent (removed_bytes form) room (remove_after form list room) ∷ [])
  pub index_remove_list : (form : List ℕ) (list : List PointRecord) (room : List ℕ)
      → LentList (remove_answer form list room).refusal (removed_records form list) list (remove_list_after form list room)
  -- The call that gives the report is refused only where the text is longer than the room: a refused table has a text too, which is `printed`.
  pub report : (bytes room : List ℕ)
      → Decides refusal_order (7 ∷ []) (λ r. unplaced r.refusal) report_others
      (report_call bytes room) (report_answer bytes room)
      (lent (report_text bytes) room (report_after bytes room) ∷ [])
  pub printed : (bytes : List ℕ) → Printed bytes
