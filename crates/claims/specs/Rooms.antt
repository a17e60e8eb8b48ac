-- Rooms that always suffice. The header and the Rust package give a caller these numbers under the names that stand here in capitals; a test of the
-- documents compares them. Each is a literal beside what it bounds, and one theorem, `rooms-suffice`, says that they do.
use Rattle.std.specs.Prelude.{◌≡◌, true, false, List, [], ℕ, ◌≤◌, ◌<◌, length}
use Rattle.table.specs.Table.{Accepted}
use Rattle.records.specs.Kinds.{Bytes}
use Rattle.stored.specs.Marks.{stored_on, stored_free}
use Rattle.stored.specs.Stored.{stored_fault}
use Rattle.compare.specs.Answer.{table_size, compare_answer}
use Rattle.space.specs.Completion.{completed_points}
use Rattle.form.specs.Form.{max_products}
use Rattle.form.specs.Decoding.{form_variables, form_products, decode_form}
use Rattle.form.specs.Refusal.{form_fault, product_fault}
use Rattle.form_calls.specs.Reading.{points_read, rewritten}
use Rattle.cubes.specs.Records.{max_listed}
use Rattle.cubes.specs.Listing.{Table, Call, records_of, accepted, listing_answer}
use Rattle.cubes.specs.Calls.{primes_behind, end_of}
use Rattle.cover.specs.WrittenForm.{form_size_fault}
use Rattle.writing.specs.Writing.{form_bytes}
use Rattle.report.specs.Report.{report_text}
use Rattle.index.specs.Records.{form_index}
use Rattle.index.specs.Answers.{appended_bytes, removed_bytes}
use Rattle.analysis.specs.Spaces.{completed_restriction}
use Rattle.analysis.specs.Affine.{affine_projection}

pub record RoomsSuffice : Type 0 where
  -- TABLE_LENGTH: the bytes of a stored table that is accepted.
  pub table : (bytes : List ℕ) → stored_fault bytes ≡ 0 → length bytes ≤ 12293
  -- MAX_POINTS: the points that a call writes, of `read_table` on points and free points, of `complete`, `analyse`, `affine` and `form_points`.
  pub read-on : (bytes : List ℕ) → stored_fault bytes ≡ 0 → length (stored_on bytes) ≤ 4096
  pub read-free : (bytes : List ℕ) → stored_fault bytes ≡ 0 → length (stored_free bytes) ≤ 4096
  pub complete : (n : ℕ) (on free : List ℕ) → Accepted n on free → length (completed_points n on free) ≤ 4096
  pub analyse : (n : ℕ) (on free : List ℕ) → Accepted n on free → length (completed_restriction n on free) ≤ 4096
  pub affine : (n : ℕ) (on : List ℕ) → Accepted n on [] → length (affine_projection n on) ≤ 4096
  pub form_points : (bytes : List ℕ) → form_fault bytes ≡ 0 → length (points_read bytes) ≤ 4096
  -- Also the records of an index, one for each point of the form.
  pub index : (form : List ℕ) → form_fault form ≡ 0 → length (form_index (decode_form form)) ≤ 4096
  -- WRITTEN_ROOM: the bytes of the form that is written for a table with at most six variables left.
  pub written : (n : ℕ) (on free : List ℕ) → Accepted n on free → form_size_fault n on free ≡ false → length (form_bytes n on free) ≤ 1555
  -- FORM_ROOM: the bytes of a form that is accepted, those that are written from what was read, and those of the form once a product is appended or taken away.
  pub form : (bytes : List ℕ) → Bytes bytes → form_fault bytes ≡ 0 → length bytes ≤ 3141
  pub form-again : (bytes : List ℕ) → form_fault bytes ≡ 0 → length (rewritten bytes) ≤ 3141
  pub appended : (form product : List ℕ) → form_fault form ≡ 0 → product_fault (form_variables form) product ≡ 0 → length (form_products form) < max_products
      → length (appended_bytes form product) ≤ 3141
  pub removed : (form : List ℕ) → form_fault form ≡ 0 → 0 < length (form_products form) → length (removed_bytes form) ≤ 3141
  -- REPORT_ROOM: the report of any bytes.
  pub report : (bytes : List ℕ) → length (report_text bytes) ≤ 24576
  -- LISTING_ROOM: the records of all primes of a table of at most six variables; so one call from place 0 with an allowance for every candidate
  -- reaches the end.
  pub listing : (t : Table) → t.variables ≤ max_listed → length (records_of t (primes_behind t (end_of t))) ≤ 25425
  pub listing-ends : (c : Call) → accepted c ≡ true → c.place ≡ 0 → end_of c.table ≤ c.allowance → 25425 ≤ length c.room → (listing_answer c).next ≡ end_of c.table
  -- COMPARISON_ROOM: a record for each point of the most variables; so one call from any first point on is done.
  pub compare-ends : (left right : List ℕ) (first : ℕ) (room : List ℕ) → (compare_answer left right first room).refusal ≡ 0 → 16384 ≤ length room
      → (compare_answer left right first room).next ≡ table_size left
