-- Demand 2: the reported linear space is exactly the vectors that can be XORed into every input of the completed table without changing its
-- output; the restriction through the equations gives the table at each point, and so does the written form; the form read back gives the
-- same points; every point marked on is on, every point marked off is off. All of it is said of what the public calls return and leave in
-- their rooms. Each call has a room of its own, and nothing is asked of it but that the call was accepted. Read next: Demand3.
use Rattle.std.specs.Prelude.{◌≡◌, Bool, true, false, ◌↔◌, List, ℕ, ◌+◌, ◌-◌, ◌*◌, ◌^◌, ◌≤◌, ◌<◌, length, take}
use Rattle.gf2.specs.Bits.{◌⊕◌}
use Rattle.gf2.specs.Finite.{Mem, holds, select, Rising}
use Rattle.gf2.specs.Span.{Span}
use Rattle.gf2.specs.Basis.{Reduced, canonical_places, variables_at}
use Rattle.basis.specs.Short.{listed}
use Rattle.basis.specs.Reduced.{vectors_of}
use Rattle.table.specs.Refusal.{size_fault}
use Rattle.space.specs.Completion.{all_on, completed_points}
use Rattle.space.specs.Restriction.{equations, values}
use Rattle.form_calls.specs.declared.FormPoints.{FormPoints}
use Rattle.form_calls.specs.declared.FormRewrite.{FormRewrite}
use Rattle.form.specs.Form.{ValidForm, form_at}
use Rattle.form.specs.Decoding.{decode_form}
use Rattle.form_calls.specs.Reading.{points_answer, points_after, rewrite_answer, rewrite_after}
use Rattle.cubes.specs.Records.{max_listed}
use Rattle.cover.specs.WrittenForm.{written_form}
use Rattle.writing.specs.declared.FormWritten.{FormWritten}
use Rattle.writing.specs.Writing.{write_answer, write_after}
use Rattle.space_answer.specs.declared.LinearSpace.{LinearSpace}
use Rattle.analysis.specs.declared.Completion.{Completion}
use Rattle.analysis.specs.declared.Analysis.{Analysis}
use Rattle.analysis.specs.Spaces.{linear_space_answer, complete_answer, complete_after, analyse_answer, analyse_after}

-- ---- the calls, and what they report

-- The rooms as they were lent: of `complete`, `analyse`, `write_form`, `form_points` and `form_rewrite`.
pub record RoomsLent : Type 0 where
  pub completing : List ℕ
  pub analysing : List ℕ
  pub writing : List ℕ
  pub reading : List ℕ
  pub rewriting : List ℕ

-- What the calls return of a table, and what they hand over: as much of the front of a room as the count that they return.
pub record Reported : Type 0 where
  pub completion : Completion
  pub points : List ℕ
  pub space : LinearSpace
  pub analysis : Analysis
  pub restriction : List ℕ
  pub written : FormWritten
  pub form : List ℕ
  pub reading : FormPoints
  pub back : List ℕ
  pub rewriting : FormRewrite
  pub again : List ℕ

-- `complete`, `analyse` and `write_form` are called on the table, `linear_space` on the points that `complete` handed over, `form_points` and
-- `form_rewrite` on the bytes that `write_form` handed over. The contracts (crates/glospruma/src/lib.rt) say that they return and leave just these.
unfoldable pub reported : ℕ → List ℕ → List ℕ → RoomsLent → Reported
reported n on free lent =
    let points : List ℕ = take (complete_answer n on free lent.completing).count (complete_after n on free lent.completing) in
    let form : List ℕ = take (write_answer n on free lent.writing).length (write_after n on free lent.writing) in
    record {
      completion = complete_answer n on free lent.completing;
      points = points;
      space = linear_space_answer n points;
      analysis = analyse_answer n on free lent.analysing;
      restriction = take (analyse_answer n on free lent.analysing).count (analyse_after n on free lent.analysing);
      written = write_answer n on free lent.writing;
      form = form;
      reading = points_answer form lent.reading;
      back = take (points_answer form lent.reading).count (points_after form lent.reading);
      rewriting = rewrite_answer form lent.rewriting;
      again = take (rewrite_answer form lent.rewriting).length (rewrite_after form lent.rewriting);
    }

-- Bytes that are enough for every form that is written: 5 for its ends, and 62 products of a byte and at most six factors of 4 bytes.
abbrev pub form_room : ℕ
form_room = 5 + 62 * (1 + 4 * max_listed)

-- The completed table at a point.
abbrev pub is_on : Reported → ℕ → Bool
is_on r w = holds r.points w

-- ---- what is said of them

-- `complete` was accepted.
pub record CompleteSays (n : ℕ) (on free : List ℕ) (r : Reported) : Type 0 where
  -- The completed table is that of document 02, No. 4 (what is said of it there is `FreePoints`). Every point marked on is on; every other point that is
  -- not free is off.
  pub completed : r.points ≡ completed_points n on free
  pub marked-on : (w : ℕ) → Mem w on → is_on r w ≡ true
  pub marked-off : (w : ℕ) → (Mem w on → ⊥) → (Mem w free → ⊥) → is_on r w ≡ false
  pub rise : Rising r.points
  pub below : (w : ℕ) → Mem w r.points → w < 2 ^ n
  pub count : r.completion.count ≡ length r.points
  -- k0 and k1 are the degrees that `linear_space` returns with all free points off and with all of them on.
  pub all-off : r.completion.k0 ≡ (linear_space_answer n on).degree
  pub all-on : r.completion.k1 ≡ (linear_space_answer n (select (all_on on free) (2 ^ n))).degree

-- A basis and a degree that are reported of the completed table: the basis is reduced and spans exactly the vectors that can be XORed into every
-- input without changing the output, and the degree is the number of its vectors.
pub record SpaceSays (n : ℕ) (r : Reported) (basis : List ℕ) (degree : ℕ) : Type 0 where
  pub reduced : Reduced basis
  pub exactly : (a : ℕ) → Span basis a ↔ ((a < 2 ^ n) × ((w : ℕ) → w < 2 ^ n → is_on r (w ⊕ a) ≡ is_on r w))
  pub dimension : degree ≡ length basis

-- `analyse` was accepted.
pub record AnalyseSays (n : ℕ) (r : Reported) : Type 0 where
  pub space : SpaceSays n r (vectors_of r.analysis.basis) r.analysis.degree
  -- The canonical variables of that basis, and its equations, in index order: one of them for each variable.
  pub canonical : listed r.analysis.canonical ≡ variables_at n (canonical_places n (vectors_of r.analysis.basis))
  pub masks : listed r.analysis.equations ≡ equations n (vectors_of r.analysis.basis)
  pub variables : length (listed r.analysis.equations) + length (listed r.analysis.canonical) ≡ n
  -- The restriction at the values of the equations is the table at the point. It rises, and has as many variables as there are equations.
  pub through : (w : ℕ) → w < 2 ^ n → holds r.restriction (values (listed r.analysis.equations) w) ≡ is_on r w
  pub rise : Rising r.restriction
  pub below : (y : ℕ) → Mem y r.restriction → y < 2 ^ length (listed r.analysis.equations)
  pub count : r.analysis.count ≡ length r.restriction

-- `write_form` was accepted.
pub record FormSays (n : ℕ) (on free : List ℕ) (lent : RoomsLent) (r : Reported) : Type 0 where
  -- The bytes stand for a form as document 01 admits it, the one written for the table; they and its products are counted.
  pub valid : ValidForm (decode_form r.form)
  pub products : decode_form r.form ≡ record { variables = n; products = written_form n on free }
  pub size : r.written.length ≡ length r.form
  pub count : r.written.products ≡ length (decode_form r.form).products
  -- The form gives the table at each point.
  pub value : (w : ℕ) → w < 2 ^ n → form_at (decode_form r.form) w ≡ is_on r w
  -- Read back into any room that is long enough, it gives the same points, rising, and n.
  pub reads : length r.points ≤ length lent.reading → r.reading.refusal ≡ 0
  pub points : r.reading.refusal ≡ 0 → (r.back ≡ r.points) × (r.reading.count ≡ length r.back) × (r.reading.variables ≡ n)
  -- Written again into any room that is long enough, it has the same bytes.
  pub rewrites : length r.form ≤ length lent.rewriting → r.rewriting.refusal ≡ 0
  pub bytes : r.rewriting.refusal ≡ 0 → (r.again ≡ r.form) × (r.rewriting.length ≡ length r.again)

-- Demand 2, of any table and any rooms: what each call says where it, and `complete` for the completed table, were accepted.
pub record Demand2 (n : ℕ) (on free : List ℕ) (lent : RoomsLent) (r : Reported) : Type 0 where
  pub complete : r.completion.refusal ≡ 0 → CompleteSays n on free r
  -- `linear_space` accepts the points that `complete` handed over, and returns the same degree.
  pub accepted : r.completion.refusal ≡ 0 → r.space.refusal ≡ 0
  pub space : r.completion.refusal ≡ 0 → SpaceSays n r (vectors_of r.space.basis) r.space.degree
  pub degree : r.completion.refusal ≡ 0 → r.completion.degree ≡ r.space.degree
  pub analyse : r.completion.refusal ≡ 0 → r.analysis.refusal ≡ 0 → AnalyseSays n r
  pub form : r.completion.refusal ≡ 0 → r.written.refusal ≡ 0 → FormSays n on free lent r
  -- There is a form exactly where the restriction has at most six variables; otherwise it is refused with 5.
  pub small : r.completion.refusal ≡ 0 → n - r.completion.degree ≤ max_listed → form_room ≤ length lent.writing → r.written.refusal ≡ 0
  pub large : r.completion.refusal ≡ 0 → max_listed < n - r.completion.degree → r.written.refusal ≡ size_fault
