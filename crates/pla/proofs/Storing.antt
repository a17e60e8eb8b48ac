-- What is written is a stored table: its reader accepts it and reads back n, the on points and the free points (`table-stored`, `call-stored`).
-- Read next: Examples.
use mathlib.Core.Path.{◌≡◌, refl, sym, ap, ◌∙◌}
use mathlib.Core.Bool.{Bool, true, false, cond, not, ◌&&◌, ◌||◌}
use mathlib.Core.Logic.{inl}
use mathlib.Core.List.{List, [], ◌∷◌, ◌++◌, map, append-nil}
use Prim.Native.Nat.{ℕ, zero, suc, ◌^◌, ◌≤◌, ◌<◌}
use native.Mathlib.Decide.{ℕ_discrete}
use native.Mathlib.Omega.{arith}
use lib.ListN.{length}
use lib.Pow.{pow_mono}
use Rattle.gf2.specs.Limits.{max_variables}
use Rattle.gf2.specs.Finite.{Mem, holds, Rising, select}
use Rattle.gf2.proofs.Logic.{or-none}
use Rattle.gf2.proofs.Finite.{map_snoc, select-mem, select-rising}
use Rattle.table.specs.Flags.{max_points}
use Rattle.table.specs.Refusal.{first_fault}
use Rattle.table.specs.Decision.{front, room_test}
use Rattle.table.proofs.FirstFault.{no-fault, numbered, fault-before}
use Rattle.table.proofs.Decide.{decide-accepted, decide-refused}
use Rattle.table.proofs.Table.{good-count, not-outside, not-unordered}
use Rattle.stored.specs.Marks.{Mark, mark, marked_points, stored_variables, stored_on, stored_free}
use Rattle.stored.specs.Encoding.{encode_table}
use Rattle.stored.specs.Stored.{stored_fault}
use Rattle.stored.proofs.Encodings.{encoded-laid, encoded-variables, encoded-marks}
use Rattle.stored.proofs.Points.{points-append}
use Rattle.pla_cubes.specs.Cubes.{Row}
use Rattle.pla_cubes.specs.Meaning.{on_at, free_at}
use Rattle.pla_text.specs.declared.TableType.{TableType}
use Rattle.std.proofs.Common.{Option, is_none}
use Rattle.pla_lines.specs.Lines.{variables_of}
use Rattle.pla_lines.specs.Reading.{Gathered, read_text}
use Rattle.pla_lines.proofs.Going.{text-bounded, text-given}
use Rattle.pla.specs.Answer.{end_tests, text_tests, table_found, PlaRead, pla_tests, accepted_pla, refused_pla, pla_answer, pla_after}
use Rattle.pla.specs.Table.{mark_of, marks_below, stored_table}
use Rattle.pla.proofs.Marking.{marks-few}
use Rattle.pla.proofs.Answering.{line-fault, end-faults}

-- The bytes are a stored table of n variables with these on and free points.
pub record Stored (n : ℕ) (on free : ℕ → Bool) (bytes : List ℕ) : Type 0 where
  pub accepted : stored_fault bytes ≡ 0
  pub variables : stored_variables bytes ≡ n
  pub on-points : stored_on bytes ≡ select on (2 ^ n)
  pub free-points : stored_free bytes ≡ select (λ p. not (on p) && free p) (2 ^ n)

-- ---- the points of the marks

module _ (on free : ℕ → Bool) where
  all-points : (k : ℕ) → map (λ m. m.point) (marks_below on free k) ≡ select (λ p. on p || free p) k
  unfolding marks_below mark_of select
  all-points zero = refl
  all-points (suc k) = go (on k) (free k) (all-points k)
    where
      go : (a b : Bool) → map (λ m. m.point) (marks_below on free k) ≡ select (λ p. on p || free p) k
          → map (λ m. m.point) (marks_below on free k ++ mark_of a b k) ≡ cond (a || b) (select (λ p. on p || free p) k ++ (k ∷ [])) (select (λ p. on p || free p) k)
      go true b e = map_snoc (λ m. m.point) (marks_below on free k) (mark true k) ∙ ap (λ (l : List ℕ). l ++ (k ∷ [])) e
      go false true e = map_snoc (λ m. m.point) (marks_below on free k) (mark false k) ∙ ap (λ (l : List ℕ). l ++ (k ∷ [])) e
      go false false e = ap (map (λ m. m.point)) (append-nil (marks_below on free k)) ∙ e

  on-marked : (k : ℕ) → marked_points true (marks_below on free k) ≡ select on k
  unfolding marks_below mark_of select marked_points
  on-marked zero = refl
  on-marked (suc k) = points-append true (marks_below on free k) (mark_of (on k) (free k) k) ∙ go (on k) (free k) (on-marked k)
    where
      go : (a b : Bool) → marked_points true (marks_below on free k) ≡ select on k
          → marked_points true (marks_below on free k) ++ marked_points true (mark_of a b k) ≡ cond a (select on k ++ (k ∷ [])) (select on k)
      go true b e = ap (λ (l : List ℕ). l ++ (k ∷ [])) e
      go false true e = append-nil (marked_points true (marks_below on free k)) ∙ e
      go false false e = append-nil (marked_points true (marks_below on free k)) ∙ e

  free-marked : (k : ℕ) → marked_points false (marks_below on free k) ≡ select (λ p. not (on p) && free p) k
  unfolding marks_below mark_of select marked_points
  free-marked zero = refl
  free-marked (suc k) = points-append false (marks_below on free k) (mark_of (on k) (free k) k) ∙ go (on k) (free k) (free-marked k)
    where
      go : (a b : Bool) → marked_points false (marks_below on free k) ≡ select (λ p. not (on p) && free p) k
          → marked_points false (marks_below on free k) ++ marked_points false (mark_of a b k)
          ≡ cond (not a && b) (select (λ p. not (on p) && free p) k ++ (k ∷ [])) (select (λ p. not (on p) && free p) k)
      go true b e = append-nil (marked_points false (marks_below on free k)) ∙ e
      go false true e = ap (λ (l : List ℕ). l ++ (k ∷ [])) e
      go false false e = append-nil (marked_points false (marks_below on free k)) ∙ e

-- ---- the table

module _ (on free : ℕ → Bool) (n : ℕ) (some : 1 ≤ n) (few : n ≤ max_variables) where
  abbrev ms : List Mark
  ms = marks_below on free (2 ^ n)

  sound : stored_fault (encode_table n ms) ≡ 0
  unfolding stored_fault first_fault
  sound =
      let long : length ms ≤ max_points = omega (arith, marks-few on free (2 ^ n), pow_mono few) in
      let points = all-points on free (2 ^ n) in
      let below : (p : ℕ) → Mem p (map (λ m. m.point) ms) → p < 2 ^ n = λ p k. (select-mem (λ q. on q || free q) (2 ^ n) p (rw points at k)).0 in
      let rises : Rising (map (λ m. m.point) ms) = rw points (select-rising (λ q. on q || free q) (2 ^ n)) in
      rw (
        encoded-laid n ms long,
        encoded-variables n ms,
        encoded-marks n ms,
        (good-count n).1 (some, few),
        not-outside n (map (λ m. m.point) ms) below,
        not-unordered (map (λ m. m.point) ms) rises,
      )

  pub marks-stored : Stored n on free (encode_table n ms)
  marks-stored =
      record {
        accepted = sound;
        variables = encoded-variables n ms;
        on-points = ap (marked_points true) (encoded-marks n ms) ∙ on-marked on free (2 ^ n);
        free-points = ap (marked_points false) (encoded-marks n ms) ∙ free-marked on free (2 ^ n);
      }

-- The stored table of rows.
pub table-stored : (kind : Option TableType) (n : ℕ) (rows : List Row) → 1 ≤ n → n ≤ max_variables → Stored n (on_at rows) (free_at kind rows) (stored_table kind n rows)
unfolding stored_table
table-stored kind n rows some few = marks-stored (on_at rows) (free_at kind rows) n some few

-- ---- the call

module _ (text : List ℕ) (output : ℕ) (room : List ℕ) (accepts : (pla_answer text output room).refusal ≡ 0) where
  abbrev f : Gathered
  f = read_text output text

  none : first_fault (pla_tests output f room) ≡ 0
  unfolding pla_answer
  none = go (ℕ_discrete (first_fault (pla_tests output f room)) 0)
    where
      go : Dec (first_fault (pla_tests output f room) ≡ 0) → first_fault (pla_tests output f room) ≡ 0
      go (yes e) = e
      go (no n) = absurd (n (ap (λ (r : PlaRead). r.refusal) (sym (decide-refused (pla_tests output f room) (accepted_pla f) (refused_pla f) _ n refl)) ∙ accepts))

  text-none : first_fault (text_tests output f) ≡ 0
  text-none = go (ℕ_discrete (first_fault (text_tests output f)) 0)
    where
      go : Dec (first_fault (text_tests output f) ≡ 0) → first_fault (text_tests output f) ≡ 0
      go (yes e) = e
      go (no n) = sym (fault-before (text_tests output f) (room_test (table_found f) room) n) ∙ none

  no_line : f.fault ≡ 0
  no_line = go (ℕ_discrete f.fault 0)
    where
      go : Dec (f.fault ≡ 0) → f.fault ≡ 0
      go (yes e) = e
      go (no n) = line-fault output f n ∙ text-none

  some-inputs : 1 ≤ variables_of f.head
  unfolding holds
  some-inputs =
      let e = (no-fault (end_tests output f.head) (numbered (end_tests output f.head) refl)).0 (end-faults output f no_line ∙ text-none) _ (inl refl) in
      text-given output text (or-none (is_none f.head.variables) (is_none f.head.outputs) e).0

  -- An accepted call has written the stored table of what was found, and it is accepted by the table's reader.
  pub call-stored : Stored (variables_of f.head) (on_at f.rows) (free_at f.head.kind f.rows) (table_found f) × (pla_after text output room ≡ front (table_found f) room)
  unfolding pla_after
  call-stored = (
    table-stored f.head.kind (variables_of f.head) f.rows some-inputs (text-bounded output text),
    decide-accepted (pla_tests output f room) (front (table_found f) room) (λ number. room) none,
  )
