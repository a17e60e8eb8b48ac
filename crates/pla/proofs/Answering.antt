-- Laws of specs.Answer: the refusals in their order, and what the call answers by what it found. Read next: Storing.
use mathlib.Core.Path.{◌≡◌, refl, sym, ap, ◌∙◌}
use mathlib.Core.Bool.{Bool, true, false, not}
use mathlib.Core.Logic.{◌≢◌, inl, inr}
use mathlib.Core.List.{List, [], ◌∷◌}
use Prim.Native.Nat.{ℕ, ◌^◌, ◌≤◌, ◌<◌}
use native.Mathlib.Decide.{ℕ_discrete}
use native.Mathlib.Omega.{arith}
use lib.Dec.{ltb}
use lib.ListN.{length}
use lib.Pow.{pow_mono}
use borrow.Author.Tests.{eq-eqb, ne_eqb, ltb-true, ltb-false}
use Rattle.gf2.specs.Limits.{max_variables}
use Rattle.gf2.specs.Finite.{holds}
use Rattle.gf2.proofs.Finite.{append-mem}
use Rattle.table.specs.Refusal.{Test, test, first_fault, Numbered, Exact, room_fault}
use Rattle.table.specs.Decision.{decide, front, room_after, room_test}
use Rattle.table.proofs.FirstFault.{numbered}
use Rattle.table.proofs.Decide.{decide-accepted, decide-refused, decide-exact, call-refused, call-short, call-accepted}
use Rattle.stored.specs.Layout.{table_length, longest_table}
use Rattle.stored.specs.Encoding.{encode_table}
use Rattle.pla_cubes.specs.Cubes.{Row}
use Rattle.pla_cubes.specs.Meaning.{on_at, free_at, free_by}
use Rattle.pla_cubes.specs.Flagging.{Flagged}
use Rattle.pla_cubes.specs.declared.PointFlags.{PointFlags}
use Rattle.pla_text.specs.declared.TableType.{TableType}
use Rattle.std.proofs.Common.{Option}
use Rattle.pla_lines.specs.declared.Head.{Head}
use Rattle.pla_lines.specs.declared.Reading.{Reading}
use Rattle.pla_lines.specs.Lines.{variables_of}
use Rattle.pla_lines.specs.Reading.{Gathered, read_text}
use Rattle.pla_lines.specs.Bounds.{GatheredBy}
use Rattle.pla_lines.proofs.Going.{text-bounded}
use Rattle.pla_lines.proofs.Judging.{fault-some}
use Rattle.pla.specs.declared.PlaRefusal.{PlaRefusal}
use Rattle.pla.specs.declared.PlaRefusal.TheVariants as refusal
use Rattle.pla.specs.Table.{flag_on, flag_free, flag_marks, marks_of, stored_table}
use Rattle.pla.specs.Answer.{end_tests, text_tests, table_found, PlaRead, pla_tests, accepted_pla, refused_pla, pla_answer, pla_after, number_of}
use Rattle.pla.proofs.Marking.{marks-ext, marks-few, table-length}

-- ---- the flags give the marks of the rows

pub flag-marks : (kind : Option TableType) (n : ℕ) (flags : List PointFlags) (rows : List Row) → n ≤ max_variables → Flagged flags rows → flag_marks kind n flags ≡ marks_of kind n rows
flag-marks kind n flags rows h f =
    marks-ext _ _ _ _ (2 ^ n) (λ p l. let k : p < 2 ^ 12 = omega (arith, pow_mono h) in (
      ap (λ (said : PointFlags). said.one) (f.points p k),
      ap (λ (said : PointFlags). free_by kind said.zero said.dash) (f.points p k),
    ))

-- ---- the tests of a text

pub line-fault : (output : ℕ) (f : Gathered) → f.fault ≢ 0 → f.fault ≡ first_fault (text_tests output f)
unfolding text_tests first_fault
line-fault output f n = rw (ne_eqb f.fault 0 n)

pub end-faults : (output : ℕ) (f : Gathered) → f.fault ≡ 0 → first_fault (end_tests output f.head) ≡ first_fault (text_tests output f)
unfolding text_tests
end-faults output f e = rw (eq-eqb f.fault 0 e)

-- None of them gives 0.
pub text-numbered : (output : ℕ) (f : Gathered) → Numbered (text_tests output f)
unfolding text_tests holds
text-numbered output f = go (ℕ_discrete f.fault 0)
  where
    go : Dec (f.fault ≡ 0) → Numbered (text_tests output f)
    go (yes e) = rw (eq-eqb f.fault 0 e) (numbered (end_tests output f.head) refl)
    go (no n) = rw (ne_eqb f.fault 0 n) (alone n)
      where
        alone : f.fault ≢ 0 → Numbered (test f.fault (not false) ∷ [])
        alone n t (inl e) z = n (sym (ap (λ (x : Test). x.number) e) ∙ z)
        alone n t (inr k) z = k

-- ---- the answer by what was found

module _ (text : List ℕ) (output : ℕ) (room : List ℕ) where
  abbrev f : Gathered
  f = read_text output text

  pub pla-refused : (k : ℕ) → k ≡ first_fault (text_tests output f) → k ≢ 0 → (refused_pla f k ≡ pla_answer text output room) × (room ≡ pla_after text output room)
  unfolding pla_answer pla_after
  pla-refused = call-refused (text_tests output f) (table_found f) room (accepted_pla f) (refused_pla f)

  pub pla-short : first_fault (text_tests output f) ≡ 0 → length room < length (table_found f) → (refused_pla f room_fault ≡ pla_answer text output room) × (room ≡ pla_after text output room)
  unfolding pla_answer pla_after
  pla-short = call-short (text_tests output f) (table_found f) room (accepted_pla f) (refused_pla f) (text-numbered output f)

  pub pla-accepted : first_fault (text_tests output f) ≡ 0 → length (table_found f) ≤ length room
      → (accepted_pla f ≡ pla_answer text output room) × (front (table_found f) room ≡ pla_after text output room)
  unfolding pla_answer pla_after
  pla-accepted = call-accepted (text_tests output f) (table_found f) room (accepted_pla f) (refused_pla f) (text-numbered output f)

-- ---- a room for the longest table

-- The stored table of what was found is never longer than the longest table.
pub found-fits : (output : ℕ) (text : List ℕ) → length (table_found (read_text output text)) ≤ longest_table
unfolding stored_table
found-fits output text =
    let f = read_text output text in
    let marks = marks_of f.head.kind (variables_of f.head) f.rows in
    omega (arith, table-length (variables_of f.head) marks, marks-few (on_at f.rows) (free_at f.head.kind f.rows) (2 ^ variables_of f.head), pow_mono (text-bounded output text))

-- So where the room has as many bytes, the tests of the text alone decide.
pub pla-roomy : (text : List ℕ) (output : ℕ) (room : List ℕ) → longest_table ≤ length room
    → (pla_answer text output room ≡ decide (text_tests output (read_text output text)) (accepted_pla (read_text output text)) (refused_pla (read_text output text)))
    × (pla_after text output room ≡ room_after (text_tests output (read_text output text)) (table_found (read_text output text)) room)
pla-roomy text output room h = go (ℕ_discrete (first_fault (text_tests output (read_text output text))) 0)
  where
    go : Dec (first_fault (text_tests output (read_text output text)) ≡ 0)
        → (pla_answer text output room ≡ decide (text_tests output (read_text output text)) (accepted_pla (read_text output text)) (refused_pla (read_text output text)))
        × (pla_after text output room ≡ room_after (text_tests output (read_text output text)) (table_found (read_text output text)) room)
    go (yes z) = let k = pla-accepted text output room z (omega (arith, found-fits output text)) in (
      sym k.0 ∙ sym (decide-accepted (text_tests output (read_text output text)) (accepted_pla (read_text output text)) (refused_pla (read_text output text)) z),
      sym k.1 ∙ sym (decide-accepted (text_tests output (read_text output text)) (front (table_found (read_text output text)) room) (λ number. room) z),
    )
    go (no n) = let k = pla-refused text output room _ refl n in (
      sym k.0 ∙ sym (decide-refused (text_tests output (read_text output text)) (accepted_pla (read_text output text)) (refused_pla (read_text output text)) _ n refl),
      sym k.1 ∙ sym (decide-refused (text_tests output (read_text output text)) (front (table_found (read_text output text)) room) (λ number. room) _ n refl),
    )

-- ---- what the code has read

-- The answer where a line is at fault.
pub line_refused : (text : List ℕ) (output : ℕ) (room : List ℕ) (fault line : ℕ) (reading : Reading) → GatheredBy fault line reading (read_text output text) → fault ≢ 0
    → (◌≡◌ {A = PlaRead} (record { refusal = fault; line = line; length = 0 }) (pla_answer text output room)) × (room ≡ pla_after text output room)
line_refused text output room fault line reading a n =
    let m : (read_text output text).fault ≢ 0 = λ e. n (a.fault ∙ e) in
    let k = pla-refused text output room (read_text output text).fault (line-fault output (read_text output text) m) m in
    (answered a.fault ∙ k.0, k.1)
  where
    answered : {x y : ℕ} → x ≡ y → ◌≡◌ {A = PlaRead} (record { refusal = x; line = line; length = 0 }) (refused_pla (read_text output text) y)
    answered e = rw (e, a.line)

module _ (text : List ℕ) (output : ℕ) (r : Reading) (a : GatheredBy 0 0 r (read_text output text)) where
  -- The refusal at the end.
  pub end-fault : {fault : ℕ} → fault ≡ first_fault (end_tests output r.head) → fault ≡ first_fault (text_tests output (read_text output text))
  end-fault e = e ∙ ap (λ (h : Head). first_fault (end_tests output h)) a.head ∙ end-faults output (read_text output text) (sym a.fault)

  -- The answer where the end is.
  pub end_refused : (room : List ℕ) (fault : ℕ) → fault ≡ first_fault (end_tests output r.head) → fault ≢ 0
      → (◌≡◌ {A = PlaRead} (record { refusal = fault; line = 0; length = 0 }) (pla_answer text output room)) × (room ≡ pla_after text output room)
  end_refused room fault e n =
      let k = pla-refused text output room fault (end-fault e) n in
      (ap (λ (l : ℕ). record { refusal = fault; line = l; length = 0 }) a.line ∙ k.0, k.1)

  module _ (n : ℕ) (inputs : variables_of r.head ≡ n) where
    -- There are never more inputs than variables of a table, and never more marks than points.
    pub few-inputs : n ≤ max_variables
    few-inputs = rw (← inputs, a.head) (text-bounded output text)

    pub few-marks : length (flag_marks r.head.kind n r.flags) ≤ 4096
    few-marks = omega (arith, marks-few (flag_on r.flags) (flag_free r.head.kind r.flags) (2 ^ n), pow_mono few-inputs)

    same-marks : flag_marks r.head.kind n r.flags ≡ marks_of (read_text output text).head.kind n (read_text output text).rows
    same-marks =
        flag-marks r.head.kind n r.flags (read_text output text).rows few-inputs a.flagged
        ∙ ap (λ (h : Head). marks_of h.kind n (read_text output text).rows) a.head

    pub same-table : encode_table n (flag_marks r.head.kind n r.flags) ≡ table_found (read_text output text)
    unfolding stored_table
    same-table =
        ap (encode_table n) same-marks
        ∙ ap (λ (k : ℕ). encode_table k (marks_of (read_text output text).head.kind k (read_text output text).rows)) (sym inputs ∙ ap variables_of a.head)

    pub same-table-length : length (table_found (read_text output text)) ≡ table_length (length (flag_marks r.head.kind n r.flags))
    same-table-length = ap length (sym same-table) ∙ table-length n (flag_marks r.head.kind n r.flags)

    -- The answer where the room is short.
    pub room-refused : (room : List ℕ) → 0 ≡ first_fault (end_tests output r.head) → length room < table_length (length (flag_marks r.head.kind n r.flags))
        → (◌≡◌ {A = PlaRead} (record { refusal = room_fault; line = 0; length = 0 }) (pla_answer text output room)) × (room ≡ pla_after text output room)
    room-refused room e h =
        let k = pla-short text output room (sym (end-fault e)) (omega (arith, same-table-length)) in
        (ap (λ (l : ℕ). record { refusal = room_fault; line = l; length = 0 }) a.line ∙ k.0, k.1)

    pub text-accepted : (room next : List ℕ) (long : ℕ) → 0 ≡ first_fault (end_tests output r.head) → long ≡ table_length (length (flag_marks r.head.kind n r.flags)) → long ≤ length room
        → next ≡ front (encode_table n (flag_marks r.head.kind n r.flags)) room
        → (◌≡◌ {A = PlaRead} (record { refusal = 0; line = 0; length = long }) (pla_answer text output room)) × (next ≡ pla_after text output room)
    text-accepted room next long e l h q =
        let k = pla-accepted text output room (sym (end-fault e)) (omega (arith, same-table-length)) in (
          ap (λ (x : ℕ). record { refusal = 0; line = 0; length = x }) (l ∙ sym same-table-length) ∙ k.0,
          q ∙ ap (λ (t : List ℕ). front t room) same-table ∙ k.1,
        )

-- No refusal has the number 0.
pub refusal-some : (refused : PlaRefusal) → number_of refused ≢ 0
refusal-some (refusal.Line fault line) z = fault-some fault z
refusal-some refusal.Head z = omega arith
refusal-some refusal.Count z = omega arith
refusal-some refusal.Output z = omega arith
refusal-some refusal.Room z = omega arith

-- ---- the length returned

-- What is written lies in the room.
pub pla-length : (text : List ℕ) (output : ℕ) (room : List ℕ) → (pla_answer text output room).length ≤ length room
pla-length text output room = go (ℕ_discrete (first_fault (text_tests output (read_text output text))) 0) (ltb (length room) (length (table_found (read_text output text)))) refl
  where
    go : Dec (first_fault (text_tests output (read_text output text)) ≡ 0) → (t : Bool) → ltb (length room) (length (table_found (read_text output text))) ≡ t
        → (pla_answer text output room).length ≤ length room
    go (no n) t e = let k = ap (λ (r : PlaRead). r.length) (pla-refused text output room _ refl n).0 in omega (arith, k)
    go (yes z) true e = let k = ap (λ (r : PlaRead). r.length) (pla-short text output room z (ltb-true _ _ e)).0 in omega (arith, k)
    go (yes z) false e =
        let fits = ltb-false (length room) (length (table_found (read_text output text))) e in
        let k = ap (λ (r : PlaRead). r.length) (pla-accepted text output room z fits).0 in
        omega (arith, k, fits)

-- ---- the refusal number is exact

pla-numbered : (output : ℕ) (f : Gathered) (room : List ℕ) → Numbered (pla_tests output f room)
pla-numbered output f room t k =
    elim (append-mem (text_tests output f) (room_test (table_found f) room) t k) [
      | inl m ↦ text-numbered output f t m
      | inr (inl e) ↦ λ z. let n = ap (λ (x : Test). x.number) e in omega (arith, n, z)
      | inr (inr m) ↦ absurd m
    ]

-- A number is given exactly when its test applies and none before it does, and 0 exactly when none applies.
pub pla-exact : (text : List ℕ) (output : ℕ) (room : List ℕ) → Exact (pla_tests output (read_text output text) room) (pla_answer text output room).refusal
unfolding pla_answer
pla-exact text output room =
    let f = read_text output text in
    decide-exact (λ (r : PlaRead). r.refusal) (pla_tests output f room) (accepted_pla f) (refused_pla f) (pla-numbered output f room) refl (λ k. refl)
