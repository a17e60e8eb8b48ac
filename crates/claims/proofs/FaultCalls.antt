-- What is claimed of the refusals 20 to 27, call by call: each call that reads bytes says what the walk over them found, and any other refusal has no place.
-- Read next: FreePoints.
use mathlib.Core.Path.{◌≡◌, refl, sym, ap, ◌∙◌, subst}
use mathlib.Core.Bool.{Bool, true, false, cond, not, ◌&&◌, ◌||◌}
use mathlib.Core.Logic.{inl, inr, ◌⊎◌, ◌≢◌}
use mathlib.Core.List.{List, [], ◌∷◌}
use Prim.Native.Nat.{ℕ, ◌+◌, ◌≤◌, ◌<◌}
use native.Mathlib.Decide.{ℕ_discrete, dec_lt}
use native.Mathlib.Omega.{arith}
use lib.Dec.{eqb, leb, ltb}
use lib.ListN.{length, take}
use borrow.Author.Tests.{eq-eqb}
use Rattle.gf2.specs.Finite.{Mem}
use Rattle.gf2.proofs.Logic.{clash}
use Rattle.gf2.proofs.Finite.{append-mem}
use Rattle.table.specs.Refusal.{Fault}
use Rattle.table.specs.Refusal.{Test, test, has_place, first_fault, fault_at, fault_of, variables_fault, point_fault, order_fault, room_fault, counts_fault, first_point_fault, wrong_kind_fault, wrong_count_fault}
use Rattle.table.specs.Table.{bad_count, outside, unordered}
use Rattle.table.proofs.Decide.{decide-number, PlacedWays}
use Rattle.records.specs.declared.Kind.{Kind}
use Rattle.records.specs.declared.Kind.TheVariants.{Variables, Product, Factor, End, On, Free}
use Rattle.records.specs.Kinds.{head_of}
use Rattle.records.specs.Walks.{fault_number, fault_place, fault_found, is_fault}
use Rattle.records.specs.Faults.{Record, place_after, ended, is_admitted, kind_faults, body_faults, missing_faults, body_or_missing, faults_after, fault_end}
use Rattle.records.proofs.Paths.{Found, broken, missing, laid}
use Rattle.records.proofs.Numbers.{some_number, no_number}
use Rattle.stored.specs.declared.TableRead.{TableRead}
use Rattle.stored.specs.Layout.{walked, longest_table}
use Rattle.stored.specs.Marks.{stored_variables, stored_points}
use Rattle.stored.specs.Encoding.{Encoded}
use Rattle.stored.specs.Faults.{table_rules}
use Rattle.stored.specs.Stored.{point_tests, stored_tests, stored_fault, stored_place}
use Rattle.stored.specs.Reading.{read_fault, read_place}
use Rattle.stored.proofs.Laying.{too_long}
use Rattle.stored.proofs.Bounds.{Inside, table-inside}
use Rattle.stored.proofs.Encodings.{laid-exactly}
use Rattle.stored.proofs.Ruling.{table-ruled, table-first, table-number}
use Rattle.stored.proofs.Accepting.{stored-layout, stored-points}
use Rattle.stored.proofs.Rooms.{short, stored-first, stored-place, then-room, then-place, read_fits, refused-read, accepted-read}
use Rattle.compare.specs.declared.Comparison.{Comparison}
use Rattle.compare.specs.Answer.{table_size, compare_tests, compare_fault, compare_place, compare_accepted, compare_refused, compare_answer}
use Rattle.compare.proofs.Refusals.{found_left, found_right, compare-pair}
use Rattle.compare.proofs.Answering.{compare-refused}
use Rattle.form.specs.Encoding.{EncodedForm}
use Rattle.form.specs.Walk.{walked_form}
use Rattle.form.specs.Faults.{form_rules}
use Rattle.form.specs.Refusal.{form_fault, form_place}
use Rattle.form.proofs.Ruling.{form-ruled, form-first}
use Rattle.form.proofs.Encodings.{form-exactly}
use Rattle.form.proofs.Accepting.{form-told, accepted-form}
use Rattle.form_calls.specs.declared.FormPoints.{FormPoints}
use Rattle.form_calls.specs.declared.FormRewrite.{FormRewrite}
use Rattle.form_calls.proofs.Answering.{points-ways, rewrite-ways}
use Rattle.lines.specs.Lines.{fault_line}
use Rattle.report.proofs.Answering.{report-refused}
use Rattle.claims.specs.Faults.{FaultOf, Tells, table_refusal, points_refusal, rewrite_refusal, comparison_refusal, FaultsTold}
use Rattle.claims.proofs.Faults.{tells}
use Rattle.records.specs.Kinds.{RecordHead}
use Rattle.std.specs.Prelude.{Ok, Err}

-- ---- reading a stored table

-- The numbers of n and of the points have no place, nor has that of a room.
points-alone : (a b c : Bool) → has_place (first_fault (test variables_fault a ∷ test point_fault b ∷ test order_fault c ∷ [])) ≡ false
unfolding first_fault has_place
points-alone true b c = refl
points-alone false true c = refl
points-alone false false true = refl
points-alone false false false = refl

room-alone : (short : Bool) → has_place (cond short room_fault 0) ≡ false
unfolding has_place
room-alone true = refl
room-alone false = refl

module _ (on free : List ℕ) where
  -- What reading returns, by its refusal and its place.
  read_told : (bytes : List ℕ) → table_refusal bytes on free ≡ fault_at (read_fault bytes (length on) (length free)) (read_place bytes (length on) (length free))
  read_told bytes = go (ℕ_discrete (read_fault bytes (length on) (length free)) 0)
    where
      go : Dec (read_fault bytes (length on) (length free) ≡ 0) → table_refusal bytes on free ≡ fault_at (read_fault bytes (length on) (length free)) (read_place bytes (length on) (length free))
      go (no n) = ap (λ (r : TableRead). fault_at r.refusal r.place) (refused-read bytes on free n)
      go (yes e) =
          let place = then-place bytes (length on) (length free) (read_fits bytes (length on) (length free) e).0 in
          ap (λ (r : TableRead). fault_at r.refusal r.place) (accepted-read bytes on free e) ∙ sym (cc (e, place))

  table-told : (bytes : List ℕ) → is_fault (walked bytes) ≡ true → table_refusal bytes on free ≡ fault_found (walked bytes)
  unfolding stored_fault stored_place
  table-told bytes e =
      let n = some_number (walked bytes) e in
      let f = stored-layout bytes n in
      let nz : stored_fault bytes ≢ 0 = λ z. n (sym (ap (λ (x : Fault). x.number) f) ∙ z) in
      read_told bytes ∙ ap (λ (k : ℕ). fault_at k (read_place bytes (length on) (length free))) (stored-first bytes (length on) (length free) nz)
      ∙ ap (fault_at (stored_fault bytes)) (stored-place bytes (length on) (length free) nz) ∙ f

  table-others : (bytes : List ℕ) → is_fault (walked bytes) ≡ false → (has_place (table_refusal bytes on free).number ≡ false) × ((table_refusal bytes on free).place ≡ 0)
  unfolding stored_fault stored_place
  table-others bytes e = (ap (λ (f : Fault). has_place f.number) (read_told bytes) ∙ number (ℕ_discrete (stored_fault bytes) 0), ap (λ (f : Fault). f.place) (read_told bytes) ∙ place (ℕ_discrete (stored_fault bytes) 0))
    where
      points : fault_of (stored_tests bytes) ≡ fault_at (first_fault (point_tests bytes)) 0
      points = stored-points bytes (no_number (walked bytes) e)

      number : Dec (stored_fault bytes ≡ 0) → has_place (read_fault bytes (length on) (length free)) ≡ false
      number (no n) =
          ap has_place (stored-first bytes (length on) (length free) n ∙ ap (λ (f : Fault). f.number) points)
          ∙ points-alone (bad_count (stored_variables bytes)) (outside (stored_variables bytes) (stored_points bytes)) (unordered (stored_points bytes))
      number (yes z) = ap has_place (then-room bytes (length on) (length free) z) ∙ room-alone (short bytes (length on) (length free))

      place : Dec (stored_fault bytes ≡ 0) → read_place bytes (length on) (length free) ≡ 0
      place (no n) = stored-place bytes (length on) (length free) n ∙ ap (λ (f : Fault). f.place) points
      place (yes z) = then-place bytes (length on) (length free) z

  table-tells : Tells table_rules Encoded (λ bytes. table_refusal bytes on free)
  table-tells = tells table_rules Encoded walked table-ruled table-first laid-exactly (λ bytes. table_refusal bytes on free) table-told table-others

  -- Which numbers.
  table-met : (bytes : List ℕ) → has_place (table_refusal bytes on free).number ≡ true → is_fault (walked bytes) ≡ true
  table-met bytes h = go (is_fault (walked bytes)) refl
    where
      go : (t : Bool) → is_fault (walked bytes) ≡ t → t ≡ true
      go true e = refl
      go false e = clash h (table-others bytes e).0

  table-numbers : (bytes : List ℕ) → has_place (table_refusal bytes on free).number ≡ true → Mem (table_refusal bytes on free).number (20 ∷ 21 ∷ 25 ∷ 26 ∷ [])
  table-numbers bytes h = let e = table-met bytes h in subst (λ (f : Fault). Mem f.number (20 ∷ 21 ∷ 25 ∷ 26 ∷ [])) (sym (table-told bytes e)) (table-number bytes e)

-- ---- reading a form, with one room

module _ {A B : Type 0} (fault : A → Fault) {number place : ℕ} {answer room : List B} {accepted : A} {refused : ℕ → ℕ → A} {returned : A} {left : List B}
    (w : PlacedWays number place answer room accepted refused returned left) (none : fault accepted ≡ fault_at 0 0) (given : (p k : ℕ) → fault (refused p k) ≡ fault_at k p) where
  ways-told : number ≢ 0 → fault returned ≡ fault_at number place
  ways-told n = sym (ap fault (w.faulty (fault_at number place) refl n _ refl).0) ∙ given place number

  ways-others : number ≡ 0 → (has_place (fault returned).number ≡ false) × ((fault returned).place ≡ 0)
  unfolding has_place
  ways-others e = go (dec_lt (length room) (length answer))
    where
      alone : (f : Fault) (k : ℕ) → has_place k ≡ false → f ≡ fault_at k 0 → (has_place f.number ≡ false) × (f.place ≡ 0)
      alone f k h q = (ap (λ (x : Fault). has_place x.number) q ∙ h, ap (λ (x : Fault). x.place) q)

      go : Dec (length room < length answer) → (has_place (fault returned).number ≡ false) × ((fault returned).place ≡ 0)
      go (yes l) = alone (fault returned) room_fault refl (sym (ap fault (w.short e l _ refl).0) ∙ given 0 room_fault)
      go (no l) = alone (fault returned) 0 refl (sym (ap fault (w.whole e (omega arith) _ _ refl refl).0) ∙ none)

module _ (call : List ℕ → Fault) where
  -- A call that gives the form's own refusal, and without one no place.
  form-tells : ((bytes : List ℕ) → form_fault bytes ≢ 0 → call bytes ≡ fault_at (form_fault bytes) (form_place bytes))
      → ((bytes : List ℕ) → form_fault bytes ≡ 0 → (has_place (call bytes).number ≡ false) × ((call bytes).place ≡ 0)) → Tells form_rules EncodedForm call
  unfolding form_fault form_place
  form-tells told others =
      tells form_rules EncodedForm walked_form form-ruled form-first form-exactly call
      (λ bytes e.
      let number : form_fault bytes ≡ fault_number (walked_form bytes) = ap (λ (f : Fault). f.number) (form-told bytes) in
      told bytes (λ z. some_number (walked_form bytes) e (sym number ∙ z)) ∙ form-told bytes)
      (λ bytes e. others bytes ((accepted-form bytes).1 e))

-- ---- a table that is longer than the longest

-- Where the longest table ends no kind is awaited, so a number at that place is not 20.
not-awaited : (before : List Record) (rest : List ℕ) (t : Test) → Mem t (faults_after table_rules before rest) → t.applies ≡ true → t.number ≡ wrong_kind_fault → t.place ≡ longest_table → ⊥
not-awaited before [] t (inl e) a n p = omega (arith, n, ap (λ (u : Test). u.number) e)
not-awaited before [] t (inr e) a n p = e
not-awaited before (byte ∷ rest) t m a n p =
    elim (append-mem (kind_faults table_rules before here head) (body_or_missing table_rules before here head rest) t m) [
      | inl (inl e) ↦ clash a (ap (λ (u : Test). u.applies) e ∙ closed (ended before) (sym (ap (λ (u : Test). u.place) e) ∙ p))
      | inl (inr (inl e)) ↦ omega (arith, n, ap (λ (u : Test). u.number) e)
      | inl (inr (inr (inl e))) ↦ omega (arith, n, ap (λ (u : Test). u.number) e)
      | inl (inr (inr (inr e))) ↦ e
      | inr k ↦ later head k
    ]
  where
    here : ℕ
    here = place_after before

    head : RecordHead
    head = head_of byte here

    closed : (t : Bool) → here ≡ longest_table → not (t || eqb here longest_table) && not (is_admitted table_rules before head) ≡ false
    closed true e = refl
    closed false e = rw (eq-eqb here longest_table e)

    judged : (kind : Kind) (body : List ℕ) → Mem t (body_faults table_rules before (here + 1) kind body) → ⊥
    judged Variables body (inl e) = omega (arith, n, ap (λ (u : Test). u.number) e)
    judged Variables body (inr e) = e
    judged Product body e = e
    judged Factor body (inl e) = omega (arith, n, ap (λ (u : Test). u.number) e)
    judged Factor body (inr (inl e)) = omega (arith, n, ap (λ (u : Test). u.number) e)
    judged Factor body (inr (inr e)) = e
    judged End body (inl e) = omega (arith, n, ap (λ (u : Test). u.number) e)
    judged End body (inr e) = e
    judged On body e = e
    judged Free body e = e

    later : (h : RecordHead) → Mem t (body_or_missing table_rules before here h rest) → ⊥
    later (Err fault) k = k
    later (Ok (kind, l)) k = go (leb l (length rest)) k
      where
        go : (b : Bool) → Mem t (cond b (body_faults table_rules before (here + 1) kind (take l rest)) (missing_faults here rest)) → ⊥
        go true k = judged kind (take l rest) k
        go false (inl e) = omega (arith, n, ap (λ (u : Test). u.number) e)
        go false (inr e) = e

longer : (bytes : List ℕ) → longest_table < length bytes → ((number place : ℕ) → FaultOf table_rules bytes number place → longest_table ≤ place) → fault_found (walked bytes) ≡ fault_at 26 longest_table
longer bytes long later = go (table-first bytes)
  where
    i : Inside (walked bytes)
    i = table-inside bytes

    fault : is_fault (walked bytes) ≡ true
    fault = too_long bytes long

    go : Found table_rules [] bytes (walked bytes) → fault_found (walked bytes) ≡ fault_at 26 longest_table
    go (laid count e none after) = clash fault (ap is_fault e)
    go (missing e first) = absurd (omega (arith, long, i.placed, ap fault_place e))
    go (broken front more e all end known some inside first) =
        let at : longest_table ≤ fault_place (walked bytes) =
        later (fault_number (walked bytes)) (fault_place (walked bytes)) (record { before = first.lead; rest = first.rest; whole = first.whole; split = first.split; broken = first.broken }) in
        let place : fault_place (walked bytes) ≡ longest_table = omega (arith, at, i.placed) in
        let number : fault_number (walked bytes) ≡ 26 = elim (table-number bytes fault) [
          | inl n ↦
              let b = first.broken in
              absurd (not-awaited first.lead first.rest b.found b.listed b.applies (b.numbered ∙ n) (b.placed ∙ place))
          | inr (inl n) ↦ absurd (known n)
          | inr (inr (inl n)) ↦ absurd (omega (arith, place, reaches n))
          | inr (inr (inr (inl n))) ↦ n
          | inr (inr (inr (inr n))) ↦ absurd n
        ] in
        cc (number, place)
      where
        reaches : fault_number (walked bytes) ≡ wrong_count_fault → fault_place (walked bytes) + 2 ≤ longest_table + 1
        reaches n = subst (λ (k : ℕ). fault_end k (fault_place (walked bytes)) ≤ longest_table + 1) n i.reached

-- ---- comparing, and the report

-- What was found in a table by reading is what its tests give.
table-found : (bytes on free : List ℕ) → has_place (table_refusal bytes on free).number ≡ true
    → (fault_of (stored_tests bytes) ≡ table_refusal bytes on free) × (first_fault (stored_tests bytes) ≢ 0)
table-found bytes on free h =
    let e = table-met on free bytes h in
    let n = some_number (walked bytes) e in
    let f = stored-layout bytes n in
    (f ∙ sym (table-told on free bytes e), λ z. n (sym (ap (λ (x : Fault). x.number) f) ∙ z))

compare-refusal : (left right : List ℕ) (first : ℕ) (room : List ℕ) (f : Fault) → f ≡ fault_of (compare_tests left right first) → f.number ≢ 0 → comparison_refusal left right first room ≡ f
compare-refusal left right first room f e n = sym (ap (λ (a : Comparison). fault_at a.refusal a.place) (compare-refused left right first room f e n).0)

-- The number is the refusal by the tests, and those of both tables together have no place.
compare-number : (left right : List ℕ) (first : ℕ) (room : List ℕ) → (comparison_refusal left right first room).number ≡ compare_fault left right first
unfolding compare_answer compare_fault
compare-number left right first room =
    decide-number (λ (a : Comparison). a.refusal) (compare_tests left right first) (compare_accepted left right first room) (compare_refused (compare_place left right first)) refl (λ k. refl)

pairs-alone : (a b : Bool) → has_place (first_fault (test counts_fault a ∷ test first_point_fault b ∷ [])) ≡ false
unfolding first_fault has_place
pairs-alone true b = refl
pairs-alone false true = refl
pairs-alone false false = refl

-- A fault of bytes is the left table's, or the right one's where the left one is accepted.
compare-only : (left right : List ℕ) (first : ℕ) (room on free : List ℕ) → has_place (comparison_refusal left right first room).number ≡ true
    → (comparison_refusal left right first room ≡ table_refusal left on free) ⊎ ((stored_fault left ≡ 0) × (comparison_refusal left right first room ≡ table_refusal right on free))
unfolding stored_fault has_place
compare-only left right first room on free h = go (ℕ_discrete (stored_fault left) 0) (ℕ_discrete (stored_fault right) 0)
  where
    -- A table whose refusal has a place: the walk met a fault.
    met : (bytes : List ℕ) (f : Fault) → f ≡ fault_of (stored_tests bytes) → has_place f.number ≡ true → f ≡ table_refusal bytes on free
    met bytes f e p = go (is_fault (walked bytes)) refl
      where
        go : (t : Bool) → is_fault (walked bytes) ≡ t → f ≡ table_refusal bytes on free
        go true q = e ∙ stored-layout bytes (some_number (walked bytes) q) ∙ sym (table-told on free bytes q)
        go false q =
            clash p (ap (λ (x : Fault). has_place x.number) (e ∙ stored-points bytes (no_number (walked bytes) q))
            ∙ points-alone (bad_count (stored_variables bytes)) (outside (stored_variables bytes) (stored_points bytes)) (unordered (stored_points bytes)))

    -- The refusals of both tables together have no place.
    pair : stored_fault left ≡ 0 → stored_fault right ≡ 0 → has_place (comparison_refusal left right first room).number ≡ false
    pair e f =
        ap has_place (compare-number left right first room ∙ compare-pair left right first e f)
        ∙ pairs-alone (not (eqb (stored_variables left) (stored_variables right))) (ltb (table_size left) first)

    go : Dec (stored_fault left ≡ 0) → Dec (stored_fault right ≡ 0)
        → (comparison_refusal left right first room ≡ table_refusal left on free) ⊎ ((stored_fault left ≡ 0) × (comparison_refusal left right first room ≡ table_refusal right on free))
    go (no n) d =
        let f = fault_of (stored_tests left) in
        let c = compare-refusal left right first room f (found_left left right first f refl n) n in
        inl (c ∙ met left f refl (ap (λ (x : Fault). has_place x.number) (sym c) ∙ h))
    go (yes e) (no n) =
        let f = fault_of (stored_tests right) in
        let c = compare-refusal left right first room f (found_right left right first e f refl n) n in
        inr (e, c ∙ met right f refl (ap (λ (x : Fault). has_place x.number) (sym c) ∙ h))
    go (yes e) (yes f) = clash h (pair e f)

pub faults-told : FaultsTold
unfolding stored_fault stored_place
faults-told = record {
  read_table = table-tells;
  form_points = λ room. form-tells (λ bytes. points_refusal bytes room)
      (λ bytes. ways-told (λ (x : FormPoints). fault_at x.refusal x.place) (points-ways bytes room) refl (λ p k. refl))
      (λ bytes. ways-others (λ (x : FormPoints). fault_at x.refusal x.place) (points-ways bytes room) refl (λ p k. refl));
  form_rewrite = λ room. form-tells (λ bytes. rewrite_refusal bytes room)
      (λ bytes. ways-told (λ (x : FormRewrite). fault_at x.refusal x.place) (rewrite-ways bytes room) refl (λ p k. refl))
      (λ bytes. ways-others (λ (x : FormRewrite). fault_at x.refusal x.place) (rewrite-ways bytes room) refl (λ p k. refl));
  table-numbers = λ bytes on free. table-numbers on free bytes;
  longer = λ bytes on free h later. table-told on free bytes (too_long bytes h) ∙ longer bytes h later;
  compare-left = λ left right first room on free h.
      let t = table-found left on free h in
      compare-refusal left right first room (fault_of (stored_tests left)) (found_left left right first (fault_of (stored_tests left)) refl t.1) t.1 ∙ t.0;
  compare-right = λ left right first room on free z h.
      let t = table-found right on free h in
      let sound = (read_fits left (length on) (length free) (sym (ap (λ (f : Fault). f.number) (read_told on free left)) ∙ z)).0 in
      compare-refusal left right first room (fault_of (stored_tests right)) (found_right left right first sound (fault_of (stored_tests right)) refl t.1) t.1 ∙ t.0;
  compare-only = compare-only;
  report = λ bytes on free h.
      let t = table-found bytes on free h in
      report-refused bytes t.1 ∙ ap (λ (f : Fault). fault_line f.number f.place) t.0;
}
