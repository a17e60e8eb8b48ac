-- What it means that the walk finds a table: the records stand one after the other, as `Laying` and `LaidAs` say. The walk finds one
-- exactly then (`laid`, `walk-laid`), and these say how long the bytes are and what stands at each place. So no input that is too long is a
-- table (`too_long`). Read next: Bounds.
use mathlib.Core.Path.{◌≡◌, refl, sym, ap, ◌∙◌, subst}
use mathlib.Core.Bool.{Bool, true, false, cond}
use mathlib.Core.List.{List, [], ◌∷◌}
use mathlib.Core.Logic.{◌≢◌}
use Prim.Native.Nat.{ℕ, zero, suc, ◌≤◌, ◌<◌, ◌+◌, ◌*◌}
use native.Mathlib.Omega.{arith}
use lib.Dec.{leb, eqb}
use borrow.Author.Tests.{le-leb, lt-leb, eqb-true, eqb-false, eq-eqb, ne_eqb}
use lib.ListN.{length, drop, get_or, get_or-map}
use lib.Seq.{get_or-drop}
use Rattle.gf2.proofs.Logic.{clash}
use Rattle.table.specs.Flags.{max_points}
use Rattle.records.specs.declared.Kind.{Kind}
use Rattle.records.specs.declared.Kind.TheVariants.{Variables, Product, Factor, End, On, Free}
use Rattle.records.specs.Kinds.{kind_byte, variables_kind, end_kind, on_kind, body_length, head_of, word_of, word_record_length}
use Rattle.records.proofs.KindBytes.{head_byte}
use Rattle.records.specs.Walks.{head_step, body_step, after_end, go_on, walk_by, is_fault}
use Rattle.records.proofs.Whole.{faulty, head-goes}
use Rattle.stored.specs.Layout.{first_table_kind, later_table_kind, table_step, walk_table_from, walked, first_point, table_length, longest_table}
use Rattle.stored.specs.Marks.{Mark, mark, no_mark, record_marks, marks, stored_points}
use Rattle.stored.specs.Encoding.{mark_kind}
use Rattle.stored.specs.Stored.{LaidOut}
use Rattle.table.specs.declared.BytesFault.TheVariants.{WrongKind, Missing, WrongVariables, WrongFactor, NotCanonical, WrongCount, After, TooMany}
use Rattle.records.specs.Walks.{Walk}
use Rattle.std.specs.Prelude.{Ok, Err}
use Rattle.std.specs.declared.ops.ControlFlow.TheVariants.{Break}

-- The bytes from a place on, with a number of records of points behind it, are whole records of points and the end, which gives the
-- number of all of them; none of them begins where no record of a table can.
pub data Laying : List ℕ → ℕ → ℕ → ℕ → Type 0 where
  end : {byte low high place count all : ℕ} → place ≢ longest_table → byte ≡ end_kind → word_of low high ≡ count → count ≡ all → Laying (byte ∷ low ∷ high ∷ []) place count all
  point : {byte low high : ℕ} {rest : List ℕ} {place count all : ℕ} (is_on : Bool) → place ≢ longest_table → byte ≡ mark_kind is_on
      → Laying rest (place + 3) (count + 1) all → Laying (byte ∷ low ∷ high ∷ rest) place count all

-- The bytes are those of a table with that many records of points.
pub data LaidAs : List ℕ → ℕ → Type 0 where
  table : {byte n : ℕ} {rest : List ℕ} {all : ℕ} → byte ≡ variables_kind → Laying rest 2 0 all → LaidAs (byte ∷ n ∷ rest) all

-- ---- from the walk to the records

-- A record whose body is cut.
cut : (k : Kind) (count place all : ℕ) (rest : List ℕ) (next : ℕ → Walk) {A : Type 0} → length rest < 2 → go_on (later_table_kind k (body_length k) count place rest) next ≡ Ok all → A
cut Variables count place all rest next h e = faulty refl e
cut Product count place all rest next h e = faulty refl e
cut Factor count place all rest next h e = faulty refl e
cut On count place all rest next h e = faulty refl (rw (lt-leb 2 (length rest) h) at e)
cut Free count place all rest next h e = faulty refl (rw (lt-leb 2 (length rest) h) at e)
cut End count place all rest next h e = faulty refl (rw (lt-leb 2 (length rest) h) at e)

-- A record that begins where one can is of a known kind.
module _ (byte count place all : ℕ) (rest : List ℕ) (next : ℕ → Walk) where
  inner : go_on (table_step count byte place rest) next ≡ Ok all
      → (place ≢ longest_table) × ((k : Kind) × (byte ≡ kind_byte k) × (go_on (later_table_kind k (body_length k) count place rest) next ≡ Ok all))
  inner = go (eqb place longest_table) refl
    where
      go : (t : Bool) → eqb place longest_table ≡ t → go_on (cond t (Break (Err (After place))) (head_step (head_of byte place) (λ k l. later_table_kind k l count place rest))) next ≡ Ok all
          → (place ≢ longest_table) × ((k : Kind) × (byte ≡ kind_byte k) × (go_on (later_table_kind k (body_length k) count place rest) next ≡ Ok all))
      go true p e = faulty refl e
      go false p e = (eqb-false place longest_table p, head-goes byte place (λ k l. later_table_kind k l count place rest) next e)

-- The end record: its number is right, and nothing follows.
ended : (word count all wrong after : ℕ) (rest : List ℕ) → cond (eqb word count) (after_end count after rest) (Err (WrongCount wrong)) ≡ Ok all → (word ≡ count) × (rest ≡ []) × (count ≡ all)
ended word count all wrong after rest = go (eqb word count) refl rest
  where
    go : (t : Bool) → eqb word count ≡ t → (rest : List ℕ) → cond t (after_end count after rest) (Err (WrongCount wrong)) ≡ Ok all → (word ≡ count) × (rest ≡ []) × (count ≡ all)
    go true p [] e = (eqb-true word count p, refl, cc)
    go true p (b ∷ bs) e = faulty refl e
    go false p rest e = faulty refl e

-- A record with its body of two bytes.
module _ (byte low high : ℕ) (rest : List ℕ) (place count all : ℕ) where
  there : leb 2 (length (low ∷ high ∷ rest)) ≡ true
  there = le-leb 2 (length (low ∷ high ∷ rest)) (omega arith)

  passed : walk_table_from 2 (count + 1) (place + 1) (low ∷ high ∷ rest) ≡ walk_table_from 0 (count + 1) (place + 3) rest
  unfolding walk_by
  passed = let third : place + 1 + 1 + 1 ≡ place + 3 = omega arith in ap (λ (p : ℕ). walk_table_from 0 (count + 1) p rest) third

  whole : (k : Kind) → place ≢ longest_table → byte ≡ kind_byte k
      → go_on (later_table_kind k (body_length k) count place (low ∷ high ∷ rest)) (λ l. walk_table_from l (count + 1) (place + 1) (low ∷ high ∷ rest)) ≡ Ok all
      → (walk_table_from 0 (count + 1) (place + 3) rest ≡ Ok all → Laying rest (place + 3) (count + 1) all) → Laying (byte ∷ low ∷ high ∷ rest) place count all
  whole Variables o q e next = faulty refl e
  whole Product o q e next = faulty refl e
  whole Factor o q e next = faulty refl e
  whole On o q e next = point true o q (next (sym passed ∙ (rw there at e)))
  whole Free o q e next = point false o q (next (sym passed ∙ (rw there at e)))
  whole End o q e next =
      let h = ended (word_of low high) count all (place + 1) (place + 1 + 2) rest (rw there at e) in
      subst (λ (l : List ℕ). Laying (byte ∷ low ∷ high ∷ l) place count all) (sym h.1) (end o q h.0 h.2)

pub laying : (rest : List ℕ) (place count all : ℕ) → walk_table_from 0 count place rest ≡ Ok all → Laying rest place count all
unfolding walk_by
laying [] place count all e = faulty refl e
laying (byte ∷ []) place count all e = let h = (inner byte count place all [] _ e).1 in cut h.0 count place all [] _ (omega arith) h.2
laying (byte ∷ low ∷ []) place count all e = let h = (inner byte count place all (low ∷ []) _ e).1 in cut h.0 count place all (low ∷ []) _ (omega arith) h.2
laying (byte ∷ low ∷ high ∷ rest) place count all e =
    let h = inner byte count place all (low ∷ high ∷ rest) _ e in
    whole byte low high rest place count all h.1.0 h.0 h.1.1 h.1.2 (laying rest (place + 3) (count + 1) all)

-- The first record, then the others.
begun : (n : ℕ) (rest : List ℕ) → walk_table_from 0 0 2 rest ≡ walk_table_from 1 0 1 (n ∷ rest)
unfolding walk_by
begun n rest = refl

pub laid : (bytes : List ℕ) (all : ℕ) → walked bytes ≡ Ok all → LaidAs bytes all
unfolding walked
laid [] all e = faulty refl e
laid (byte ∷ rest) all e = let h = head-goes byte 0 (λ k l. first_table_kind k l rest) (λ l. walk_table_from l 0 1 rest) e in go h.0 h.1 rest h.2
  where
    go : (k : Kind) → byte ≡ kind_byte k → (rest : List ℕ) → go_on (first_table_kind k (body_length k) rest) (λ l. walk_table_from l 0 1 rest) ≡ Ok all → LaidAs (byte ∷ rest) all
    go Variables q [] e = faulty refl e
    go Variables q (n ∷ rest) e = table q (laying rest 2 0 all (begun n rest ∙ (rw (le-leb 1 (length (n ∷ rest)) (omega arith)) at e)))
    go Product q rest e = faulty refl e
    go Factor q rest e = faulty refl e
    go End q rest e = faulty refl e
    go On q rest e = faulty refl e
    go Free q rest e = faulty refl e

-- ---- from the records to the walk

later-point : (is_on : Bool) (count place : ℕ) (rest : List ℕ) → head_step (head_of (mark_kind is_on) place) (λ k l. later_table_kind k l count place rest) ≡ body_step 2 place rest
later-point true count place rest = rw (head_byte On place)
later-point false count place rest = rw (head_byte Free place)

pub walk-laying : {rest : List ℕ} {place count all : ℕ} → Laying rest place count all → walk_table_from 0 count place rest ≡ Ok all
unfolding walk_by
walk-laying {place = place} {count = count} (end o q w a) = rw (ne_eqb place longest_table o, q, head_byte End place, eq-eqb _ count w) (ap Ok a)
walk-laying {place = place} {count = count} {all = all} (point {byte} {low} {high} {rest} is_on o q r) =
    rw (ne_eqb place longest_table o, q, later-point is_on count place (low ∷ high ∷ rest), there byte low high rest place count all)
    (passed byte low high rest place count all ∙ walk-laying r)

pub walk-laid : {bytes : List ℕ} {all : ℕ} → LaidAs bytes all → walked bytes ≡ Ok all
unfolding walked
walk-laid (table {byte} {n} {rest} q r) = rw (q, head_byte Variables 0, le-leb 1 (length (n ∷ rest)) (omega arith)) (sym (begun n rest) ∙ walk-laying r)

-- ---- how long the bytes are

laying-length : {rest : List ℕ} {place count all : ℕ} → Laying rest place count all → length rest + 3 * count ≡ 3 + 3 * all
laying-length (end o q w a) = omega arith
laying-length (point is_on o q r) = omega (arith, laying-length r)

-- No record begins where none can, so there are not too many.
laying-few : {rest : List ℕ} {place count all : ℕ} → Laying rest place count all → place ≡ 2 + 3 * count → count ≤ max_points + 1 → all ≤ max_points
laying-few (end o q w a) e h = omega arith
laying-few (point is_on o q r) e h = laying-few r (omega arith) (omega arith)

pub laid-length : {bytes : List ℕ} {all : ℕ} → LaidAs bytes all → length bytes ≡ table_length all
laid-length (table q r) = omega (arith, laying-length r)

pub laid-few : {bytes : List ℕ} {all : ℕ} → LaidAs bytes all → all ≤ max_points
laid-few (table q r) = laying-few r refl (omega arith)

-- ---- what stands at each place

-- The marks of a record of a point and of what follows it.
pub marks-point : (byte low high : ℕ) (rest : List ℕ) (is_on : Bool) → byte ≡ mark_kind is_on → record_marks (byte ∷ low ∷ high ∷ rest) ≡ mark is_on (word_of low high) ∷ record_marks rest
unfolding record_marks
marks-point byte low high rest true q = rw q
marks-point byte low high rest false q = rw q

pub marks-end : (byte low high : ℕ) → byte ≡ end_kind → record_marks (byte ∷ low ∷ high ∷ []) ≡ []
unfolding record_marks
marks-end byte low high q = rw q

laying-marks : {rest : List ℕ} {place count all : ℕ} → Laying rest place count all → count + length (record_marks rest) ≡ all
laying-marks (end {byte} {low} {high} o q w a) = rw (marks-end byte low high q) (omega arith)
laying-marks (point {byte} {low} {high} {rest} is_on o q r) = rw (marks-point byte low high rest is_on q) (omega (arith, laying-marks r))

pub laid-marks : {bytes : List ℕ} {all : ℕ} → LaidAs bytes all → length (marks bytes) ≡ all
laid-marks (table q r) = omega (arith, laying-marks r)

-- The record of a point at a place: whether its kind is that of on points, and the number of its two bytes.
abbrev pub mark_at : List ℕ → ℕ → Mark
mark_at bytes place = mark (eqb (get_or bytes place 0) on_kind) (word_of (get_or bytes (place + 1) 0) (get_or bytes (place + 2) 0))

mark-later : (k : ℕ) (bytes : List ℕ) (place : ℕ) → mark_at (drop k bytes) place ≡ mark_at bytes (k + place)
mark-later k bytes place =
    let one : k + (place + 1) ≡ k + place + 1 = omega arith in
    let two : k + (place + 2) ≡ k + place + 2 = omega arith in
    cc (get_or-drop k bytes place 0, get_or-drop k bytes (place + 1) 0, get_or-drop k bytes (place + 2) 0)

kind-on : (byte : ℕ) (is_on : Bool) → byte ≡ mark_kind is_on → eqb byte on_kind ≡ is_on
kind-on byte true q = ap (λ (b : ℕ). eqb b on_kind) q
kind-on byte false q = ap (λ (b : ℕ). eqb b on_kind) q

laying-at : {rest : List ℕ} {place count all : ℕ} → Laying rest place count all → (i : ℕ) → i < length (record_marks rest) → get_or (record_marks rest) i no_mark ≡ mark_at rest (3 * i)
laying-at (end {byte} {low} {high} o q w a) i h = absurd (omega (arith, ap length (marks-end byte low high q)))
laying-at (point {byte} {low} {high} {rest} is_on o q r) zero h =
    rw (marks-point byte low high rest is_on q, kind-on byte is_on q)
laying-at (point {byte} {low} {high} {rest} is_on o q r) (suc i) h =
    let more : 3 + 3 * i ≡ 3 * suc i = omega arith in
    rw (marks-point byte low high rest is_on q)
    (laying-at r i (omega (arith, ap length (marks-point byte low high rest is_on q))) ∙ mark-later 3 (byte ∷ low ∷ high ∷ rest) (3 * i) ∙ ap (mark_at (byte ∷ low ∷ high ∷ rest)) more)

pub laid-at : {bytes : List ℕ} {all : ℕ} → LaidAs bytes all → (i : ℕ) → i < length (marks bytes) → get_or (marks bytes) i no_mark ≡ mark_at bytes (first_point + word_record_length * i)
laid-at (table {byte} {n} {rest} q r) i h = laying-at r i h ∙ mark-later 2 (byte ∷ n ∷ rest) (3 * i)

-- ---- bytes that are laid out

-- The walk over bytes that are laid out gives the number of their marks.
pub laid_out : (bytes : List ℕ) → LaidOut bytes → walked bytes ≡ Ok (length (marks bytes))
laid_out bytes = go (walked bytes) refl
  where
    go : (found : Walk) → walked bytes ≡ found → is_fault (walked bytes) ≡ false → walked bytes ≡ Ok (length (marks bytes))
    go (Ok all) e h = e ∙ ap Ok (sym (laid-marks (laid bytes all e)))
    go (Err (WrongKind place)) e h = clash (ap is_fault e) h
    go (Err (Missing place)) e h = clash (ap is_fault e) h
    go (Err (WrongCount place)) e h = clash (ap is_fault e) h
    go (Err (After place)) e h = clash (ap is_fault e) h
    go (Err (WrongVariables place)) e h = clash (ap is_fault e) h
    go (Err (WrongFactor place)) e h = clash (ap is_fault e) h
    go (Err (NotCanonical place)) e h = clash (ap is_fault e) h
    go (Err (TooMany place)) e h = clash (ap is_fault e) h

pub laid_as : (bytes : List ℕ) → LaidOut bytes → LaidAs bytes (length (marks bytes))
laid_as bytes h = laid bytes (length (marks bytes)) (laid_out bytes h)

-- No input that is longer than the longest table is laid out as one.
pub too_long : (bytes : List ℕ) → longest_table < length bytes → is_fault (walked bytes) ≡ true
too_long bytes h = go (is_fault (walked bytes)) refl
  where
    go : (t : Bool) → is_fault (walked bytes) ≡ t → is_fault (walked bytes) ≡ true
    go true e = e
    go false e = let a = laid_as bytes e in absurd (omega (arith, laid-length a, laid-few a))

-- The bytes of a table that is laid out: how many, and what the records of points among them stand for.
pub table-length : (bytes : List ℕ) → LaidOut bytes → length bytes ≡ table_length (length (marks bytes))
table-length bytes h = laid-length (laid_as bytes h)

-- A record of a point ends before the end record.
pub record-inside : (bytes : List ℕ) → LaidOut bytes → (i : ℕ) → i < length (marks bytes) → table_length (suc i) ≤ length bytes
record-inside bytes h i l = omega (arith, table-length bytes h)

pub table-mark : (bytes : List ℕ) → LaidOut bytes → (i : ℕ) → i < length (marks bytes) → get_or (marks bytes) i no_mark ≡ mark_at bytes (first_point + word_record_length * i)
table-mark bytes h = laid-at (laid_as bytes h)

pub table-point : (bytes : List ℕ) → LaidOut bytes → (i : ℕ) → i < length (marks bytes) → get_or (stored_points bytes) i 0 ≡ (mark_at bytes (first_point + word_record_length * i)).point
table-point bytes h i l = get_or-map (λ m. m.point) (marks bytes) i no_mark ∙ ap (λ (m : Mark). m.point) (table-mark bytes h i l)

-- What the functions that read one record cite.
pub ruleset places = (table-length, record-inside, table-point, table-mark)
