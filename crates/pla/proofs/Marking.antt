-- Laws of specs.Table: the marks of one point more, and how many they are; their records stored one behind the other. Read next: Answering.
use mathlib.Core.Path.{◌≡◌, refl, sym, ap, ap₂, ◌∙◌}
use mathlib.Core.Bool.{Bool, true, false, cond, ◌||◌}
use mathlib.Core.List.{List, [], ◌∷◌, ◌++◌}
use Prim.Native.Nat.{ℕ, zero, suc, ◌+◌, ◌*◌, ◌≤◌, ◌<◌}
use native.Mathlib.Numerals.{add-one}
use native.Mathlib.Decide.{ℕ_discrete}
use native.Mathlib.Omega.{arith}
use lib.ListN.{length, take, get_or, set, length-append}
use lib.Seq.{sets, take-suc}
use Rattle.std.specs.List.{filter}
use Rattle.std.proofs.lemmas.List.Elements.{filter-append}
use Rattle.table.specs.Decision.{front}
use Rattle.records.specs.Kinds.{variables_kind, on_kind, free_kind, encode_record, word_record_length, encode_end}
use Rattle.table.proofs.Fill.{sets-append, sets-front}
use Rattle.stored.specs.Layout.{first_point, table_length}
use Rattle.stored.specs.Marks.{Mark}
use Rattle.stored.specs.Encoding.{mark_kind, encode_marks, encode_table}
use Rattle.pla.specs.Table.{mark_of, marks_below}

-- ---- the mark of a point

pub mark-length : (on free : Bool) (p : ℕ) → length (mark_of on free p) ≡ cond (on || free) 1 0
unfolding mark_of
mark-length true free p = refl
mark-length false true p = refl
mark-length false false p = refl

-- At most one.
pub mark-few : (on free : Bool) (p : ℕ) → length (mark_of on free p) ≤ 1
unfolding mark_of
mark-few true free p = omega arith
mark-few false true p = omega arith
mark-few false false p = omega arith

-- ---- the marks below a bound

module _ (on free : ℕ → Bool) where
  pub marks-next : (k : ℕ) → marks_below on free (k + 1) ≡ marks_below on free k ++ mark_of (on k) (free k) k
  unfolding marks_below
  marks-next k = rw add-one

  pub marks-start : marks_below on free 0 ≡ []
  unfolding marks_below
  marks-start = refl

  pub records-start : encode_marks (marks_below on free 0) ≡ []
  unfolding marks_below encode_marks
  records-start = refl

  pub count_next : (k : ℕ) → length (marks_below on free (k + 1)) ≡ length (marks_below on free k) + length (mark_of (on k) (free k) k)
  count_next k = ap length (marks-next k) ∙ length-append (marks_below on free k) (mark_of (on k) (free k) k)

  pub marks-few : (k : ℕ) → length (marks_below on free k) ≤ k
  unfolding marks_below
  marks-few zero = omega arith
  marks-few (suc k) = omega (arith, marks-few k, mark-few (on k) (free k) k, length-append (marks_below on free k) (mark_of (on k) (free k) k))

  -- Fewer points have no more marks.
  pub marks-grow : (j k : ℕ) → j ≤ k → length (marks_below on free j) ≤ length (marks_below on free k)
  unfolding marks_below
  marks-grow j zero h = let e : j ≡ 0 = omega arith in rw e (omega arith)
  marks-grow j (suc k) h = go (ℕ_discrete j (suc k)) (marks-grow j k)
    where
      go : Dec (j ≡ suc k) → (j ≤ k → length (marks_below on free j) ≤ length (marks_below on free k)) → length (marks_below on free j) ≤ length (marks_below on free (suc k))
      go (yes e) i = rw e (omega arith)
      go (no n) i = omega (arith, i (omega (arith, n)), length-append (marks_below on free k) (mark_of (on k) (free k) k))

-- As many as points of which one of the two is said.
pub marks-counted : {A : Type 0} (on free : A → Bool) (l : List A) (d : A) (k : ℕ) → k ≤ length l
    → length (filter (λ a. on a || free a) (take k l)) ≡ length (marks_below (λ p. on (get_or l p d)) (λ p. free (get_or l p d)) k)
unfolding marks_below
marks-counted on free l d zero h = refl
marks-counted on free l d (suc k) h =
    rw (take-suc l k d (omega arith), filter-append (λ a. on a || free a) (take k l) (get_or l k d ∷ []))
    (length-append (filter (λ a. on a || free a) (take k l)) (filter (λ a. on a || free a) (get_or l k d ∷ []))
    ∙ ap₂ (λ a b. a + b) (marks-counted on free l d k (omega arith)) (one (on (get_or l k d)) (free (get_or l k d)))
    ∙ sym (length-append (marks_below (λ p. on (get_or l p d)) (λ p. free (get_or l p d)) k) (mark_of (on (get_or l k d)) (free (get_or l k d)) k)))
  where
    one : (a b : Bool) → length (cond (a || b) (get_or l k d ∷ []) []) ≡ length (mark_of a b k)
    one true b = sym (mark-length true b k)
    one false true = sym (mark-length false true k)
    one false false = sym (mark-length false false k)

-- Tests that agree below the bound give the same marks.
pub marks-ext : (on free on₁ free₁ : ℕ → Bool) (k : ℕ) → ((p : ℕ) → p < k → (on p ≡ on₁ p) × (free p ≡ free₁ p)) → marks_below on free k ≡ marks_below on₁ free₁ k
unfolding marks_below
marks-ext on free on₁ free₁ zero h = refl
marks-ext on free on₁ free₁ (suc k) h =
    let e = h k (omega arith) in
    rw (e.0, e.1, marks-ext on free on₁ free₁ k (λ p l. h p (omega arith)))

-- ---- their records

-- The record of a point's mark, if it has one.
pub record-on : (free : Bool) (p : ℕ) → encode_marks (mark_of true free p) ≡ encode_record on_kind p
unfolding mark_of encode_marks
record-on free p = refl

pub record-free : (p : ℕ) → encode_marks (mark_of false true p) ≡ encode_record free_kind p
unfolding mark_of encode_marks
record-free p = refl

pub record-none : (p : ℕ) → encode_marks (mark_of false false p) ≡ []
unfolding mark_of encode_marks
record-none p = refl

pub encode-append : (a b : List Mark) → encode_marks (a ++ b) ≡ encode_marks a ++ encode_marks b
unfolding encode_marks
encode-append [] b = refl
encode-append (m ∷ a) b = ap (λ (l : List ℕ). encode_record (mark_kind m.is_on) m.point ++ l) (encode-append a b)

pub encode-length : (a : List Mark) → length (encode_marks a) ≡ word_record_length * length a
unfolding encode_marks
encode-length [] = refl
encode-length (m ∷ a) = omega (arith, encode-length a)

-- The records of the marks of one point more.
module _ (on free : ℕ → Bool) where
  pub records-next : (k : ℕ) → encode_marks (marks_below on free (k + 1)) ≡ encode_marks (marks_below on free k) ++ encode_marks (mark_of (on k) (free k) k)
  records-next k = ap encode_marks (marks-next on free k) ∙ encode-append (marks_below on free k) (mark_of (on k) (free k) k)

  pub bytes_next : (k : ℕ) → length (encode_marks (marks_below on free (k + 1))) ≡ length (encode_marks (marks_below on free k)) + length (encode_marks (mark_of (on k) (free k) k))
  bytes_next k = ap length (records-next k) ∙ length-append (encode_marks (marks_below on free k)) (encode_marks (mark_of (on k) (free k) k))

  -- They have their place where those of all points have.
  pub records-fit : (k n : ℕ) → k < n → length (encode_marks (marks_below on free k)) + length (encode_marks (mark_of (on k) (free k) k)) ≤ length (encode_marks (marks_below on free n))
  records-fit k n h =
      omega (
        arith,
        bytes_next k,
        encode-length (marks_below on free (k + 1)),
        encode-length (marks_below on free n),
        marks-grow on free (k + 1) n (omega arith),
      )

  -- Stored behind the records of the points below k.
  pub records-stored : (lent : List ℕ) (k : ℕ) {room next : List ℕ} {at : ℕ} {ms : List Mark} → at ≡ first_point + length (encode_marks (marks_below on free k))
      → room ≡ sets lent first_point (encode_marks (marks_below on free k)) → ms ≡ mark_of (on k) (free k) k → next ≡ sets room at (encode_marks ms)
      → next ≡ sets lent first_point (encode_marks (marks_below on free (k + 1)))
  records-stored lent k {room} {next} {at} {ms} e r m q =
      q ∙ rw (r, m) (sets-append lent first_point (encode_marks (marks_below on free k)) (encode_marks (mark_of (on k) (free k) k)) at e)
      ∙ ap (sets lent first_point) (sym (records-next k))

-- ---- the whole table

pub table-length : (n : ℕ) (ms : List Mark) → length (encode_table n ms) ≡ table_length (length ms)
unfolding encode_table
table-length n ms = omega (arith, encode-length ms, length-append (encode_marks ms) (encode_end (length ms)))

-- The first record, those of the marks and the end record, stored one behind the other.
pub table-written : (room : List ℕ) (n : ℕ) (ms : List Mark) (count next : ℕ) → count ≡ length ms → next ≡ first_point + length (encode_marks ms) → table_length count ≤ length room
    → sets (sets (set (set room 0 variables_kind) 1 n) first_point (encode_marks ms)) next (encode_end count) ≡ front (encode_table n ms) room
unfolding encode_table
table-written room n ms count next c e fits =
    sets-append (set (set room 0 variables_kind) 1 n) first_point (encode_marks ms) (encode_end count) next e
    ∙ ap (λ (k : ℕ). sets room 0 (variables_kind ∷ n ∷ (encode_marks ms ++ encode_end k))) c
    ∙ sets-front room (encode_table n ms) (omega (arith, table-length n ms))
