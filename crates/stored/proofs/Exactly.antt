-- What is accepted, exactly: bytes are accepted as a table exactly if they are the encoding of n from 1 to 12 and of rising points below
-- 2 ^ n, each on or free (`table-exactly`), and what is read of them is that n and those points (`table-read`). They are read into two rooms
-- exactly if both lists fit too (`read-exactly`).
use mathlib.Core.Path.{◌≡◌, sym, ap, ◌∙◌, subst}
use mathlib.Core.Bool.{true, false}
use mathlib.Core.Logic.{◌↔◌}
use mathlib.Core.List.{List, map}
use Prim.Native.Nat.{ℕ, ◌≤◌, ◌^◌}
use native.Mathlib.Omega.{arith}
use lib.Pow.{pow_mono}
use lib.ListN.{length, length-map}
use borrow.Author.Tests.{le-ltb}
use Rattle.gf2.proofs.Finite.{rising-length}
use Rattle.table.specs.Flags.{max_points}
use Rattle.table.specs.Refusal.{first_fault}
use Rattle.table.proofs.Table.{good-count, not-outside, not-unordered}
use Rattle.records.specs.Kinds.{Bytes}
use Rattle.stored.specs.Marks.{Mark, marks, marked_points, stored_variables, stored_on, stored_free}
use Rattle.stored.specs.Encoding.{encode_table, ValidTable}
use Rattle.stored.specs.Stored.{stored_fault}
use Rattle.stored.specs.Reading.{read_fault}
use Rattle.stored.proofs.Encodings.{encoded-laid, encoded-variables, encoded-marks, stored_same, table-bytes}
use Rattle.stored.proofs.Accepting.{points-below, stored-laid, stored-valid}
use Rattle.stored.proofs.Rooms.{read_fits, then-room}

-- ---- what is written of a valid table

module _ {n : ℕ} {ms : List Mark} (v : ValidTable n ms) where
  size : 2 ^ n ≤ max_points
  size = pow_mono v.few

  -- There are no more records than points, and each point has two bytes.
  pub valid-few : length ms ≤ max_points
  valid-few = omega (arith, length-map ms (λ m. m.point), rising-length (map (λ m. m.point) ms) (2 ^ n) v.rises (points-below v), size)

  valid-bytes : Bytes (encode_table n ms)
  valid-bytes = table-bytes n ms (omega (arith, v.few)) (λ m k. omega (arith, v.below m k, size)) valid-few

  -- What is written of it is accepted.
  pub valid-stored : stored_fault (encode_table n ms) ≡ 0
  unfolding stored_fault first_fault
  valid-stored =
      rw (
        encoded-laid n ms valid-few,
        encoded-variables n ms,
        encoded-marks n ms,
        (good-count n).1 (v.some, v.few),
        not-outside n (map (λ m. m.point) ms) (points-below v),
        not-unordered (map (λ m. m.point) ms) v.rises,
      )

-- ---- exactly

-- A list of bytes is accepted as a table exactly if it is the encoding of a valid one.
pub table-exactly : (bytes : List ℕ) → (Bytes bytes × (stored_fault bytes ≡ 0)) ↔ ((n : ℕ) × (ms : List Mark) × ValidTable n ms × (bytes ≡ encode_table n ms))
table-exactly bytes = (
  λ h. (stored_variables bytes, marks bytes, stored-valid bytes h.1, stored_same bytes h.0 (stored-laid bytes h.1)),
  λ t. subst (λ (l : List ℕ). Bytes l × (stored_fault l ≡ 0)) (sym t.3) (valid-bytes t.2, valid-stored t.2),
)

-- What is read of an encoding is what was written: n, the on points and the free points.
pub table-read : (bytes : List ℕ) (n : ℕ) (ms : List Mark) → bytes ≡ encode_table n ms
    → (stored_variables bytes ≡ n) × (stored_on bytes ≡ marked_points true ms) × (stored_free bytes ≡ marked_points false ms)
table-read bytes n ms e = (
  ap stored_variables e ∙ encoded-variables n ms,
  ap stored_on e ∙ ap (marked_points true) (encoded-marks n ms),
  ap stored_free e ∙ ap (marked_points false) (encoded-marks n ms),
)

-- It is read into rooms of these lengths exactly if both lists fit too.
pub read-exactly : (bytes : List ℕ) (on free : ℕ)
    → (Bytes bytes × (read_fault bytes on free ≡ 0))
    ↔ ((n : ℕ) × (ms : List Mark) × ValidTable n ms × (bytes ≡ encode_table n ms) × (length (marked_points true ms) ≤ on) × (length (marked_points false ms) ≤ free))
read-exactly bytes on free = (
  λ h.
      let f = read_fits bytes on free h.1 in
      let t = (table-exactly bytes).0 (h.0, f.0) in
      let r = table-read bytes t.0 t.1 t.3 in
      (t.0, t.1, t.2, t.3, rw r.1 at f.1, rw r.2 at f.2),
  λ t.
      let a = (table-exactly bytes).1 (t.0, t.1, t.2, t.3) in
      let r = table-read bytes t.0 t.1 t.3 in
      (a.0, then-room bytes on free a.1 ∙ rw (r.1, r.2, le-ltb _ _ t.4, le-ltb _ _ t.5)),
)
