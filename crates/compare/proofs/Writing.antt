-- The listing of differing points turn by turn, as the loop of `write_differing` goes: one law for each way through a turn. Read next: Refusals.
use mathlib.Core.Path.{◌≡◌, sym, ap, ◌∙◌}
use mathlib.Core.Bool.{Bool, true, false}
use mathlib.Core.Logic.{◌≢◌}
use mathlib.Core.List.{List, [], ◌∷◌, ◌++◌, flat_map}
use Prim.Native.Nat.{ℕ, ◌+◌, ◌*◌, ◌/◌, ◌≤◌, ◌<◌}
use native.Mathlib.Numerals.{add-one}
use native.Mathlib.Omega.{arith}
use lib.Dec.{leb}
use lib.ListN.{length, length-append}
use lib.Seq.{sets, length-sets}
use borrow.Author.Tests.{eq-eqb, ne_eqb, le-leb}
use Rattle.gf2.specs.Finite.{select}
use Rattle.gf2.proofs.Logic.{and-false}
use Rattle.gf2.proofs.Finite.{select-on, select-off}
use Rattle.table.specs.Decision.{front}
use Rattle.table.proofs.Fill.{sets-append, sets-front}
use Rattle.compare.specs.Differences.{is_listed, differing_from, difference_length, difference_of, differences_of, handed_points, handed_bytes, next_point, stopped_at}
use Rattle.compare.proofs.Records.{differences-length, differences-append, differences-one}
use Rattle.compare.proofs.Stopping.{stops, ends}
use Rattle.compare.proofs.Joining.{from-none}

-- Two tables, a first point, and a room as it was lent.
module _ (left right : ℕ → ℕ) (first : ℕ) (lent : List ℕ) where
  abbrev listed : ℕ → Bool
  listed = is_listed left right first

  pub listed-not : (p : ℕ) → left p ≡ right p → listed p ≡ false
  listed-not p e = rw (eq-eqb (left p) (right p) e) (and-false (leb first p))

  pub listed-is : (p : ℕ) → first ≤ p → left p ≢ right p → listed p ≡ true
  listed-is p h n = rw (le-leb first p h, ne_eqb (left p) (right p) n)

  -- The points below p are passed: those to be listed are counted and written.
  pub record Passed (p records : ℕ) (room : List ℕ) : Type 0 where
    pub low : first ≤ p
    pub count : records ≡ length (select listed p)
    pub fits : difference_length * records ≤ length lent
    pub written : room ≡ sets lent 0 (differences_of left right (select listed p))

  -- At the first point nothing is passed.
  pub none_passed : Passed first 0 lent
  unfolding differences_of flat_map differing_from
  none_passed = record { low = omega arith; count = ap length (sym none); fits = omega arith; written = ap (λ l. sets lent 0 (differences_of left right l)) (sym none) }
    where
      none : select listed first ≡ []
      none = from-none left right first first (omega arith)

  module _ {p records : ℕ} {room : List ℕ} (w : Passed p records room) where
    pub passed_length : length room ≡ length lent
    passed_length = ap length w.written ∙ length-sets lent 0 (differences_of left right (select listed p))

    -- A point that is marked alike is passed over.
    pub passed-same : left p ≡ right p → Passed (p + 1) records room
    passed-same e =
        let off : select listed (p + 1) ≡ select listed p = rw add-one (select-off listed p (listed-not p e)) in
        record {
          low = omega (arith, w.low);
          count = w.count ∙ ap length (sym off);
          fits = w.fits;
          written = w.written ∙ ap (λ l. sets lent 0 (differences_of left right l)) (sym off);
        }

    -- A differing point is written behind those before it.
    pub passed-more : left p ≢ right p → difference_length * records + difference_length ≤ length lent
        → Passed (p + 1) (records + 1) (sets room (difference_length * records) (difference_of left right p))
    passed-more n room-left =
        let done = select listed p in
        let on : select listed (p + 1) ≡ done ++ (p ∷ []) = rw add-one (select-on listed p (listed-is p w.low n)) in
        let bytes : differences_of left right (select listed (p + 1)) ≡ differences_of left right done ++ difference_of left right p
        = ap (differences_of left right) on ∙ differences-append left right done (p ∷ []) ∙ ap (λ l. differences_of left right done ++ l) (differences-one left right p) in
        record {
          low = omega (arith, w.low);
          count = omega (arith, w.count, ap length on, length-append done (p ∷ []));
          fits = omega arith;
          written = ap (λ r. sets r (difference_length * records) (difference_of left right p)) w.written
              ∙ sets-append lent 0 (differences_of left right done) (difference_of left right p) (difference_length * records) (omega (arith, w.count, differences-length left right done))
              ∙ ap (sets lent 0) (sym bytes);
        }

    -- The room with what was handed over at its front.
    handed-front : {ps : List ℕ} → ps ≡ select listed p → room ≡ front (differences_of left right ps) lent
    handed-front {ps} e =
        w.written ∙ ap (λ l. sets lent 0 (differences_of left right l)) (sym e)
        ∙ sets-front lent (differences_of left right ps) (omega (arith, w.fits, w.count, ap length e, differences-length left right ps))

    module _ (size : ℕ) where
      -- A differing point that doesn't fit stops the listing.
      pub passed-stops : p < size → left p ≢ right p → records ≡ length lent / difference_length
          → (record { records = records; next = p } ≡ stopped_at left right first size (length lent)) × (room ≡ front (handed_bytes left right first size (length lent)) lent)
      unfolding differing_from handed_points next_point
      passed-stops h n full =
          let s = stops listed size (length lent / difference_length) p h (listed-is p w.low n) (sym w.count ∙ full) in
          (rw (s.0, s.1, ← w.count), handed-front s.0)

      -- At the size it is done.
      pub passed-ends : p ≡ size → (record { records = records; next = size } ≡ stopped_at left right first size (length lent)) × (room ≡ front (handed_bytes left right first size (length lent)) lent)
      unfolding differing_from handed_points next_point
      passed-ends e =
          let all : length (select listed size) ≡ records = ap (λ (k : ℕ). length (select listed k)) (sym e) ∙ sym w.count in
          let s = ends listed size (length lent / difference_length) (omega (arith, w.fits)) in
          (rw (s.0, s.1, all), handed-front (s.0 ∙ ap (select listed) (sym e)))
