-- Laws of specs.Marks: the mark says which list the point stands in, and the records of a table, put into an array one after the other, give every
-- point its mark.
use mathlib.Core.Path.{◌≡◌, refl, sym, ap, ◌∙◌}
use mathlib.Core.Bool.{Bool, true, false, cond, beq}
use mathlib.Core.Logic.{◌↔◌}
use mathlib.Core.List.{List, [], ◌∷◌, map}
use Prim.Native.Nat.{ℕ, ◌+◌, ◌<◌}
use native.Mathlib.Numerals.{add-one}
use native.Mathlib.Decide.{ℕ_discrete}
use native.Mathlib.Omega.{arith}
use lib.ListN.{length, drop, set, get_or, replicate, length-set, length-replicate, get_or-replicate}
use lib.Seq.{drop-cons, get_or-set_same, get_or-set_other}
use borrow.Author.Tests.{eq-eqb, ne_eqb}
use Rattle.gf2.specs.Finite.{Mem, holds, Rising}
use Rattle.gf2.proofs.Logic.{clash}
use Rattle.gf2.proofs.Finite.{holds-mem}
use Rattle.table.specs.Flags.{max_points}
use Rattle.table.proofs.Table.{refuted}
use Rattle.stored.specs.Marks.{Mark, no_mark, marks, marked_points}
use Rattle.stored.specs.Stored.{stored_fault}
use Rattle.stored.proofs.Points.{points-mem}
use Rattle.stored.proofs.Accepting.{stored-valid}
use Rattle.point_marks.specs.Marks.{off_mark, on_mark, free_mark, record_mark, mark_in, MarksOf}

-- ---- records put into an array

-- Each record puts the mark of its point into the array.
unfoldable pub put_marks : List Mark → List ℕ → List ℕ
put_marks [] array = array
put_marks (m ∷ ms) array = put_marks ms (set array m.point (record_mark m.is_on))

-- The records from place i on: the first puts in its mark, then those from the next place on.
pub put_next : (ms : List Mark) (array : List ℕ) (i : ℕ) → i < length ms
    → put_marks (drop i ms) array ≡ put_marks (drop (i + 1) ms) (set array (get_or ms i no_mark).point (record_mark (get_or ms i no_mark).is_on))
unfolding put_marks
put_next ms array i h = rw (add-one, drop-cons ms i no_mark)

-- A point below all those of the list is none of them.
above : (is_on : Bool) (m : Mark) (ms : List Mark) → Rising (map (λ m. m.point) (m ∷ ms)) → holds (marked_points is_on ms) m.point ≡ false
above is_on m ms r =
    refuted (holds (marked_points is_on ms) m.point) (λ e. omega (arith, r.0 m.point (points-mem is_on ms m.point ((holds-mem (marked_points is_on ms) m.point).0 e))))

-- Where the points rise, each is given its mark, and every other entry stays.
pub put-at : (ms : List Mark) → Rising (map (λ m. m.point) ms) → (array : List ℕ) (p : ℕ) → p < length array
    → get_or (put_marks ms array) p off_mark ≡ cond (holds (marked_points true ms) p) on_mark (cond (holds (marked_points false ms) p) free_mark (get_or array p off_mark))
unfolding put_marks marked_points holds
put-at [] r array p h = refl
put-at (m ∷ ms) r array p h =
    put-at ms r.1 (set array m.point (record_mark m.is_on)) p (simp length-set h) ∙ go (ℕ_discrete p m.point) m.is_on
  where
    go : Dec (p ≡ m.point) → (is_on : Bool)
        → cond (holds (marked_points true ms) p) on_mark (cond (holds (marked_points false ms) p) free_mark (get_or (set array m.point (record_mark is_on)) p off_mark))
        ≡ cond (holds (cond (beq true is_on) (m.point ∷ marked_points true ms) (marked_points true ms)) p) on_mark
        (cond (holds (cond (beq false is_on) (m.point ∷ marked_points false ms) (marked_points false ms)) p) free_mark (get_or array p off_mark))
    go (yes e) true = rw (e, above true m ms r, above false m ms r, eq-eqb m.point m.point refl) (get_or-set_same array m.point on_mark off_mark (omega arith))
    go (yes e) false = rw (e, above true m ms r, above false m ms r, eq-eqb m.point m.point refl) (get_or-set_same array m.point free_mark off_mark (omega arith))
    go (no n) true = rw (ne_eqb m.point p (λ w. n (sym w)), get_or-set_other array m.point p on_mark off_mark n)
    go (no n) false = rw (ne_eqb m.point p (λ w. n (sym w)), get_or-set_other array m.point p free_mark off_mark n)

-- The records of an accepted table, put into an array that has every point off.
pub marks-at : (bytes array : List ℕ) → stored_fault bytes ≡ 0 → array ≡ put_marks (marks bytes) (replicate max_points off_mark) → MarksOf bytes array
unfolding mark_in
marks-at bytes array a e p h =
    ap (λ (l : List ℕ). get_or l p off_mark) e
    ∙ put-at (marks bytes) (stored-valid bytes a).rises (replicate max_points off_mark) p (simp length-replicate h)
    ∙ rw (get_or-replicate max_points p off_mark off_mark)

-- ---- what a mark says

module _ (on free : List ℕ) (p : ℕ) where
  pub marked-on : (mark_in on free p ≡ on_mark) ↔ Mem p on
  unfolding mark_in
  marked-on = (λ e. (holds-mem on p).0 (go (holds on p) (holds free p) e), λ m. rw ((holds-mem on p).1 m))
    where
      go : (a b : Bool) → cond a on_mark (cond b free_mark off_mark) ≡ on_mark → a ≡ true
      go true b e = refl
      go false true e = absurd (omega arith)
      go false false e = absurd (omega arith)

  -- No point is on and free in a table that is accepted.
  pub marked-free : ((q : ℕ) → Mem q on → Mem q free → ⊥) → (mark_in on free p ≡ free_mark) ↔ Mem p free
  unfolding mark_in
  marked-free apart = (
    λ e. (holds-mem free p).0 (go (holds on p) (holds free p) e),
    λ m. rw (refuted (holds on p) (λ e. apart p ((holds-mem on p).0 e) m), (holds-mem free p).1 m),
  )
    where
      go : (a b : Bool) → cond a on_mark (cond b free_mark off_mark) ≡ free_mark → b ≡ true
      go true b e = absurd (omega arith)
      go false true e = refl
      go false false e = absurd (omega arith)

  pub marked-off : (mark_in on free p ≡ off_mark) ↔ ((Mem p on → ⊥) × (Mem p free → ⊥))
  unfolding mark_in
  marked-off = (
    λ e.
        let off = go (holds on p) (holds free p) e in
        (λ m. clash ((holds-mem on p).1 m) off.0, λ m. clash ((holds-mem free p).1 m) off.1),
    λ n. rw (refuted (holds on p) (λ e. n.0 ((holds-mem on p).0 e)), refuted (holds free p) (λ e. n.1 ((holds-mem free p).0 e))),
  )
    where
      go : (a b : Bool) → cond a on_mark (cond b free_mark off_mark) ≡ off_mark → (a ≡ false) × (b ≡ false)
      go true b e = absurd (omega arith)
      go false true e = absurd (omega arith)
      go false false e = (refl, refl)
