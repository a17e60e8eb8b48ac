-- The points of some of the marks: of a rising list they rise, no point is on and free, and they grow mark by mark as a loop takes them.
-- Read next: Numbered.
use mathlib.Core.Path.{◌≡◌, refl, sym, ap, ◌∙◌}
use mathlib.Core.Bool.{Bool, true, false, cond, beq}
use mathlib.Core.Logic.{inl, inr}
use mathlib.Core.List.{List, [], ◌∷◌, ◌++◌, map, append-nil}
use Prim.Native.Nat.{ℕ, ◌≤◌, ◌<◌, ◌+◌}
use native.Mathlib.Numerals.{add-one}
use native.Mathlib.Omega.{arith}
use lib.ListN.{length, take, drop, get_or, set, length-set, length-append, take-append-drop}
use lib.Seq.{take_all, take-suc}
use Rattle.gf2.specs.Finite.{Mem, Rising}
use Rattle.gf2.proofs.Logic.{cond_cases}
use Rattle.table.specs.Decision.{front}
use Rattle.table.proofs.Fill.{fill-push}
use Rattle.stored.specs.Marks.{Mark, no_mark, marked_points}

-- ---- members and order

-- Whatever holds of the list with the mark's point and of the list without it holds of the points.
module _ (Q : List ℕ → Type 0) (is_on : Bool) (m : Mark) (ms : List Mark) where
  points-cases : (beq is_on m.is_on ≡ true → Q (m.point ∷ marked_points is_on ms)) → (beq is_on m.is_on ≡ false → Q (marked_points is_on ms)) → Q (marked_points is_on (m ∷ ms))
  unfolding marked_points
  points-cases f g = cond_cases Q (beq is_on m.is_on) (m.point ∷ marked_points is_on ms) (marked_points is_on ms) f g

pub points-mem : (is_on : Bool) (ms : List Mark) (p : ℕ) → Mem p (marked_points is_on ms) → Mem p (map (λ m. m.point) ms)
unfolding marked_points
points-mem is_on [] p k = absurd k
points-mem is_on (m ∷ ms) p k =
    let rest = points-mem is_on ms p in
    points-cases (λ l. Mem p l → Mem p (map (λ m. m.point) (m ∷ ms))) is_on m ms
    (λ e j. elim j [ inl q ↦ inl q | inr i ↦ inr (rest i) ]) (λ e j. inr (rest j)) k

pub points-rising : (is_on : Bool) (ms : List Mark) → Rising (map (λ m. m.point) ms) → Rising (marked_points is_on ms)
unfolding marked_points
points-rising is_on [] r = tt
points-rising is_on (m ∷ ms) r =
    let rest = points-rising is_on ms r.1 in
    points-cases Rising is_on m ms (λ e. (λ q k. r.0 q (points-mem is_on ms q k), rest)) (λ e. rest)

-- A mark is on or free, and a point that rises above its mark stands in no other.
pub points-apart : (ms : List Mark) → Rising (map (λ m. m.point) ms) → (p : ℕ) → Mem p (marked_points true ms) → Mem p (marked_points false ms) → ⊥
unfolding marked_points
points-apart [] r p k l = absurd k
points-apart (m ∷ ms) r p k l = go m.is_on (points-apart ms r.1 p) k l
  where
    go : (b : Bool) → (Mem p (marked_points true ms) → Mem p (marked_points false ms) → ⊥)
        → Mem p (cond (beq true b) (m.point ∷ marked_points true ms) (marked_points true ms)) → Mem p (cond (beq false b) (m.point ∷ marked_points false ms) (marked_points false ms)) → ⊥
    go true rest (inl q) l = omega (arith, q, r.0 p (points-mem false ms p l))
    go true rest (inr k) l = rest k l
    go false rest k (inl q) = omega (arith, q, r.0 p (points-mem true ms p k))
    go false rest k (inr l) = rest k l

-- ---- mark by mark

pub points-append : (is_on : Bool) (ls ms : List Mark) → marked_points is_on (ls ++ ms) ≡ marked_points is_on ls ++ marked_points is_on ms
unfolding marked_points
points-append is_on [] ms = refl
points-append is_on (l ∷ ls) ms = go (beq is_on l.is_on) (points-append is_on ls ms)
  where
    go : (t : Bool) → marked_points is_on (ls ++ ms) ≡ marked_points is_on ls ++ marked_points is_on ms
        → cond t (l.point ∷ marked_points is_on (ls ++ ms)) (marked_points is_on (ls ++ ms)) ≡ cond t (l.point ∷ marked_points is_on ls) (marked_points is_on ls) ++ marked_points is_on ms
    go true e = ap (λ (p : List ℕ). l.point ∷ p) e
    go false e = e

pub points-few : (is_on : Bool) (ms : List Mark) → length (marked_points is_on ms) ≤ length ms
unfolding marked_points
points-few is_on [] = omega arith
points-few is_on (m ∷ ms) =
    let rest = points-few is_on ms in
    points-cases (λ l. length l ≤ length (m ∷ ms)) is_on m ms (λ e. omega arith) (λ e. omega arith)

pub points-front : (is_on : Bool) (ms : List Mark) (k : ℕ) → length (marked_points is_on (take k ms)) ≤ length (marked_points is_on ms)
points-front is_on ms k =
    let whole = ap (λ (l : List Mark). length (marked_points is_on l)) (sym (take-append-drop k ms)) ∙ ap length (points-append is_on (take k ms) (drop k ms)) in
    omega (arith, whole, length-append (marked_points is_on (take k ms)) (marked_points is_on (drop k ms)))

-- The next mark adds its point, or nothing.
module _ (is_on : Bool) (ms : List Mark) (i : ℕ) (h : i < length ms) where
  next : marked_points is_on (take (i + 1) ms) ≡ marked_points is_on (take i ms) ++ marked_points is_on (get_or ms i no_mark ∷ [])
  next = rw (add-one, take-suc ms i no_mark) (points-append is_on (take i ms) (get_or ms i no_mark ∷ []))

  pub points-more : beq is_on (get_or ms i no_mark).is_on ≡ true → marked_points is_on (take (i + 1) ms) ≡ marked_points is_on (take i ms) ++ ((get_or ms i no_mark).point ∷ [])
  unfolding marked_points
  points-more e = next ∙ (rw e)

  pub count-more : beq is_on (get_or ms i no_mark).is_on ≡ true → length (marked_points is_on (take (i + 1) ms)) ≡ length (marked_points is_on (take i ms)) + 1
  count-more e = ap length (points-more e) ∙ length-append (marked_points is_on (take i ms)) ((get_or ms i no_mark).point ∷ [])

  pub points-same : beq is_on (get_or ms i no_mark).is_on ≡ false → marked_points is_on (take (i + 1) ms) ≡ marked_points is_on (take i ms)
  unfolding marked_points
  points-same e = next ∙ (rw e (append-nil (marked_points is_on (take i ms))))

-- ---- written into a room

-- The points of the first i marks stand at the front of the room, up to the place, and the rest is as lent.
pub record Written (is_on : Bool) (ms : List Mark) (lent : List ℕ) (i place : ℕ) (room : List ℕ) : Type 0 where
  pub count : place ≡ length (marked_points is_on (take i ms))
  pub long : length room ≡ length lent
  pub filled : room ≡ front (marked_points is_on (take i ms)) lent

pub none_written : (is_on : Bool) (ms : List Mark) (lent : List ℕ) → Written is_on ms lent 0 0 lent
unfolding marked_points
none_written is_on ms lent = record { count = refl; long = refl; filled = refl }

pub all-written : {is_on : Bool} {ms : List Mark} {lent : List ℕ} {i place : ℕ} {room : List ℕ} → length ms ≤ i → Written is_on ms lent i place room
    → (place ≡ length (marked_points is_on ms)) × (room ≡ front (marked_points is_on ms) lent)
all-written {is_on} {ms} {lent} {i} {place} {room} h w =
    let all : take i ms ≡ ms = take_all i ms h in
    (rw all at w.count, rw all at w.filled)

-- The next mark: its point is stored at the place, which lies in the room, or the room stays as it is.
module _ (is_on : Bool) (ms : List Mark) (lent : List ℕ) (i place : ℕ) (room : List ℕ) (h : i < length ms) (w : Written is_on ms lent i place room) where
  pub room-left : length (marked_points is_on ms) ≤ length lent → beq is_on (get_or ms i no_mark).is_on ≡ true → place < length lent
  room-left l e = omega (arith, w.count, count-more is_on ms i h e, points-front is_on ms (i + 1))

  pub written-more : length (marked_points is_on ms) ≤ length lent → beq is_on (get_or ms i no_mark).is_on ≡ true → Written is_on ms lent (i + 1) (place + 1) (set room place (get_or ms i no_mark).point)
  written-more l e = record {
    count = omega (arith, w.count, count-more is_on ms i h e);
    long = length-set room place (get_or ms i no_mark).point ∙ w.long;
    filled =
        rw (w.filled, w.count) (fill-push (marked_points is_on (take i ms)) lent (get_or ms i no_mark).point (omega (arith, w.count, room-left l e)))
        ∙ ap (λ (p : List ℕ). front p lent) (sym (points-more is_on ms i h e));
  }

  pub written_same : beq is_on (get_or ms i no_mark).is_on ≡ false → Written is_on ms lent (i + 1) place room
  written_same e =
      let same = points-same is_on ms i h e in
      record { count = w.count ∙ ap length (sym same); long = w.long; filled = w.filled ∙ ap (λ (p : List ℕ). front p lent) (sym same) }
