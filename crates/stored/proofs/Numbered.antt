-- The records of a table by their number: a test of each by its number is one of the list. Read next: Accepting.
use mathlib.Core.Path.{◌≡◌, refl, ap, ◌∙◌}
use mathlib.Core.Bool.{Bool, true, false, cond, ◌||◌, beq}
use mathlib.Core.List.{List, [], ◌∷◌}
use Prim.Native.Nat.{ℕ, zero, suc, ◌+◌, ◌-◌, ◌≤◌, ◌^◌}
use native.Mathlib.Omega.{arith}
use lib.Dec.{leb}
use lib.ListN.{length, get_or}
use Rattle.std.specs.List.{list_any, filter, range_with_len}
use Rattle.table.specs.Table.{outside, not_above, unordered}
use Rattle.stored.specs.Marks.{Mark, no_mark, marked_points}

-- The numbers from the next on are those after each number.
any-shift : (f : ℕ → Bool) (a n : ℕ) → list_any f (range_with_len (a + 1) n) ≡ list_any (λ i. f (suc i)) (range_with_len a n)
any-shift f a zero = refl
any-shift f a (suc n) =
    let next : suc a ≡ a + 1 = omega arith in
    rw (next, any-shift f (a + 1) n)

-- A member that passes is one more, whichever it is.
one-more : (t : Bool) (l m : List ℕ) (x y : ℕ) → length l ≡ length m → length (cond t (x ∷ l) l) ≡ length (cond t (y ∷ m) m)
one-more true l m x y e = ap suc e
one-more false l m x y e = e

count-shift : (f : ℕ → Bool) (a n : ℕ) → length (filter f (range_with_len (a + 1) n)) ≡ length (filter (λ i. f (suc i)) (range_with_len a n))
count-shift f a zero = refl
count-shift f a (suc n) =
    let next : suc a ≡ a + 1 = omega arith in
    rw next (one-more (f (a + 1)) _ _ _ _ (count-shift f (a + 1) n))

-- Two tests that agree from a number on.
any-same : (f g : ℕ → Bool) (a n : ℕ) → ((i : ℕ) → a ≤ i → f i ≡ g i) → list_any f (range_with_len a n) ≡ list_any g (range_with_len a n)
any-same f g a zero h = refl
any-same f g a (suc n) h = rw (h a (omega arith), any-same f g (a + 1) n (λ i l. h i (omega arith)))

pub outside-numbered : (n : ℕ) (points : List ℕ) → list_any (λ i. leb (2 ^ n) (get_or points i 0)) (range_with_len 0 (length points)) ≡ outside n points
unfolding outside
outside-numbered n [] = refl
outside-numbered n (p ∷ ps) =
    ap (λ rest. leb (2 ^ n) p || rest) (any-shift (λ i. leb (2 ^ n) (get_or (p ∷ ps) i 0)) 0 (length ps) ∙ outside-numbered n ps)

-- The point of a number isn't greater than the one before it.
abbrev pub falls : List ℕ → ℕ → Bool
falls points i = leb (get_or points i 0) (get_or points (i - 1) 0)

unordered-after : (p : ℕ) (ps : List ℕ) → list_any (falls (p ∷ ps)) (range_with_len 1 (length ps)) ≡ unordered (p ∷ ps)
unfolding unordered not_above
unordered-after p [] = refl
unordered-after p (q ∷ qs) =
    ap (λ t. leb q p || t) (any-shift (falls (p ∷ q ∷ qs)) 1 (length qs) ∙ any-same (λ i. falls (p ∷ q ∷ qs) (suc i)) (falls (q ∷ qs)) 1 (length qs) same ∙ unordered-after q qs)
  where
    same : (i : ℕ) → 1 ≤ i → falls (p ∷ q ∷ qs) (suc i) ≡ falls (q ∷ qs) i
    same zero h = absurd (omega arith)
    same (suc j) h =
        let there : suc (suc j) - 1 ≡ suc j = omega arith in
        let here : suc j - 1 ≡ j = omega arith in
        rw (there, here)

pub unordered-numbered : (points : List ℕ) → list_any (falls points) (range_with_len 1 (length points - 1)) ≡ unordered points
unfolding unordered
unordered-numbered [] = refl
unordered-numbered (p ∷ ps) =
    let shorter : suc (length ps) - 1 ≡ length ps = omega arith in
    rw shorter (unordered-after p ps)

pub count-numbered : (is_on : Bool) (ms : List Mark) → length (filter (λ i. beq is_on (get_or ms i no_mark).is_on) (range_with_len 0 (length ms))) ≡ length (marked_points is_on ms)
unfolding marked_points
count-numbered is_on [] = refl
count-numbered is_on (m ∷ ms) =
    one-more (beq is_on m.is_on) _ _ _ _ (count-shift (λ i. beq is_on (get_or (m ∷ ms) i no_mark).is_on) 0 (length ms) ∙ count-numbered is_on ms)
