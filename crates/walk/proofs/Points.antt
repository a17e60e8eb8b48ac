-- Laws of the candidates from a least point on: from the first, from one and the next, and beyond the last. Read next: Rows.
use mathlib.Core.Path.{◌≡◌, refl, sym, ap, ◌∙◌}
use mathlib.Core.Bool.{true}
use mathlib.Core.List.{[], ◌∷◌, ◌++◌, flat_map, append_assoc, append-nil}
use Prim.Native.Nat.{ℕ, zero, suc, ◌+◌, ◌-◌, ◌^◌, ◌≤◌, ◌<◌}
use native.Mathlib.Decide.{ℕ_discrete}
use native.Mathlib.Omega.{arith}
use lib.ListN.{length, get_or, drop, length-append, get_or-append, drop_of_length-le}
use lib.Seq.{drop-cons, drop-append-add, get_or-append_seam}
use Rattle.gf2.specs.Finite.{select}
use Rattle.cubes.specs.Candidates.{points, candidates_at, candidates_of, candidates_from}
use Rattle.walk.specs.Places.{lower_degrees, from_point}

-- ---- the points

pub points-length : (k : ℕ) → length (select (λ p. true) k) ≡ k
unfolding select
points-length zero = refl
points-length (suc k) = omega (arith, length-append (select (λ p. true) k) (k ∷ []), points-length k)

point_at : (k p : ℕ) → p < k → get_or (select (λ p. true) k) p 0 ≡ p
unfolding select
point_at zero p h = absurd (omega arith)
point_at (suc k) p h = go (ℕ_discrete p k) (point_at k p)
  where
    go : Dec (p ≡ k) → (p < k → get_or (select (λ p. true) k) p 0 ≡ p) → get_or (select (λ p. true) k ++ (k ∷ [])) p 0 ≡ p
    go (yes e) f = ap (λ (z : ℕ). get_or (select (λ p. true) k ++ (k ∷ [])) z 0) (e ∙ sym (points-length k)) ∙ get_or-append_seam (select (λ p. true) k) k [] 0 ∙ sym e
    go (no m) f = get_or-append (select (λ p. true) k) (k ∷ []) 0 p (omega (arith, points-length k)) ∙ f (omega arith)

pub points-cons : (n p : ℕ) → p < 2 ^ n → drop p (points n) ≡ p ∷ drop (suc p) (points n)
points-cons n p h = drop-cons (points n) p 0 (omega (arith, points-length (2 ^ n))) ∙ ap (λ (z : ℕ). z ∷ drop (suc p) (points n)) (point_at (2 ^ n) p h)

-- ---- the candidates from a point on

-- A degree begins with its first point.
pub point-first : (n d : ℕ) → candidates_from n d ≡ from_point n d 0
unfolding candidates_from candidates_of lower_degrees from_point
point-first n zero = sym (append-nil (flat_map (candidates_at n 0) (points n)))
point-first n (suc d) = refl

-- From a point on: its own candidates, then those from the next one on.
pub point-cons : (n d p : ℕ) → p < 2 ^ n → from_point n d p ≡ candidates_at n d p ++ from_point n d (suc p)
unfolding from_point flat_map
point-cons n d p h =
    ap (λ l. flat_map (candidates_at n d) l ++ lower_degrees n d) (points-cons n p h)
    ∙ append_assoc (candidates_at n d p) (flat_map (candidates_at n d) (drop (suc p) (points n))) (lower_degrees n d)

-- So a whole point can be passed at once.
pub point-passed : (n d p skip count : ℕ) → p < 2 ^ n → count ≡ length (candidates_at n d p) → count ≤ skip
    → drop skip (from_point n d p) ≡ drop (skip - count) (from_point n d (suc p))
point-passed n d p skip count h e l =
    let q : skip ≡ length (candidates_at n d p) + (skip - count) = omega arith in
    ap (λ (k : ℕ). drop k (from_point n d p)) q ∙ ap (drop (length (candidates_at n d p) + (skip - count))) (point-cons n d p h)
    ∙ drop-append-add (candidates_at n d p) (from_point n d (suc p)) (skip - count)

-- Beyond the last point there are those of a lower degree.
pub point-beyond : (n d p : ℕ) → 2 ^ n ≤ p → from_point n d p ≡ lower_degrees n d
unfolding from_point flat_map
point-beyond n d p h = ap (λ l. flat_map (candidates_at n d) l ++ lower_degrees n d) (drop_of_length-le (points n) {i = p} (omega (arith, points-length (2 ^ n))))
