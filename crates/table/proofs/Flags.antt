-- Laws of specs.Flags: a flag is set exactly if its point is in the list or it was set before.
use mathlib.Core.Path.{◌≡◌, refl, sym, ◌∙◌}
use mathlib.Core.Bool.{Bool, true, false, ◌||◌, or-false, or-true}
use mathlib.Core.List.{List, [], ◌∷◌}
use Prim.Native.Nat.{ℕ, ◌+◌, ◌<◌}
use native.Mathlib.Numerals.{add-one}
use native.Mathlib.Decide.{ℕ_discrete}
use native.Mathlib.Omega.{arith}
use lib.Dec.{eqb}
use lib.ListN.{length, drop, set, get_or, replicate, length-set, length-replicate, get_or-replicate}
use lib.Seq.{drop-cons, get_or-set_same, get_or-set_other}
use borrow.Author.Tests.{eq-eqb, ne_eqb}
use Rattle.gf2.specs.Finite.{holds}
use Rattle.table.specs.Flags.{max_points, marked, flags_of}

pub length_marked : (ps : List ℕ) (flags : List Bool) → length (marked ps flags) ≡ length flags
unfolding marked
length_marked [] flags = refl
length_marked (p ∷ ps) flags = length_marked ps (set flags p true) ∙ length-set flags p true

pub marked-at : (ps : List ℕ) (flags : List Bool) (p : ℕ) → p < length flags → get_or (marked ps flags) p false ≡ holds ps p || get_or flags p false
unfolding marked holds
marked-at [] flags p h = refl
marked-at (q ∷ ps) flags p h =
    marked-at ps (set flags q true) p (simp length-set h) ∙ go (ℕ_discrete p q)
  where
    go : Dec (p ≡ q) → holds ps p || get_or (set flags q true) p false ≡ (eqb q p || holds ps p) || get_or flags p false
    go (yes z) = rw (z, eq-eqb q q refl, get_or-set_same flags q true false (omega arith)) (or-true (holds ps q))
    go (no z) = rw (ne_eqb q p (λ w. z (sym w)), get_or-set_other flags q p true false z)

-- The points from place i on: the first is marked, then those from the next place on.
pub marked_next : (ps : List ℕ) (flags : List Bool) (i : ℕ) → i < length ps → marked (drop i ps) flags ≡ marked (drop (i + 1) ps) (set flags (get_or ps i 0) true)
unfolding marked
marked_next ps flags i h = rw (add-one, drop-cons ps i 0)

-- Where all n flags were clear, exactly those of the points are set.
clear_at : (n : ℕ) (ps : List ℕ) (p : ℕ) → p < n → get_or (marked ps (replicate n false)) p false ≡ holds ps p
clear_at n ps p h =
    marked-at ps (replicate n false) p (simp length-replicate h) ∙ rw (get_or-replicate n p false false) (or-false (holds ps p))

pub length-flags : (ps : List ℕ) → length (flags_of ps) ≡ max_points
unfolding flags_of
length-flags ps = length_marked ps (replicate max_points false) ∙ length-replicate max_points false

pub flags-at : (ps : List ℕ) (p : ℕ) → p < max_points → get_or (flags_of ps) p false ≡ holds ps p
unfolding flags_of
flags-at ps p h = clear_at max_points ps p h

-- The same of flags and a place that are known to be those.
pub flag-known : {flags : List Bool} {place : ℕ} (ps : List ℕ) (p : ℕ) → flags ≡ flags_of ps → place ≡ p → p < max_points → get_or flags place false ≡ holds ps p
flag-known ps p e q h = rw (e, q) (flags-at ps p h)
