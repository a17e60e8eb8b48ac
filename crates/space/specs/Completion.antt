-- The completion of a table: document 01, "Points and spaces", and for up to eight variables document 02, No. 4. A table is a list of on points and a
-- list of free points; all others are off. Read next: Restriction.
use Rattle.std.specs.Prelude.{◌≡◌, Bool, cond, ◌||◌, List, ℕ, ◌^◌, ◌<◌, ltb, leb}
use Rattle.gf2.specs.Finite.{holds, select, In}
use Rattle.basis.specs.Reduced.{Built}
use Rattle.closure_set.specs.ClosureSet.{largest_space, spread}
use Rattle.space.specs.declared.Completed.{Completed}
use Rattle.space.specs.Closure.{closed, linear_space, degree}
use Rattle.space.specs.Witness.{flagged}

-- The complete function with all free points off: its on points are the table's.
abbrev pub all_off : List ℕ → ℕ → Bool
all_off on = holds on

-- The complete function with all free points on.
unfoldable pub all_on : List ℕ → List ℕ → ℕ → Bool
all_on on free w = holds on w || holds free w

-- k0, the degree with all free points off.
abbrev pub k0 : ℕ → List ℕ → ℕ
k0 n on = degree n (all_off on)

-- k1, the degree with all of them on.
abbrev pub k1 : ℕ → List ℕ → List ℕ → ℕ
k1 n on free = degree n (all_on on free)

-- The simple way (document 01): the completion of the larger degree; on a tie, all off.
unfoldable pub simply_completed : ℕ → List ℕ → List ℕ → ℕ → Bool
simply_completed n on free = cond (ltb (k0 n on) (k1 n on free)) (all_on on free) (all_off on)

-- The largest number of variables for which the largest space is searched (document 02, No. 4).
abbrev pub max_searched : ℕ
max_searched = 8

-- The completed function (document 02, No. 4): for at most so many variables every on point XOR every vector of the largest space inside the closure
-- set; for more, the simple way.
unfoldable pub completed : ℕ → List ℕ → List ℕ → ℕ → Bool
completed n on free = cond (leb n max_searched) (spread on (largest_space n on free)) (simply_completed n on free)

-- The on points of the completed function, rising.
unfoldable pub completed_points : ℕ → List ℕ → List ℕ → List ℕ
completed_points n on free = select (completed n on free) (2 ^ n)

-- A table completed to the function f: the flags are those of f, the basis is that of its linear space, and the two degrees are k0 and k1, of the simple
-- way for any number of variables.
pub record CompletedTo (n : ℕ) (on free : List ℕ) (f : ℕ → Bool) (r : Completed) : Type 0 where
  pub flags : (w : ℕ) → w < 2 ^ n → flagged r.flags w ≡ f w
  pub basis : Built r.basis (linear_space n f) (In n (closed n f))
  pub k0 : r.k0 ≡ k0 n on
  pub k1 : r.k1 ≡ k1 n on free

-- A table completed.
abbrev pub IsCompleted : ℕ → List ℕ → List ℕ → Completed → Type 0
IsCompleted n on free r = CompletedTo n on free (completed n on free) r
