-- Where two tables differ, and the records that say so (document 02, No. 1). A table is given by the mark of each point, and both have points
-- below one size. Read next: Answer.
use Rattle.std.specs.Prelude.{Bool, not, ◌&&◌, ℕ, ◌/◌, eqb, leb, length, take, get_or}
use mathlib.Core.List.{List, [], ◌∷◌, flat_map}
use Rattle.gf2.specs.Finite.{select}
use Rattle.records.specs.Kinds.{low_byte, high_byte}
use Rattle.compare.specs.declared.Stopped.{Stopped}

-- The point is marked otherwise in the one table than in the other.
abbrev pub differs : (ℕ → ℕ) → (ℕ → ℕ) → ℕ → Bool
differs left right p = not (eqb (left p) (right p))

-- The differing points, rising.
unfoldable pub differing : (ℕ → ℕ) → (ℕ → ℕ) → ℕ → List ℕ
differing left right size = select (differs left right) size

-- The point is one to be listed from a first point on.
abbrev pub is_listed : (ℕ → ℕ) → (ℕ → ℕ) → ℕ → ℕ → Bool
is_listed left right first p = leb first p && differs left right p

-- The differing points from a first point on, below a bound, rising.
unfoldable pub differing_from : (ℕ → ℕ) → (ℕ → ℕ) → ℕ → ℕ → List ℕ
differing_from left right first bound = select (is_listed left right first) bound

-- The bytes of a record.
abbrev pub difference_length : ℕ
difference_length = 4

-- The record of a differing point: the point, low byte first, then the left and the right mark.
abbrev pub difference_of : (ℕ → ℕ) → (ℕ → ℕ) → ℕ → List ℕ
difference_of left right p = low_byte p ∷ high_byte p ∷ left p ∷ right p ∷ []

-- The records of some points, one after the other.
unfoldable pub differences_of : (ℕ → ℕ) → (ℕ → ℕ) → List ℕ → List ℕ
differences_of left right ps = flat_map (difference_of left right) ps

-- How many whole records a room of so many bytes has place for.
abbrev pub fitting : ℕ → ℕ
fitting bytes = bytes / difference_length

-- The points that a listing from a first point on hands over into a room of so many bytes: it stops before one that doesn't fit.
unfoldable pub handed_points : (ℕ → ℕ) → (ℕ → ℕ) → ℕ → ℕ → ℕ → List ℕ
handed_points left right first size bytes = take (fitting bytes) (differing_from left right first size)

-- The bytes that it writes.
abbrev pub handed_bytes : (ℕ → ℕ) → (ℕ → ℕ) → ℕ → ℕ → ℕ → List ℕ
handed_bytes left right first size bytes = differences_of left right (handed_points left right first size bytes)

-- The point that it returns: the one that didn't fit, or the size when it is done.
unfoldable pub next_point : (ℕ → ℕ) → (ℕ → ℕ) → ℕ → ℕ → ℕ → ℕ
next_point left right first size bytes = get_or (differing_from left right first size) (fitting bytes) size

-- What it returns.
abbrev pub stopped_at : (ℕ → ℕ) → (ℕ → ℕ) → ℕ → ℕ → ℕ → Stopped
stopped_at left right first size bytes =
    record { records = length (handed_points left right first size bytes); next = next_point left right first size bytes }
