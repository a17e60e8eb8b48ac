-- Flags, one to a point, that mark the points of a list (document 01, "Points and spaces"). Read next: crate `records`.
use Rattle.std.specs.Prelude.{Bool, true, false, List, [], ◌∷◌, ℕ, ◌^◌, set, replicate}
use Rattle.gf2.specs.Limits.{max_variables}

-- The number of points of the largest number of variables.
abbrev pub max_points : ℕ
max_points = 2 ^ max_variables

-- The flags with those of the points set, and the others as they were. That it is so is `marked-at`.
unfoldable pub marked : List ℕ → List Bool → List Bool
marked [] flags = flags
marked (p ∷ ps) flags = marked ps (set flags p true)

-- The flags of a list of points: all clear at the start, then those of the points set. That it is so is `flags-at`.
unfoldable pub flags_of : List ℕ → List Bool
flags_of ps = marked ps (replicate max_points false)
