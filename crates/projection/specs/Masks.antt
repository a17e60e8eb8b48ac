-- The restriction and the projection by the mask of the lead bits of a basis (document 01, "Points and spaces"). That they are those of the
-- basis is `kept-restriction` and `projected-projection`. Read next: crate `product`.
use Rattle.std.specs.Prelude.{Bool, not, ◌&&◌, List, map, ℕ, ◌+◌, ◌*◌, ◌/◌, ◌%◌, ◌^◌, eqb, get_or}
use Rattle.std.specs.Int.Bits.{bit_and}
use Rattle.gf2.specs.Bits.{◌⊕◌, bit}
use Rattle.gf2.specs.Finite.{select}
use Rattle.gf2.specs.Basis.{places_at}
use Rattle.space.specs.Restriction.{project}

-- The places below n that are set in the mask, the highest first, and those that are clear in it.
abbrev pub places_set : ℕ → ℕ → List ℕ
places_set n mask = places_at n (λ k. bit k mask)

abbrev pub places_clear : ℕ → ℕ → List ℕ
places_clear n mask = places_at n (λ k. not (bit k mask))

-- The point w without its bit at place k. That the bits below it stay and those above come down by one place is `bit-drop-below` and `bit-drop-above`.
unfoldable pub drop_place : ℕ → ℕ → ℕ
drop_place k w = w / 2 / 2 ^ k * 2 ^ k + w % 2 ^ k

-- The point w is on, and all canonical variables, which are the places set in the lead mask, are 0 in it.
unfoldable pub is_kept : ℕ → (ℕ → Bool) → ℕ → Bool
is_kept leads f w = f w && eqb (bit_and leads w) 0

-- The points of the function with all canonical variables 0, those bits dropped, order of the others kept.
unfoldable pub kept : ℕ → ℕ → (ℕ → Bool) → List ℕ
kept n leads f = map (project (places_clear n leads)) (select (is_kept leads f) (2 ^ n))

-- The points with the noncanonical bits dropped, which are the places clear in the lead mask.
unfoldable pub projected : ℕ → ℕ → List ℕ → List ℕ
projected n leads ps = map (project (places_set n leads)) ps

-- Each point XOR the first.
unfoldable pub differences : List ℕ → List ℕ
differences ps = map (λ q. q ⊕ get_or ps 0 0) ps
