-- Worked examples of the largest space inside a set, computed from the definition.
use mathlib.Core.Path.{◌≡◌, refl}
use mathlib.Core.List.{List, [], ◌∷◌, map, flat_map}
use Prim.Native.Nat.{ℕ}
use Rattle.gf2.specs.Bits.{bit, halvings, lead}
use Rattle.gf2.specs.Finite.{holds}
use Rattle.cubes.specs.Lists.{keep}
use Rattle.cubes.specs.Candidates.{bases}
use Rattle.cubes.specs.Primes.{every_point}
use Rattle.subspaces.specs.Spaces.{spaces_of, spaces_from, largest}

-- A set of vectors of n variables, and the largest space inside it.
pub record Example : Type 0 where
  pub variables : ℕ
  pub set : List ℕ
  pub expected : List ℕ

-- The closure set of document 01's P8, with two spaces of one dimension. That of source 003, Example 4, of whose two spaces of two dimensions the rule
-- takes the one with basis 3 8. A set in which a space that begins with the least vector ends with one dimension, since 1 goes with no other vector, and
-- the largest has two. One with two spaces of two dimensions, of which bases compared from their last vector would give 2 4. The set of 0 alone, and all vectors of four variables.
pub examples : List Example
examples =
    record { variables = 2; set = 0 ∷ 1 ∷ 2 ∷ []; expected = 1 ∷ [] }
    ∷ record { variables = 4; set = 0 ∷ 3 ∷ 8 ∷ 9 ∷ 10 ∷ 11 ∷ []; expected = 3 ∷ 8 ∷ [] }
    ∷ record { variables = 3; set = 0 ∷ 1 ∷ 2 ∷ 4 ∷ 6 ∷ []; expected = 2 ∷ 4 ∷ [] }
    ∷ record { variables = 3; set = 0 ∷ 1 ∷ 2 ∷ 4 ∷ 6 ∷ 7 ∷ []; expected = 1 ∷ 6 ∷ [] }
    ∷ record { variables = 3; set = 0 ∷ []; expected = [] }
    ∷ record {
      variables = 4;
      set = 0 ∷ 1 ∷ 2 ∷ 3 ∷ 4 ∷ 5 ∷ 6 ∷ 7 ∷ 8 ∷ 9 ∷ 10 ∷ 11 ∷ 12 ∷ 13 ∷ 14 ∷ 15 ∷ [];
      expected = 1 ∷ 2 ∷ 4 ∷ 8 ∷ [];
    }
    ∷ []

-- Each largest space is the one expected.
pub computed : map (λ e. largest e.variables e.set) examples ≡ map (λ e. e.expected) examples
unfolding examples spaces_of spaces_from largest holds keep bases flat_map every_point bit halvings lead
computed = refl
