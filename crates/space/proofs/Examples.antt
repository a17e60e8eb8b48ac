-- Worked examples of documents 01 and 02 and of source 003, as far as they concern the spaces of a table, computed from the definitions.
use mathlib.Core.Path.{◌≡◌, refl}
use mathlib.Core.List.{List, [], ◌∷◌, map, flat_map}
use Prim.Native.Nat.{ℕ}
use Rattle.gf2.specs.Finite.{holds, all, select}
use Rattle.gf2.specs.Bits.{bit, halvings, lead}
use Rattle.gf2.specs.Basis.{clear, reduce, place, join, insert, inserts, reduces, irreducible, reduced_basis, is_lead, places_at, canonical_places, variables_at}
use Rattle.cubes.specs.Lists.{keep}
use Rattle.cubes.specs.Candidates.{bases}
use Rattle.cubes.specs.Primes.{every_point, some_point}
use Rattle.subspaces.specs.Spaces.{spaces_of, spaces_from, largest}
use Rattle.closure_set.specs.ClosureSet.{closes, closure_set, largest_space, spread}
use Rattle.space.specs.Closure.{closed, linear_space, degree}
use Rattle.space.specs.Completion.{all_on, k0, k1, simply_completed, completed, completed_points}
use Rattle.space.specs.Restriction.{equation, equations, number, project, clean, restriction}
use Rattle.space.specs.Affine.{directions, least_point, projection}

-- What is asked of a table of n variables with these on points, and these free points.
pub data Question : Type 0 where
  analysis : (n : ℕ) (on free : List ℕ) → Question
  affine : (n : ℕ) (on : List ℕ) → Question

-- Of the analysis: k0, k1, and of the completed function its points, basis, canonical variables, equations as masks and restriction.
-- Of the smallest affine space: least point, basis and projection.
pub data Answer : Type 0 where
  analysed : (k0 k1 : ℕ) (points basis canonical masks restriction : List ℕ) → Answer
  space : (least : ℕ) (basis projection : List ℕ) → Answer

pub answer : Question → Answer
answer (analysis n on free) =
    let f = completed n on free in
    let bs = linear_space n f in
    analysed (k0 n on) (k1 n on free) (completed_points n on free) bs (variables_at n (canonical_places n bs)) (equations n bs) (restriction n bs f)
answer (affine n on) = space (least_point on) (directions on) (projection n (directions on) on)

pub record Example : Type 0 where
  pub asked : Question
  pub expected : Answer

-- P1 to P5, P7 and P8; the table of source 003, Examples 3 and 4; one whose closure set is 0 1 2 4 6, in which a space that grows by its least vector
-- ends with one dimension.
pub examples : List Example
examples =
    record { asked = analysis 1 [] []; expected = analysed 1 1 [] (1 ∷ []) (1 ∷ []) [] [] }
    ∷ record { asked = analysis 1 (0 ∷ []) []; expected = analysed 0 0 (0 ∷ []) [] [] (1 ∷ []) (0 ∷ []) }
    ∷ record { asked = analysis 1 (0 ∷ 1 ∷ []) []; expected = analysed 1 1 (0 ∷ 1 ∷ []) (1 ∷ []) (1 ∷ []) [] (0 ∷ []) }
    ∷ record { asked = analysis 3 (1 ∷ 2 ∷ 4 ∷ 7 ∷ []) []; expected = analysed 2 2 (1 ∷ 2 ∷ 4 ∷ 7 ∷ []) (3 ∷ 5 ∷ []) (1 ∷ 2 ∷ []) (7 ∷ []) (1 ∷ []) }
    ∷ record {
      asked = analysis 4 (4 ∷ 5 ∷ 6 ∷ 7 ∷ 9 ∷ 10 ∷ 12 ∷ 13 ∷ 14 ∷ 15 ∷ []) [];
      expected = analysed 1 1 (4 ∷ 5 ∷ 6 ∷ 7 ∷ 9 ∷ 10 ∷ 12 ∷ 13 ∷ 14 ∷ 15 ∷ []) (3 ∷ []) (3 ∷ []) (8 ∷ 4 ∷ 3 ∷ []) (2 ∷ 3 ∷ 5 ∷ 6 ∷ 7 ∷ []);
    }
    ∷ record { asked = affine 4 (2 ∷ 4 ∷ 6 ∷ 11 ∷ 13 ∷ []); expected = space 0 (2 ∷ 4 ∷ 9 ∷ []) (1 ∷ 2 ∷ 3 ∷ 5 ∷ 6 ∷ []) }
    ∷ record { asked = analysis 2 (0 ∷ []) (1 ∷ 2 ∷ []); expected = analysed 0 0 (0 ∷ 1 ∷ []) (1 ∷ []) (2 ∷ []) (2 ∷ []) (0 ∷ []) }
    ∷ record {
      asked = analysis 4 (4 ∷ 5 ∷ 6 ∷ 7 ∷ 9 ∷ 10 ∷ 12 ∷ 13 ∷ 14 ∷ 15 ∷ []) (0 ∷ 1 ∷ 2 ∷ 3 ∷ 11 ∷ []);
      expected =
          analysed 1 0 (1 ∷ 2 ∷ 4 ∷ 5 ∷ 6 ∷ 7 ∷ 9 ∷ 10 ∷ 12 ∷ 13 ∷ 14 ∷ 15 ∷ []) (3 ∷ 8 ∷ []) (1 ∷ 3 ∷ []) (4 ∷ 3 ∷ []) (1 ∷ 2 ∷ 3 ∷ []);
    }
    ∷ record {
      asked = analysis 3 (0 ∷ []) (1 ∷ 2 ∷ 4 ∷ 6 ∷ []);
      expected = analysed 0 0 (0 ∷ 2 ∷ 4 ∷ 6 ∷ []) (2 ∷ 4 ∷ []) (1 ∷ 2 ∷ []) (1 ∷ []) (0 ∷ []);
    }
    ∷ []

-- Each answer is the one expected.
pub computed : map (λ e. answer e.asked) examples ≡ map (λ e. e.expected) examples
unfolding examples answer holds all select bit halvings lead clear reduce place join insert inserts reduces irreducible reduced_basis is_lead places_at spaces_of spaces_from largest keep bases flat_map every_point some_point closes closure_set largest_space spread closed linear_space degree all_on simply_completed completed completed_points equation equations number project clean restriction directions least_point projection
computed = refl
