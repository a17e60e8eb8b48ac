-- Document 01's examples P1, P3, P4 and P5 as products of forms, and the example of a canonical variable that cancels when the equations are
-- put in (paper 000, Example 5), computed.
use mathlib.Core.Path.{◌≡◌, refl}
use mathlib.Core.List.{List, [], ◌∷◌, map, flat_map}
use Prim.Native.Nat.{ℕ}
use Rattle.gf2.specs.Bits.{bit, halvings, lead}
use Rattle.gf2.specs.Finite.{holds, all, select}
use Rattle.gf2.specs.Parity.{odd_in, odd}
use Rattle.gf2.specs.Basis.{clear, reduce, reduces, irreducible, reduced_basis, is_lead, places_at}
use Rattle.subspaces.specs.Spaces.{spaces_of, spaces_from, largest}
use Rattle.closure_set.specs.ClosureSet.{closes, closure_set, largest_space, spread}
use Rattle.space.specs.Closure.{closed, linear_space, degree}
use Rattle.space.specs.Completion.{all_on, simply_completed, completed}
use Rattle.space.specs.Restriction.{equation, equations, number, project, clean, restriction}
use Rattle.product.specs.Product.{Factor, factor}
use Rattle.cubes.specs.Lists.{keep}
use Rattle.cubes.specs.Cubes.{spans, points_of}
use Rattle.cubes.specs.Candidates.{bases, candidates_of, candidates_from, candidates}
use Rattle.cubes.specs.Primes.{every_point, some_point, cannot_grow, is_prime}
use Rattle.cover.specs.CanonicalProduct.{place_factor, canonical_product}
use Rattle.cover.specs.Substitution.{substitute_mask, substitute_factor, substitute_product}
use Rattle.cover.specs.Choice.{primes_of, covered, first_holding, taken_for, taken_through, chosen}
use Rattle.cover.specs.WrittenForm.{written_product, form_of, written_form}

-- A table, and the products of the form written for it.
pub record Example : Type 0 where
  pub variables : ℕ
  pub on : List ℕ
  pub free : List ℕ
  pub products : List (List Factor)

-- P1: no product. P3: one product without factors. P4: x1 + x2 + x3 = 1.
pub p1 : Example
p1 = record { variables = 1; on = []; free = []; products = [] }

pub p3 : Example
p3 = record { variables = 1; on = 0 ∷ 1 ∷ []; free = []; products = [] ∷ [] }

pub p4 : Example
p4 = record { variables = 3; on = 1 ∷ 2 ∷ 4 ∷ 7 ∷ []; free = []; products = (factor 1 7 ∷ []) ∷ [] }

-- P5: x2 = 1; x1 + x2 = 1 and x1 + x3 + x4 = 0.
pub p5 : Example
p5 = record {
  variables = 4;
  on = 4 ∷ 5 ∷ 6 ∷ 7 ∷ 9 ∷ 10 ∷ 12 ∷ 13 ∷ 14 ∷ 15 ∷ [];
  free = [];
  products = (factor 1 4 ∷ []) ∷ (factor 1 12 ∷ factor 0 11 ∷ []) ∷ [];
}

-- y1 = x1 + x2 + x3, y2 = x4, y3 = x1 + x5, and the products y2 = 0, y1 + y3 = 1 and y1 + y2 = 0, y1 + y3 = 1: x1 cancels in y1 + y3.
pub cancels : Example
cancels = record {
  variables = 5;
  on = 1 ∷ 4 ∷ 6 ∷ 8 ∷ 10 ∷ 13 ∷ 17 ∷ 19 ∷ 20 ∷ 24 ∷ 29 ∷ 31 ∷ [];
  free = [];
  products = (factor 0 2 ∷ factor 1 13 ∷ []) ∷ (factor 0 30 ∷ factor 1 13 ∷ []) ∷ [];
}

pub examples : List Example
examples = p1 ∷ p3 ∷ p4 ∷ p5 ∷ cancels ∷ []

-- Each form is the one expected.
pub computed : map (λ e. written_form e.variables e.on e.free) examples ≡ map (λ e. e.products) examples
unfolding examples p1 p3 p4 p5 cancels bit halvings lead holds all select odd_in odd clear reduce reduces irreducible reduced_basis is_lead places_at closed linear_space degree all_on spaces_of spaces_from largest closes closure_set largest_space spread simply_completed completed equation equations number project clean restriction flat_map keep spans points_of bases candidates_of candidates_from candidates every_point some_point cannot_grow is_prime place_factor canonical_product substitute_mask substitute_factor substitute_product primes_of covered first_holding taken_for taken_through chosen written_product form_of written_form
computed = refl
