-- The primes chosen, as a value (document 01, "The written form"). That they are `chosen` of crate `cover` is what `Chose` says.
-- Read next: crate `factors`.
use Rattle.std.specs.Prelude.{◌≡◌, Bool, false, ◌||◌, List, [], ◌∷◌, ◌++◌, map, ℕ, zero, suc, ◌+◌, ◌≤◌, ◌<◌, get_or, set, take}
use Rattle.table.specs.Flags.{max_points}
use Rattle.product.specs.Product.{Factor}
use Rattle.cubes.specs.Cubes.{Candidate, points_of}
use Rattle.cover.specs.Choice.{chosen}
use Rattle.cover.specs.WrittenForm.{product_by}
use Rattle.choice.specs.declared.Choice.{Choice}
use Rattle.choice.specs.declared.Prime.{Prime}
use Rattle.choice.specs.Search.{candidate_of, PrimeAt}

-- The most primes that are chosen: as many as there are points of six variables.
abbrev pub max_chosen : ℕ
max_chosen = 64

-- The primes of the choice, in the order taken; and the one at place i, as a candidate.
abbrev pub primes_in : Choice → List Prime
primes_in r = take r.count r.primes

-- What stands at a place that the choice doesn't have.
abbrev pub no_prime : Prime
no_prime = record { degree = 0; point = 0; entry = 0 }

abbrev pub prime_in : Choice → ℕ → Prime
prime_in r i = get_or r.primes i no_prime

abbrev pub chosen_at : Choice → ℕ → Candidate
chosen_at r i = candidate_of (prime_in r i)

-- The first k primes, in the order taken.
unfoldable pub chosen_by : Choice → ℕ → List Candidate
chosen_by r zero = []
chosen_by r (suc k) = chosen_by r k ++ (chosen_at r k ∷ [])

-- The products of the first k primes, with the equations of the y's put in.
unfoldable pub products_by : List ℕ → ℕ → Choice → ℕ → List (List Factor)
products_by es m r k = map (product_by es m) (chosen_by r k)

-- The choice with one prime more, put behind the others.
abbrev pub added : Choice → Prime → Choice
added r prime = record { count = r.count + 1; primes = set r.primes r.count prime }

-- The flags of r: those of the candidate's points set, and the others as they were.
abbrev pub MarksPrime : Candidate → List Bool → List Bool → Type 0
MarksPrime c flags r = (y : ℕ) → y < max_points → get_or r y false ≡ get_or flags y false || points_of c y

-- A choice of candidates of m variables: no more than fit, each an entry of the table of bases with a least point of it.
pub record IsChoice (m : ℕ) (r : Choice) : Type 0 where
  pub few : r.count ≤ max_chosen
  pub entry : (i : ℕ) → i < r.count → PrimeAt m (prime_in r i)

-- The value holds the primes chosen for the complete function of m variables with these on points, in the same order.
pub record Chose (m : ℕ) (on : List ℕ) (r : Choice) : Type 0 where
  pub valid : IsChoice m r
  pub same : chosen_by r r.count ≡ chosen m on
