-- The closure set of a table, the largest space inside it, and the on points spread over a space (document 02, No. 4; source 003, "closure set").
-- Read next: crate `space`, specs/Completion.
use Rattle.std.specs.Prelude.{Bool, List, ℕ, ◌^◌}
use Rattle.gf2.specs.Bits.{◌⊕◌}
use Rattle.gf2.specs.Finite.{holds, every, select}
use Rattle.cubes.specs.Primes.{some_point, allowed}
use Rattle.subspaces.specs.Spaces.{largest}

-- A vector a is in the closure set: w XOR a is on or free for each on point w.
unfoldable pub closes : List ℕ → List ℕ → ℕ → Bool
closes on free a = every (λ w. allowed (holds on) (holds free) (w ⊕ a)) on

-- The closure set of a table of n variables: its vectors, rising.
unfoldable pub closure_set : ℕ → List ℕ → List ℕ → List ℕ
closure_set n on free = select (closes on free) (2 ^ n)

-- The largest space inside the closure set, by its reduced basis; of several, the one whose basis comes first.
unfoldable pub largest_space : ℕ → List ℕ → List ℕ → List ℕ
largest_space n on free = largest n (closure_set n on free)

-- The function that is on at every on point XOR every vector of the space: it is on at w if some point of w XOR the space is an on point.
unfoldable pub spread : List ℕ → List ℕ → ℕ → Bool
spread on bs w = some_point (holds on) bs w
