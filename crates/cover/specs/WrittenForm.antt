-- The form written for a table (document 01, "The written form"): its products in their order, and its refusal 5. Read next: crate `choice`.
use Rattle.std.specs.Prelude.{Bool, List, map, ℕ, ◌-◌, ltb, length}
use Rattle.space.specs.Closure.{linear_space, degree}
use Rattle.space.specs.Completion.{completed}
use Rattle.space.specs.Restriction.{equations, restriction}
use Rattle.product.specs.Product.{Factor}
use Rattle.cubes.specs.Cubes.{Candidate}
use Rattle.cubes.specs.Records.{max_listed}
use Rattle.cover.specs.CanonicalProduct.{canonical_product}
use Rattle.cover.specs.Substitution.{substitute_product}
use Rattle.cover.specs.Choice.{chosen}

-- The number of variables y1 .. y(n-k) of the restriction by a basis of k vectors.
abbrev pub restricted_variables : ℕ → List ℕ → ℕ
restricted_variables n bs = n - length bs

-- The product of a candidate of m variables y1 .. ym: its canonical product, with the equations of y1, y2, .. put in for them.
abbrev pub product_by : List ℕ → ℕ → Candidate → List Factor
product_by es m c = substitute_product es (canonical_product m c)

-- The product that is written for a prime of the restriction: the reduction equations are put in.
unfoldable pub written_product : ℕ → List ℕ → Candidate → List Factor
written_product n bs c = product_by (equations n bs) (restricted_variables n bs) c

-- The products of the form of a complete function f of n variables whose linear space has the basis bs: those of the primes chosen for its
-- restriction, in the order taken.
unfoldable pub form_of : ℕ → List ℕ → (ℕ → Bool) → List (List Factor)
form_of n bs f = map (written_product n bs) (chosen (restricted_variables n bs) (restriction n bs f))

-- The form written for a table: that of the completed function.
unfoldable pub written_form : ℕ → List ℕ → List ℕ → List (List Factor)
written_form n on free = form_of n (linear_space n (completed n on free)) (completed n on free)

-- Refusal 5 of a form: n - k above 6, where k is the degree of the completed function.
unfoldable pub form_size_fault : ℕ → List ℕ → List ℕ → Bool
form_size_fault n on free = ltb max_listed (n - degree n (completed n on free))
