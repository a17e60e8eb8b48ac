-- The spaces of document 01's examples P4, P5 and P7, computed: vectors of several bits count, and x1 is the highest bit.
use mathlib.Core.Path.{◌≡◌, refl}
use mathlib.Core.List.{List, [], ◌∷◌}
use Prim.Native.Nat.{ℕ}
use Rattle.gf2.specs.Bits.{bit, halvings, lead}
use Rattle.gf2.specs.Finite.{holds, all, select}
use Rattle.gf2.specs.Basis.{clear, reduce, place, join, insert, inserts, reduces, irreducible, reduced_basis, is_lead, places_at, canonical_places, noncanonical_places, variables_at}

-- A space of n variables by its vectors, its reduced basis, and its canonical and noncanonical variables.
pub record Example : Type 0 where
  pub variables : ℕ
  pub vectors : List ℕ
  pub basis : List ℕ
  pub canonical : List ℕ
  pub noncanonical : List ℕ

-- What holds of an example: the basis is found from the set and by insertion, and the variables from the basis.
pub record Holds (e : Example) : Type 0 where
  pub found : reduced_basis e.variables (holds e.vectors) ≡ e.basis
  pub inserted : inserts [] e.vectors ≡ e.basis
  pub lead : variables_at e.variables (canonical_places e.variables e.basis) ≡ e.canonical
  pub rest : variables_at e.variables (noncanonical_places e.variables e.basis) ≡ e.noncanonical

pub AllHold : List Example → Type 0
AllHold [] = Unit {0}
AllHold (e ∷ es) = Holds e × AllHold es

pub p4 : Example
p4 = record { variables = 3; vectors = 6 ∷ 0 ∷ 5 ∷ 3 ∷ []; basis = 3 ∷ 5 ∷ []; canonical = 1 ∷ 2 ∷ []; noncanonical = 3 ∷ [] }

pub p5 : Example
p5 = record { variables = 4; vectors = 0 ∷ 3 ∷ []; basis = 3 ∷ []; canonical = 3 ∷ []; noncanonical = 1 ∷ 2 ∷ 4 ∷ [] }

pub p7 : Example
p7 = record { variables = 4; vectors = 0 ∷ 2 ∷ 4 ∷ 6 ∷ 9 ∷ 11 ∷ 13 ∷ 15 ∷ []; basis = 2 ∷ 4 ∷ 9 ∷ []; canonical = 1 ∷ 2 ∷ 3 ∷ []; noncanonical = 4 ∷ [] }

pub examples : AllHold (p4 ∷ p5 ∷ p7 ∷ [])
unfolding AllHold p4 p5 p7 holds all select bit halvings lead clear reduce place join insert inserts reduces irreducible reduced_basis is_lead places_at
examples = (
  record { found = refl; inserted = refl; lead = refl; rest = refl },
  (record { found = refl; inserted = refl; lead = refl; rest = refl }, (record { found = refl; inserted = refl; lead = refl; rest = refl }, tt)),
)
