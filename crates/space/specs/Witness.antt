-- The search for a point that breaks closure (document 01, "Points and spaces": "stops at the first one found, in rising order of vector and
-- then point") and flags, one to a point, as a complete function. Read next: Completion.
use Rattle.std.specs.Prelude.{◌≡◌, Bool, false, List, Option, Some, None, ℕ, ◌^◌, ◌<◌, get_or}
use Rattle.gf2.specs.Bits.{◌⊕◌}
use Rattle.gf2.specs.Finite.{Mem, Rising}

-- The complete function that flags stand for: on at the points whose flag is set.
abbrev pub flagged : List Bool → ℕ → Bool
flagged flags w = get_or flags w false

-- The vector a and the point w don't break closure: w XOR a is on exactly if w is on.
abbrev pub Agrees : (ℕ → Bool) → ℕ → ℕ → Type 0
Agrees f a w = f (w ⊕ a) ≡ f w

-- Over the vectors vs and the points below m, the vector a and the point p are the first that break closure, in rising order of vector and then point.
pub record FirstWitness (f : ℕ → Bool) (m : ℕ) (vs : List ℕ) (a p : ℕ) : Type 0 where
  pub vector : Mem a vs
  pub point : p < m
  pub breaks : Agrees f a p → ⊥
  pub vectors : (u : ℕ) → Mem u vs → u < a → (q : ℕ) → q < m → Agrees f u q
  pub points : (q : ℕ) → q < p → Agrees f a q

-- What the search answers: the first vector and point that break closure, or that there are none.
abbrev pub Answers : (ℕ → Bool) → ℕ → List ℕ → Option (ℕ × ℕ) → Type 0
Answers f m vs (Some (a, p)) = FirstWitness f m vs a p
Answers f m vs None = (u : ℕ) → Mem u vs → (q : ℕ) → q < m → Agrees f u q

-- Vectors that can be searched: they rise and have n variables.
pub record Searchable (n : ℕ) (vs : List ℕ) : Type 0 where
  pub rises : Rising vs
  pub below : (v : ℕ) → Mem v vs → v < 2 ^ n
