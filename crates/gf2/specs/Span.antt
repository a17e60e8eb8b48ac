-- Spaces of vectors, the span of a list, and cosets (document 01, "Points and spaces"). Read next: Basis.
use Rattle.std.specs.Prelude.{◌≡◌, Bool, ◌⊎◌, List, [], ◌∷◌, ℕ, ◌^◌, ◌≤◌, ◌<◌}
use Rattle.gf2.specs.Bits.{◌⊕◌}
use Rattle.gf2.specs.Finite.{In}

-- A space: a set of vectors that holds 0 and the XOR of any two of its vectors.
pub record Space (P : ℕ → Type 0) : Type 0 where
  pub origin : P 0
  pub sums : (x y : ℕ) → P x → P y → P (x ⊕ y)

-- The vector a changes no value of the function: at each point w of n variables, w XOR a has the value of w.
abbrev pub Unchanged : ℕ → (ℕ → Bool) → ℕ → Type 0
Unchanged n f a = (w : ℕ) → w < 2 ^ n → f (w ⊕ a) ≡ f w

-- x is the XOR of some of the vectors of the list.
abbrev pub Span : List ℕ → ℕ → Type 0
Span [] x = x ≡ 0
Span (b ∷ bs) x = Span bs x ⊎ Span bs (x ⊕ b)

-- x is p XOR a vector of the span.
abbrev pub Coset : ℕ → List ℕ → ℕ → Type 0
Coset p bs x = Span bs (x ⊕ p)

-- p is the least point of a set.
pub record Least (P : ℕ → Type 0) (p : ℕ) : Type 0 where
  pub inside : P p
  pub least : (x : ℕ) → P x → p ≤ x

-- A pseudocube (document 01, "Primes"), which is the same as an affine space: a set of points of n variables, given by a test, that is
-- not empty and holds p XOR q XOR r whenever it holds p, q and r.
pub record Pseudocube (n : ℕ) (C : ℕ → Bool) : Type 0 where
  pub some : (p : ℕ) × In n C p
  pub triples : (p q r : ℕ) → In n C p → In n C q → In n C r → In n C (p ⊕ q ⊕ r)
