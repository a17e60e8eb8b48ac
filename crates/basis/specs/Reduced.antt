-- Reduced bases by value (document 01, "Points and spaces"). Read next: crate `table`.
use Rattle.std.specs.Prelude.{◌≡◌, false, ◌↔◌, List, ℕ, ◌^◌, ◌≤◌, ◌<◌, length, take}
use Rattle.gf2.specs.Limits.{max_variables}
use Rattle.gf2.specs.Finite.{Mem}
use Rattle.gf2.specs.Bits.{has_lead}
use Rattle.gf2.specs.Span.{Span}
use Rattle.gf2.specs.Basis.{Reduced}
use Rattle.basis.specs.declared.Basis.{Basis}
use Rattle.basis.specs.Short.{padded}

-- The vectors in use.
abbrev pub vectors_of : Basis → List ℕ
vectors_of b = take b.len b.vectors

-- The value that stands for a list of vectors: unused entries are 0.
abbrev pub basis_of : List ℕ → Basis
basis_of bs = record { vectors = padded bs; len = length bs }

-- A value that is a basis: its vectors are reduced, of at most `max_variables` variables, and nothing else is in it.
pub record IsBasis (b : Basis) : Type 0 where
  pub reduced : Reduced (vectors_of b)
  pub below : (c : ℕ) → Mem c (vectors_of b) → c < 2 ^ max_variables
  pub packed : b ≡ basis_of (vectors_of b)

-- A basis of vectors of n variables.
pub record BasisWithin (n : ℕ) (b : Basis) : Type 0 where
  pub few : n ≤ max_variables
  pub basis : IsBasis b
  pub below : (c : ℕ) → Mem c (vectors_of b) → c < 2 ^ n

-- A basis that was built: it is the value of the list bs, and its span is exactly the set P.
pub record Built (b : Basis) (bs : List ℕ) (P : ℕ → Type 0) : Type 0 where
  pub value : b ≡ basis_of bs
  pub basis : IsBasis b
  pub spans : (x : ℕ) → Span bs x ↔ P x

-- r may be joined to the basis: it is not 0, it is reduced, and it has no more variables than a basis may have.
pub record Joins (b : Basis) (r : ℕ) : Type 0 where
  pub basis : IsBasis b
  pub some : 0 < r
  pub few : r < 2 ^ max_variables
  pub reduced : (c : ℕ) → Mem c (vectors_of b) → has_lead c r ≡ false
