-- The linear space of a complete function and its degree (document 01, "Points and spaces").
-- A complete function of n variables is a test on points: it is on at the points below 2 ^ n that pass. Read next: Witness.
use Rattle.std.specs.Prelude.{Bool, List, ℕ, ◌^◌, length}
use Rattle.std.specs.Bool.{beq}
use Rattle.gf2.specs.Bits.{◌⊕◌}
use Rattle.gf2.specs.Finite.{all}
use Rattle.gf2.specs.Basis.{reduced_basis}

-- The function is closed under a: for each w, w XOR a is on exactly if w is on.
unfoldable pub closed : ℕ → (ℕ → Bool) → ℕ → Bool
closed n f a = all (λ w. beq (f (w ⊕ a)) (f w)) (2 ^ n)

-- The linear space of the function, the set of all vectors it is closed under, by its reduced basis.
unfoldable pub linear_space : ℕ → (ℕ → Bool) → List ℕ
linear_space n f = reduced_basis n (closed n f)

-- The degree of the function: the dimension of its linear space.
unfoldable pub degree : ℕ → (ℕ → Bool) → ℕ
degree n f = length (linear_space n f)
