-- The bits of a number: XOR, the bit at a place, and the lead. Place 0 is the lowest bit.
-- Of n variables x1 .. xn, x1 is the highest bit of a point and xn the lowest, so the variable at place k is x(n - k). Read next: Parity.
use Rattle.std.specs.Prelude.{◌≡◌, Bool, true, false, not, ℕ, zero, suc, ◌-◌, ◌/◌, ◌%◌, ◌<◌, eqb}
use Rattle.std.specs.Int.Bits.{bit_xor}

infixl 65 ◌⊕◌
infixl 30 ◌⊻◌
-- XOR of two numbers. That it is the XOR of their bits, place by place, is `bit-xor`.
abbrev pub ◌⊕◌ : ℕ → ℕ → ℕ
◌⊕◌ = bit_xor

-- XOR of two truth values.
abbrev pub ◌⊻◌ : Bool → Bool → Bool
true ⊻ b = not b
false ⊻ b = b

-- The bit of x at place k.
unfoldable pub bit : ℕ → ℕ → Bool
bit zero x = eqb (x % 2) 1
bit (suc k) x = bit k (x / 2)

-- The index of the variable at place k of a point of n variables: x1 is the highest bit (document 01, "Points and spaces").
abbrev pub index_of : ℕ → ℕ → ℕ
index_of n k = n - k

-- k is the place of the highest set bit of v.
pub record Highest (k v : ℕ) : Type 0 where
  pub set : bit k v ≡ true
  pub above : (j : ℕ) → k < j → bit j v ≡ false

-- How often v can be halved before it is below 2, at most k times.
unfoldable pub halvings : ℕ → ℕ → ℕ
halvings zero v = 0
halvings (suc k) zero = 0
halvings (suc k) (suc zero) = 0
halvings (suc k) (suc (suc v)) = suc (halvings k (suc (suc v) / 2))

-- The lead of a vector that is not 0: the place of its highest set bit. That it is so is `lead-highest`.
unfoldable pub lead : ℕ → ℕ
lead v = halvings v v

-- The lead bit of b is set in x.
abbrev pub has_lead : ℕ → ℕ → Bool
has_lead b x = bit (lead b) x
