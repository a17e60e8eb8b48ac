-- Leads and parities by counts (document 02, No. 2): the lead that is found of each vector that is not 0 is its highest set bit, and the parity that is
-- found of each mask and point is that of their common bits taken one by one. A single claim about every vector, mask and point of 16 bits.
--
-- It is a claim about the running functions: it is said of the contracts themselves, that of `gf2::lead` and of each other function that is named below.
-- No other function of the library counts zeros of a vector or mask, or adds up a parity. Read next: Indexed.
use Rattle.std.specs.Prelude.{◌≡◌, Bool, true, false, not, cond, ◌&&◌, ◌↔◌, ℕ, zero, suc, ◌+◌, ◌%◌, ◌^◌, ◌≤◌, ◌<◌, eqb}
use Rattle.std.specs.Bool.{beq}
use Rattle.std.specs.Int.Bits.{bit_and}
use Rattle.std.specs.Int.Count.{count_leading_zeros, count_trailing_zeros, ones}
use Rattle.gf2.specs.Limits.{max_variables}
use Rattle.gf2.specs.Bits.{bit, index_of, Highest}
use Rattle.gf2.specs.Finite.{Mem}
use Rattle.gf2.proofs.lead.Reads as lead
use Rattle.gf2.proofs.parity.Reads as parity
use Rattle.basis.specs.declared.Basis.{Basis}
use Rattle.basis.specs.Short.{listed}
use Rattle.basis.specs.Reduced.{vectors_of, IsBasis}
use Rattle.basis.proofs.Basis.leads.Reads as leads
use Rattle.basis.proofs.Basis.canonical.Reads as canonical
use Rattle.product.specs.Lowest.{Lowest}
use Rattle.product.proofs.lowest.Reads as lowest
use Rattle.product.proofs.factor_at.Reads as factor-at

-- ---- bits taken one by one

-- The mask and the point both have their bit at place k set.
abbrev pub common : ℕ → ℕ → ℕ → Bool
common mask point k = bit k mask && bit k point

-- The parity of the common bits at the places below k, one place after the other: it is even (false) at first, and each common bit turns it over.
unfoldable pub parity_below : ℕ → ℕ → ℕ → Bool
parity_below zero mask point = false
parity_below (suc k) mask point = cond (common mask point k) (not (parity_below k mask point)) (parity_below k mask point)

-- Some vector of the basis has its highest set bit at place k.
abbrev pub LeadAt : Basis → ℕ → Type 0
LeadAt basis k = (b : ℕ) × Mem b (vectors_of basis) × Highest k b

-- i is the index of a variable of n at whose place some vector of the basis has its highest set bit.
abbrev pub LeadVariable : Basis → ℕ → ℕ → Type 0
LeadVariable basis n i = (k : ℕ) × (k < n) × (i ≡ index_of n k) × LeadAt basis k

-- ---- what is found

-- The place found of a vector: its highest set bit, which no other place is, and 15 less the count of its leading zeros.
pub record LeadFound (v place : ℕ) : Type 0 where
  pub highest : Highest place v
  pub only : (k : ℕ) → Highest k v → k ≡ place
  pub counted : place + count_leading_zeros 16 v ≡ 15

-- The place found of a mask from the other side: its lowest set bit, which no other place is, and the count of its trailing zeros.
pub record LowestFound (mask place : ℕ) : Type 0 where
  pub lowest : Lowest place mask
  pub only : (k : ℕ) → Lowest k mask → k ≡ place
  pub counted : place ≡ count_trailing_zeros 16 mask

-- The parity found of a mask and a point: that of their common bits one by one, and that of the count of ones.
pub record ParityFound (mask point : ℕ) (parity : Bool) : Type 0 where
  pub singly : parity ≡ parity_below 16 mask point
  pub counted : parity ≡ eqb (ones (bit_and mask point) % 2) 1

-- ---- the claim

-- Said of a contract: the function may be called (`Asked` is what a caller has to show), and whatever it returns is right (`Learnt` is what the contract
-- then says of the result, and of the parameters as the function leaves them). Before the arguments, which end in `tt`, both are given the lifetimes, of
-- which there are none: `tt`.
abbrev pub Returns : {R E : Type 0} → Type 0 → (R → E → Type 0) → (R → Type 0) → Type 0
Returns {R} {E} asked learnt right = asked × ((r : R) (e : E) → learnt r e → right r)

pub record BitsCounted : Type 0 where
  -- `gf2::lead` and `product::lowest`, of every number but 0, which has no bit set.
  pub lead : (v : ℕ) → 0 < v → v < 2 ^ 16 → Returns (lead.Asked tt (v, tt)) (lead.Learnt tt (v, tt)) (LeadFound v)
  pub lowest : (mask : ℕ) → 0 < mask → mask < 2 ^ 16 → Returns (lowest.Asked tt (mask, tt)) (lowest.Learnt tt (mask, tt)) (LowestFound mask)
  -- `gf2::parity`, and `product::factor_at`: a factor is true where that parity is odd for constant 1, even for any other.
  pub parity : (mask point : ℕ) → mask < 2 ^ 16 → Returns (parity.Asked tt (mask, (point, tt))) (parity.Learnt tt (mask, (point, tt))) (ParityFound mask point)
  pub factor-at : (constant mask point : ℕ) → mask < 2 ^ 16
      → Returns (factor-at.Asked tt (constant, (mask, (point, tt)))) (factor-at.Learnt tt (constant, (mask, (point, tt))))
      (λ r. r ≡ beq (parity_below 16 mask point) (eqb constant 1))
  -- `Basis::leads` and `Basis::canonical`: the places of the highest set bits of the vectors and no others, as a mask, and as variables by their index.
  pub leads : (basis : Basis) → IsBasis basis
      → Returns (leads.Asked tt (basis, tt)) (leads.Learnt tt (basis, tt)) (λ mask. (k : ℕ) → (bit k mask ≡ true) ↔ LeadAt basis k)
  pub canonical : (basis : Basis) → IsBasis basis → (n : ℕ) → n ≤ max_variables
      → Returns (canonical.Asked tt (basis, (n, tt))) (canonical.Learnt tt (basis, (n, tt))) (λ variables. (i : ℕ) → Mem i (listed variables) ↔ LeadVariable basis n i)
