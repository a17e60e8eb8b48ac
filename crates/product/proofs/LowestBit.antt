-- Laws of specs.Lowest: `lowest` finds the lowest set bit, of which there is one, and a count of trailing zeros finds it too.
-- Read next: Product.
use mathlib.Core.Path.{◌≡◌, refl}
use mathlib.Core.Bool.{Bool, true, false}
use Prim.Native.Nat.{ℕ, zero, suc, ◌/◌, ◌%◌, ◌^◌, ◌≤◌, ◌<◌}
use native.Mathlib.Nat.{lt_of_not-le, mod-lt, zero-lt-suc}
use native.Mathlib.Decide.{dec_le}
use native.Mathlib.Omega.{arith}
use lib.Count.{count_trailing_zeros, under}
use lib.Pow.{pow_mono}
use borrow.Author.Tests.{eqb-false}
use Rattle.gf2.specs.Bits.{bit}
use Rattle.gf2.proofs.Logic.{clash}
use Rattle.gf2.proofs.Xor.{bit-zero, bit-big}
use Rattle.product.specs.Lowest.{Lowest, even_halvings, lowest}

-- ---- the lowest set bit of a mask

lowest-le : (j k m : ℕ) → Lowest j m → Lowest k m → j ≤ k
lowest-le j k m p q = elim (dec_le j k) [ yes h ↦ h | no h ↦ clash q.set (p.below k (lt_of_not-le h)) ]

pub lowest-unique : (j k m : ℕ) → Lowest j m → Lowest k m → j ≡ k
lowest-unique j k m p q = omega (arith, lowest-le j k m p q, lowest-le k j m q p)

-- A mask that has a lowest set bit is not 0.
pub lowest-pos : (k m : ℕ) → Lowest k m → 0 < m
lowest-pos k zero l = clash l.set (bit-zero k)
lowest-pos k (suc m) l = zero-lt-suc m

-- Of an odd mask it is place 0, of an even one a place above that of half the mask.
odd-lowest : (m : ℕ) → bit 0 m ≡ true → Lowest 0 m
odd-lowest m e = record { set = e; below = λ j h. absurd (omega arith) }

even-lowest : (k m : ℕ) → bit 0 m ≡ false → Lowest k (m / 2) → Lowest (suc k) m
unfolding bit
even-lowest k m e l = record { set = l.set; below = go }
  where
    go : (j : ℕ) → j < suc k → bit j m ≡ false
    go zero h = e
    go (suc j) h = l.below j (omega arith)

-- ---- `lowest` finds it

even-half : (m : ℕ) → 0 < m → bit 0 m ≡ false → (0 < m / 2) × (m / 2 < m)
unfolding bit
even-half m p e = let d = eqb-false (m % 2) 1 e in (omega arith, omega arith)

halvings-lowest : (k m : ℕ) → 0 < m → m ≤ k → Lowest (even_halvings k m) m
unfolding even_halvings
halvings-lowest zero m p h = absurd (omega arith)
halvings-lowest (suc k) m p h = go (bit 0 m) refl (halvings-lowest k (m / 2))
  where
    go : (t : Bool) → bit 0 m ≡ t → (0 < m / 2 → m / 2 ≤ k → Lowest (even_halvings k (m / 2)) (m / 2))
        → Lowest (elim t [ true ↦ 0 | false ↦ suc (even_halvings k (m / 2)) ]) m
    go true e f = odd-lowest m e
    go false e f = let l = even-half m p e in even-lowest (even_halvings k (m / 2)) m e (f l.0 (omega arith))

pub lowest-is : (m : ℕ) → 0 < m → Lowest (lowest m) m
unfolding lowest
lowest-is m p = halvings-lowest m m p (omega arith)

pub lowest-eq : (k m : ℕ) → Lowest k m → lowest m ≡ k
lowest-eq k m l = lowest-unique (lowest m) k m (lowest-is m (lowest-pos k m l)) l

pub lowest_set : (m : ℕ) → 0 < m → bit (lowest m) m ≡ true
lowest_set m p = (lowest-is m p).set

pub lowest-below : (m : ℕ) → 0 < m → (j : ℕ) → j < lowest m → bit j m ≡ false
lowest-below m p = (lowest-is m p).below

-- The lowest bit of a mask of n variables is one of their places.
pub lowest-fits : (n m : ℕ) → 0 < m → m < 2 ^ n → lowest m < n
lowest-fits n m p h = elim (dec_le n (lowest m)) [
  | yes l ↦ clash (lowest_set m p) (bit-big (lowest m) m (omega (arith, pow_mono l)))
  | no l ↦ lt_of_not-le l
]

-- ---- a count of trailing zeros finds it too, in any width that holds the mask

trailing-lowest : (w m : ℕ) → 0 < m → m < 2 ^ w → Lowest (count_trailing_zeros w m) m
unfolding count_trailing_zeros bit
trailing-lowest zero m p h = absurd (omega arith)
trailing-lowest (suc w) m p h = go (m % 2) refl (trailing-lowest w (m / 2))
  where
    go : (d : ℕ) → m % 2 ≡ d → (0 < m / 2 → m / 2 < 2 ^ w → Lowest (count_trailing_zeros w (m / 2)) (m / 2)) → Lowest (under d (count_trailing_zeros w (m / 2))) m
    go zero e f = even-lowest (count_trailing_zeros w (m / 2)) m (rw e) (f (omega arith) (omega arith))
    go (suc zero) e f = odd-lowest m (rw e)
    go (suc (suc d)) e f = absurd (omega (arith, mod-lt m (zero-lt-suc 1)))

pub lowest-zeros : (w m : ℕ) → 0 < m → m < 2 ^ w → count_trailing_zeros w m ≡ lowest m
lowest-zeros w m p h = lowest-unique (count_trailing_zeros w m) (lowest m) m (trailing-lowest w m p h) (lowest-is m p)
