-- Laws of the lead bits that are avoided: an entry is a basis of n variables with a least point exactly if it has none of them. Read next: Entry.
use mathlib.Core.Path.{◌≡◌, refl, sym, ap, ap₂, ◌∙◌}
use mathlib.Core.Bool.{Bool, true, ◌&&◌, beq}
use Prim.Native.Nat.{ℕ, zero, suc, ◌+◌, ◌*◌, ◌%◌, ◌^◌, ◌≤◌, ◌<◌}
use native.Mathlib.Nat.{mod-lt}
use native.Mathlib.Omega.{arith}
use lib.Dec.{eqb, ltb}
use lib.Bits.{bit_and, and_comm, and_zero_r, and_block}
use lib.Pow.{pow_mono, pow_pos, split}
use borrow.Author.Tests.{ltb-true, ne_eqb}
use Rattle.gf2.specs.Finite.{Mem, all, every}
use Rattle.gf2.proofs.Logic.{beq-eq}
use Rattle.gf2.proofs.Finite.{all-at, every-is}
use Rattle.bases.specs.Entries.{entries}
use Rattle.bases.specs.Bases.{entries_of, mask_of, avoided, takes_point}

-- All lead bits are below 64.
all_small : all (λ d. every (λ e. ltb (mask_of e) 64) (entries_of d)) 7 ≡ true
unfolding all entries entries_of
all_small = refl

lead-small : (d : ℕ) → d ≤ 6 → (e : ℕ) → Mem e (entries_of d) → mask_of e < 64
lead-small d h e m =
    ltb-true (mask_of e) 64 ((every-is (λ e. ltb (mask_of e) 64) (entries_of d)).0 (all-at (λ d. every (λ e. ltb (mask_of e) 64) (entries_of d)) 7 all_small d (omega arith)) e m)

pub avoided-small : (n p : ℕ) → n ≤ 6 → p < 2 ^ n → avoided n p < 64
avoided-small n p h k = omega (arith, pow_mono h)

-- Lead bits m fit n variables and are none of p's exactly if they are none of those avoided.
same_test : ℕ → ℕ → ℕ → Bool
same_test n p m = beq (ltb m (2 ^ n) && eqb (bit_and p m) 0) (eqb (bit_and (avoided n p) m) 0)

all_same : all (λ n. all (λ p. all (same_test n p) 64) (2 ^ n)) 7 ≡ true
unfolding all same_test
all_same = refl

pub takes-mask : (n d p e : ℕ) → n ≤ 6 → d ≤ 6 → p < 2 ^ n → Mem e (entries_of d) → takes_point n p e ≡ eqb (bit_and (avoided n p) (mask_of e)) 0
unfolding takes_point same_test
takes-mask n d p e h k l i =
    beq-eq (ltb (mask_of e) (2 ^ n) && eqb (bit_and p (mask_of e)) 0) (eqb (bit_and (avoided n p) (mask_of e)) 0)
    (all-at (same_test n p) 64 (all-at (λ p. all (same_test n p) 64) (2 ^ n) (all-at (λ n. all (λ p. all (same_test n p) 64) (2 ^ n)) 7 all_same n (omega arith)) p l) (mask_of e) (lead-small d k e i))

-- The same with the bits moved up to bit 48, where an entry holds its lead bits.
and_high : (e v : ℕ) → bit_and e (v * 2 ^ 48) ≡ bit_and (mask_of e) v * 2 ^ 48
and_high e v =
    let low : v * 2 ^ 48 ≡ v * 2 ^ 48 + 0 = omega arith in
    ap₂ bit_and (sym (split e 48)) low ∙ and_block 48 (mask_of e) v (e % 2 ^ 48) 0 (mod-lt e (pow_pos 48)) (pow_pos 48)
    ∙ ap (λ (z : ℕ). bit_and (mask_of e) v * 2 ^ 48 + z) (and_zero_r (e % 2 ^ 48)) ∙ omega arith

none-high : (x : ℕ) → eqb (x * 2 ^ 48) 0 ≡ eqb x 0
none-high zero = refl
none-high (suc x) = ne_eqb (suc x * 2 ^ 48) 0 (λ q. omega arith) ∙ sym (ne_eqb (suc x) 0 (λ q. omega arith))

pub takes-avoided : (n d p e : ℕ) → n ≤ 6 → d ≤ 6 → p < 2 ^ n → Mem e (entries_of d) → takes_point n p e ≡ eqb (bit_and e (avoided n p * 2 ^ 48)) 0
takes-avoided n d p e h k l i =
    takes-mask n d p e h k l i ∙ ap (λ (z : ℕ). eqb z 0) (and_comm (avoided n p) (mask_of e))
    ∙ sym (ap (λ (z : ℕ). eqb z 0) (and_high e (avoided n p)) ∙ none-high (bit_and (mask_of e) (avoided n p)))
