-- Laws of sums: term by term, of two sums, and over the points of one variable more by halves. Read next: Walsh.
use mathlib.Core.Path.{◌≡◌, refl, sym, ap, ap₂, ◌∙◌}
use Prim.Native.Nat.{ℕ, zero, suc, ◌+◌, ◌^◌, ◌<◌}
use native.Mathlib.Nat.{add-suc, add-zero, lt-suc_self, one-mul, zero-add, zero-mul}
use native.Mathlib.Omega.{arith}
use lib.Bits.{xor_block}
use lib.IntN.{ℤ, neg_ℤ, ◌+ℤ◌, ◌-ℤ◌, +ℤ_assoc, +ℤ_idr, neg_ℤ-+ℤ}
use Rattle.gf2.specs.Bits.{◌⊕◌}
use Rattle.walsh.specs.Sums.{total}
use Rattle.walsh.proofs.Whole.{+ℤ-exchange}

pub total_ext : (g h : ℕ → ℤ) (k : ℕ) → ((w : ℕ) → w < k → g w ≡ h w) → total g k ≡ total h k
unfolding total
total_ext g h zero e = refl
total_ext g h (suc k) e = ap₂ ◌+ℤ◌ (total_ext g h k (λ w l. e w (omega arith))) (e k (lt-suc_self k))

pub total-sum : (g h : ℕ → ℤ) (k : ℕ) → total (λ w. g w +ℤ h w) k ≡ total g k +ℤ total h k
unfolding total
total-sum g h zero = refl
total-sum g h (suc k) = ap (λ (x : ℤ). x +ℤ (g k +ℤ h k)) (total-sum g h k) ∙ +ℤ-exchange (total g k) (total h k) (g k) (h k)

pub total-neg : (g : ℕ → ℤ) (k : ℕ) → total (λ w. neg_ℤ (g w)) k ≡ neg_ℤ (total g k)
unfolding total
total-neg g zero = refl
total-neg g (suc k) = ap (λ (x : ℤ). x -ℤ g k) (total-neg g k) ∙ sym (neg_ℤ-+ℤ (total g k) (g k))

pub total-difference : (g h : ℕ → ℤ) (k : ℕ) → total (λ w. g w -ℤ h w) k ≡ total g k -ℤ total h k
total-difference g h k = total-sum g (λ w. neg_ℤ (h w)) k ∙ ap (λ (x : ℤ). total g k +ℤ x) (total-neg h k)

pub total-split : (g : ℕ → ℤ) (j k : ℕ) → total g (j + k) ≡ total g j +ℤ total (λ w. g (j + w)) k
unfolding total
total-split g j zero = ap (total g) (add-zero j) ∙ sym (+ℤ_idr (total g j))
total-split g j (suc k) =
    ap (total g) (add-suc j k) ∙ ap (λ (x : ℤ). x +ℤ g (j + k)) (total-split g j k) ∙ +ℤ_assoc (total g j) (total (λ w. g (j + w)) k) (g (j + k))

-- ---- the points of one variable more: those below 2 ^ n, and the same with that bit set

pub total-halves : (g : ℕ → ℤ) (n : ℕ) → total g (2 ^ suc n) ≡ total g (2 ^ n) +ℤ total (λ w. g (2 ^ n + w)) (2 ^ n)
total-halves g n = let e : 2 ^ suc n ≡ 2 ^ n + 2 ^ n = omega arith in ap (total g) e ∙ total-split g (2 ^ n) (2 ^ n)

-- XOR of such points.
module _ (n w a : ℕ) (low : w < 2 ^ n) (small : a < 2 ^ n) where
  pub upper-lower : (2 ^ n + w) ⊕ a ≡ 2 ^ n + (w ⊕ a)
  upper-lower = rw (one-mul (2 ^ n), zero-mul (2 ^ n), zero-add a) at (xor_block n 1 0 w a low small)

  pub lower-upper : w ⊕ (2 ^ n + a) ≡ 2 ^ n + (w ⊕ a)
  lower-upper = rw (one-mul (2 ^ n), zero-mul (2 ^ n), zero-add w) at (xor_block n 0 1 w a low small)

  pub upper-upper : (2 ^ n + w) ⊕ (2 ^ n + a) ≡ w ⊕ a
  upper-upper = rw (one-mul (2 ^ n), zero-mul (2 ^ n), zero-add (w ⊕ a)) at (xor_block n 1 1 w a low small)
