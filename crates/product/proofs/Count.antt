-- How many numbers below a bound pass a test: the length of `select`. XOR with a vector of n variables carries the points of n variables onto
-- themselves, so it does not change a count. Read next: Points.
use mathlib.Core.Path.{◌≡◌, refl, sym, ap, ap₂, ◌∙◌}
use mathlib.Core.Bool.{Bool, true, false, not, cond, ◌&&◌}
use mathlib.Core.List.{[], ◌∷◌, ◌++◌}
use Prim.Native.Nat.{ℕ, zero, suc, ◌+◌, ◌*◌, ◌/◌, ◌%◌, ◌^◌, ◌<◌}
use native.Mathlib.Nat.{add_comm, div-add-mod', lt-suc_self, mod-lt, pow-suc, zero-lt-suc}
use native.Mathlib.Omega.{arith}
use lib.ListN.{length, length-append}
use lib.Bits.{xor_block, xor_zero_r}
use Rattle.gf2.specs.Bits.{◌⊕◌}
use Rattle.gf2.specs.Finite.{select}
use Rattle.gf2.proofs.Finite.{select-ext}

-- How many numbers below k pass the test.
abbrev pub count : (ℕ → Bool) → ℕ → ℕ
count f k = length (select f k)

-- 1 where the test is passed, 0 where it is not.
abbrev pub one : Bool → ℕ
one t = cond t 1 0

pub count-suc : (f : ℕ → Bool) (k : ℕ) → count f (suc k) ≡ count f k + one (f k)
unfolding select
count-suc f k = go (f k)
  where
    go : (t : Bool) → length (cond t (select f k ++ (k ∷ [])) (select f k)) ≡ length (select f k) + one t
    go true = length-append (select f k) (k ∷ [])
    go false = omega arith

pub count-ext : (f g : ℕ → Bool) (k : ℕ) → ((x : ℕ) → x < k → f x ≡ g x) → count f k ≡ count g k
count-ext f g k h = ap length (select-ext f g k h)

pub count-all : (f : ℕ → Bool) (k : ℕ) → ((x : ℕ) → x < k → f x ≡ true) → count f k ≡ k
unfolding select
count-all f zero h = refl
count-all f (suc k) h = count-suc f k ∙ rw (h k (lt-suc_self k)) (omega (arith, count-all f k (λ x l. h x (omega arith))))

-- The numbers that pass g, by whether they pass f.
pub count-split : (f g : ℕ → Bool) (k : ℕ) → count (λ x. f x && g x) k + count (λ x. not (f x) && g x) k ≡ count g k
unfolding select
count-split f g zero = refl
count-split f g (suc k) = omega (
  arith,
  count-suc (λ x. f x && g x) k,
  count-suc (λ x. not (f x) && g x) k,
  count-suc g k,
  count-split f g k,
  go (f k) (g k),
)
  where
    go : (s t : Bool) → one (s && t) + one (not s && t) ≡ one t
    go true true = refl
    go true false = refl
    go false true = refl
    go false false = refl

-- The even and the odd numbers.
count-halves : (f : ℕ → Bool) (k : ℕ) → count f (k * 2) ≡ count (λ x. f (x * 2 + 0)) k + count (λ x. f (x * 2 + 1)) k
unfolding select
count-halves f zero = refl
count-halves f (suc k) =
    let d : suc k * 2 ≡ suc (suc (k * 2)) = omega arith in
    let e : k * 2 ≡ k * 2 + 0 = omega arith in
    let o : suc (k * 2) ≡ k * 2 + 1 = omega arith in
    rw d (omega (
      arith,
      count-suc f (suc (k * 2)),
      count-suc f (k * 2),
      ap (λ (z : ℕ). one (f z)) e,
      ap (λ (z : ℕ). one (f z)) o,
      count-suc (λ x. f (x * 2 + 0)) k,
      count-suc (λ x. f (x * 2 + 1)) k,
      count-halves f k,
    ))

-- XOR by halves and lowest digits.
xor-digit : (x r v : ℕ) → r < 2 → (x * 2 + r) ⊕ v ≡ (x ⊕ (v / 2)) * 2 + (r ⊕ (v % 2))
xor-digit x r v h = ap (λ (z : ℕ). (x * 2 + r) ⊕ z) (sym (div-add-mod' v 2)) ∙ xor_block 1 x (v / 2) r (v % 2) h (mod-lt v (zero-lt-suc 1))

pub count-xor : (n v : ℕ) → v < 2 ^ n → (f : ℕ → Bool) → count (λ x. f (x ⊕ v)) (2 ^ n) ≡ count f (2 ^ n)
count-xor zero v h f = let e : v ≡ 0 = omega arith in count-ext (λ x. f (x ⊕ v)) f 1 (λ x l. rw e (ap f (xor_zero_r x)))
count-xor (suc n) v h f =
    let ih = count-xor n (v / 2) (omega arith) in
    rw (pow-suc 2 n) (count-halves (λ x. f (x ⊕ v)) (2 ^ n) ∙ ap₂ ◌+◌ (half ih 0 (omega arith)) (half ih 1 (omega arith))
    ∙ sums (v % 2) (mod-lt v (zero-lt-suc 1)) ∙ sym (count-halves f (2 ^ n)))
  where
    half : ((g : ℕ → Bool) → count (λ x. g (x ⊕ (v / 2))) (2 ^ n) ≡ count g (2 ^ n))
        → (r : ℕ) → r < 2 → count (λ x. f ((x * 2 + r) ⊕ v)) (2 ^ n) ≡ count (λ x. f (x * 2 + (r ⊕ (v % 2)))) (2 ^ n)
    half ih r l =
        count-ext (λ x. f ((x * 2 + r) ⊕ v)) (λ x. f ((x ⊕ (v / 2)) * 2 + (r ⊕ (v % 2)))) (2 ^ n) (λ x k. ap f (xor-digit x r v l))
        ∙ ih (λ y. f (y * 2 + (r ⊕ (v % 2))))

    sums : (d : ℕ) → d < 2 → count (λ x. f (x * 2 + (0 ⊕ d))) (2 ^ n) + count (λ x. f (x * 2 + (1 ⊕ d))) (2 ^ n)
        ≡ count (λ x. f (x * 2 + 0)) (2 ^ n) + count (λ x. f (x * 2 + 1)) (2 ^ n)
    sums zero l = refl
    sums (suc zero) l = add_comm (count (λ x. f (x * 2 + 1)) (2 ^ n)) (count (λ x. f (x * 2 + 0)) (2 ^ n))
    sums (suc (suc d)) l = absurd (omega arith)
