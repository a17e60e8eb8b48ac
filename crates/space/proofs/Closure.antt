-- Laws of specs.Closure: the vectors a function is closed under are a space, and what its linear space spans; functions that agree below
-- 2 ^ n; the linear space by insertion. Read next: Completion.
use mathlib.Core.Path.{◌≡◌, refl, sym, ap, ap₂, ◌∙◌}
use mathlib.Core.Bool.{Bool, true, false, beq}
use mathlib.Core.Logic.{◌↔◌}
use mathlib.Core.List.{List, []}
use Prim.Native.Nat.{ℕ, ◌^◌, ◌<◌}
use lib.Pow.{pow_pos}
use lib.Bits.{xor_zero_r, xor_lt}
use Rattle.gf2.specs.Bits.{◌⊕◌}
use Rattle.gf2.specs.Finite.{Mem, select, In}
use Rattle.gf2.specs.Span.{Span, Space}
use Rattle.gf2.specs.Basis.{Reduced, inserts, units}
use Rattle.gf2.proofs.Logic.{beq-eq, eq-beq}
use Rattle.gf2.proofs.Finite.{all-at, all_of, all-ext}
use Rattle.gf2.proofs.Xor.{xor_assoc}
use Rattle.gf2.proofs.Span.{span-least}
use Rattle.gf2.proofs.ReducedBasis.{units-span, basis-reduced, basis-below, basis-span, basis-unique, basis-select, basis-ext}
use Rattle.space.specs.Closure.{closed, linear_space}

-- ---- closed under a: for every w below 2 ^ n, f (w ⊕ a) is f w

pub closed_at : (n : ℕ) (f : ℕ → Bool) (a : ℕ) → closed n f a ≡ true → (w : ℕ) → w < 2 ^ n → f (w ⊕ a) ≡ f w
unfolding closed
closed_at n f a e w h = beq-eq (f (w ⊕ a)) (f w) (all-at (λ w. beq (f (w ⊕ a)) (f w)) (2 ^ n) e w h)

pub closed_of : (n : ℕ) (f : ℕ → Bool) (a : ℕ) → ((w : ℕ) → w < 2 ^ n → f (w ⊕ a) ≡ f w) → closed n f a ≡ true
unfolding closed
closed_of n f a g = all_of (λ w. beq (f (w ⊕ a)) (f w)) (2 ^ n) (λ w h. eq-beq (f (w ⊕ a)) (f w) (g w h))

-- With a point that breaks closure the function is not closed.
pub closed-broken : (n : ℕ) (f : ℕ → Bool) (a w : ℕ) → w < 2 ^ n → (f (w ⊕ a) ≡ f w → ⊥) → closed n f a ≡ false
closed-broken n f a w h g = go (closed n f a) refl
  where
    go : (t : Bool) → closed n f a ≡ t → t ≡ false
    go false e = refl
    go true e = absurd (g (closed_at n f a e w h))

-- ---- these vectors are a space

pub closed-space : (n : ℕ) (f : ℕ → Bool) → Space (In n (closed n f))
closed-space n f = record {
  origin = (pow_pos n, closed_of n f 0 (λ w h. ap f (xor_zero_r w)));
  sums = λ a b p q. (
    xor_lt n a b p.0 q.0,
    closed_of n f (a ⊕ b) (λ w h.
        ap f (sym (xor_assoc w a b)) ∙ closed_at n f b q.1 (w ⊕ a) (xor_lt n w a h p.0) ∙ closed_at n f a p.1 w h),
  );
}

-- So a function that is closed under the vectors of one bit below 2 ^ k is closed under all vectors below it.
pub closed-units : (n : ℕ) (f : ℕ → Bool) (k : ℕ) → ((u : ℕ) → Mem u (units k) → In n (closed n f) u) → (x : ℕ) → x < 2 ^ k → closed n f x ≡ true
closed-units n f k h x l = (span-least (In n (closed n f)) (closed-space n f) (units k) h x ((units-span k x).1 l)).1

-- ---- and the linear space is its reduced basis

pub linear-reduced : (n : ℕ) (f : ℕ → Bool) → Reduced (linear_space n f)
unfolding linear_space
linear-reduced n f = basis-reduced n (closed n f)

pub linear-span : (n : ℕ) (f : ℕ → Bool) (x : ℕ) → Span (linear_space n f) x ↔ In n (closed n f) x
unfolding linear_space
linear-span n f = basis-span n (closed n f) (closed-space n f)

pub linear-below : (n : ℕ) (f : ℕ → Bool) (b : ℕ) → Mem b (linear_space n f) → b < 2 ^ n
unfolding linear_space
linear-below n f = basis-below n (closed n f)

-- It is the only reduced basis that spans these vectors.
pub linear-unique : (n : ℕ) (f : ℕ → Bool) (bs : List ℕ) → Reduced bs → ((x : ℕ) → Span bs x ↔ In n (closed n f) x) → bs ≡ linear_space n f
unfolding linear_space
linear-unique n f = basis-unique n (closed n f) (closed-space n f)

-- ---- two functions that agree below 2 ^ n have the same linear space

pub closed-ext : (n : ℕ) (f g : ℕ → Bool) → ((w : ℕ) → w < 2 ^ n → f w ≡ g w) → (a : ℕ) → a < 2 ^ n → closed n f a ≡ closed n g a
unfolding closed
closed-ext n f g h a l = all-ext (λ w. beq (f (w ⊕ a)) (f w)) (λ w. beq (g (w ⊕ a)) (g w)) (2 ^ n)
    (λ w m. ap₂ beq (h (w ⊕ a) (xor_lt n w a m l)) (h w m))

pub linear-ext : (n : ℕ) (f g : ℕ → Bool) → ((w : ℕ) → w < 2 ^ n → f w ≡ g w) → linear_space n f ≡ linear_space n g
unfolding linear_space
linear-ext n f g h = basis-ext n (closed n f) (closed n g) (closed-ext n f g h)

-- ---- the linear space by putting in, one at a time, the vectors under which the function is closed

pub linear-inserts : (n : ℕ) (f : ℕ → Bool) → inserts [] (select (closed n f) (2 ^ n)) ≡ linear_space n f
unfolding linear_space
linear-inserts n f = basis-select n (closed n f) (closed-space n f)
