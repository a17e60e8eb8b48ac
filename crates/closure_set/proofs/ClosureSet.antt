-- Laws of specs.ClosureSet: what is in the closure set, that it holds 0, so that there is a largest space inside; what a function spread over a space is
-- on at. Read next: Steps.
use mathlib.Core.Path.{◌≡◌, sym, subst}
use mathlib.Core.Bool.{true}
use mathlib.Core.Logic.{◌↔◌}
use mathlib.Core.List.{List}
use Prim.Native.Nat.{ℕ, ◌^◌}
use lib.Pow.{pow_pos}
use lib.Bits.{xor_self, xor_zero_r}
use Rattle.gf2.specs.Bits.{◌⊕◌}
use Rattle.gf2.specs.Finite.{Mem, holds, In}
use Rattle.gf2.specs.Span.{Span}
use Rattle.gf2.proofs.Logic.{same, or_l}
use Rattle.gf2.proofs.Finite.{every-is, holds-mem, select-mem, mem-select, select-rising}
use Rattle.gf2.proofs.Xor.{xor_assoc, xor-cancel, xor-cancel-l}
use Rattle.gf2.proofs.Span.{span-zero, span-xor}
use Rattle.cubes.specs.Primes.{allowed}
use Rattle.cubes.proofs.Primes.{some-point}
use Rattle.subspaces.specs.Spaces.{LiesIn, Largest}
use Rattle.subspaces.proofs.Spaces.{largest-is}
use Rattle.closure_set.specs.ClosureSet.{closes, closure_set, largest_space, spread}

-- ---- the closure set

pub closes-is : (on free : List ℕ) (a : ℕ) → (closes on free a ≡ true) ↔ ((w : ℕ) → Mem w on → allowed (holds on) (holds free) (w ⊕ a) ≡ true)
unfolding closes
closes-is on free a = every-is (λ w. allowed (holds on) (holds free) (w ⊕ a)) on

-- An on point is allowed.
pub on-allowed : (on free : List ℕ) (w : ℕ) → Mem w on → allowed (holds on) (holds free) w ≡ true
on-allowed on free w m = or_l (holds on w) (holds free w) ((holds-mem on w).1 m)

pub closes-zero : (on free : List ℕ) → closes on free 0 ≡ true
closes-zero on free =
    (closes-is on free 0).1 (λ w m. subst (λ (x : ℕ). allowed (holds on) (holds free) x ≡ true) (sym (xor_zero_r w)) (on-allowed on free w m))

pub closure-mem : (n : ℕ) (on free : List ℕ) (a : ℕ) → Mem a (closure_set n on free) ↔ In n (closes on free) a
unfolding closure_set
closure-mem n on free a = (select-mem (closes on free) (2 ^ n) a, λ i. mem-select (closes on free) (2 ^ n) a i.0 i.1)

-- ---- the largest space inside it

pub largest_space-is : (n : ℕ) (on free : List ℕ) → Largest (closure_set n on free) (largest_space n on free)
unfolding closure_set largest_space
largest_space-is n on free = largest-is n (closure_set n on free) (select-rising (closes on free) (2 ^ n))
    (mem-select (closes on free) (2 ^ n) 0 (pow_pos n) (closes-zero on free)) (λ x m. (select-mem (closes on free) (2 ^ n) x m).0)

-- ---- the on points spread over a space

pub spread-is : (on bs : List ℕ) (w : ℕ) → (spread on bs w ≡ true) ↔ ((u : ℕ) × Mem u on × Span bs (u ⊕ w))
unfolding spread
spread-is on bs w = (
  λ e. let k = (some-point (holds on) bs w).0 e in (k.0, (holds-mem on k.0).0 k.2, k.1),
  λ k. (some-point (holds on) bs w).1 (k.0, k.2, (holds-mem on k.0).1 k.1),
)

-- Each on point is on.
pub spread-on : (on bs : List ℕ) (w : ℕ) → Mem w on → spread on bs w ≡ true
spread-on on bs w m = (spread-is on bs w).1 (w, m, subst (Span bs) (sym (xor_self w)) (span-zero bs))

-- Over a space inside the closure set, only allowed points are on.
pub spread-allowed : (n : ℕ) (on free bs : List ℕ) → LiesIn (closure_set n on free) bs → (w : ℕ) → spread on bs w ≡ true → allowed (holds on) (holds free) w ≡ true
spread-allowed n on free bs h w e =
    let k = (spread-is on bs w).0 e in
    subst (λ (x : ℕ). allowed (holds on) (holds free) x ≡ true) (xor-cancel-l k.0 w)
    ((closes-is on free (k.0 ⊕ w)).0 ((closure-mem n on free (k.0 ⊕ w)).0 (h (k.0 ⊕ w) k.2)).1 k.0 k.1)

-- And a vector of the space changes nothing.
pub spread_same : (on bs : List ℕ) (a : ℕ) → Span bs a → (w : ℕ) → spread on bs (w ⊕ a) ≡ spread on bs w
spread_same on bs a s w = same (spread on bs (w ⊕ a)) (spread on bs w)
    (λ e. subst (λ (x : ℕ). spread on bs x ≡ true) (xor-cancel w a) (shifted (w ⊕ a) e)) (shifted w)
  where
    shifted : (w : ℕ) → spread on bs w ≡ true → spread on bs (w ⊕ a) ≡ true
    shifted w e =
        let k = (spread-is on bs w).0 e in
        (spread-is on bs (w ⊕ a)).1 (k.0, k.1, subst (Span bs) (xor_assoc k.0 w a) (span-xor bs (k.0 ⊕ w) a k.2 s))
