-- Laws of specs.Completion: what the completed function is by the number of variables; the function of the largest space has that space for its linear
-- space and no more (source 003, Theorem 1, for a largest space); on and off points are kept; the degree is never below k0 nor k1. Read next: Restriction.
use mathlib.Core.Path.{◌≡◌, sym, ap, ◌∙◌, subst}
use mathlib.Core.Bool.{Bool, true, false}
use mathlib.Core.Logic.{◌↔◌}
use mathlib.Core.List.{List, ◌∷◌}
use Prim.Native.Nat.{ℕ, ◌^◌, ◌≤◌, ◌<◌, max}
use native.Mathlib.Nat.{lt_of_not-le}
use native.Mathlib.Decide.{dec_le}
use native.Mathlib.Omega.{arith}
use lib.ListN.{length}
use lib.Dec.{ltb}
use borrow.Author.Tests.{ltb-true, ltb-false, lt-ltb, le-ltb, le-leb, lt-leb}
use Rattle.gf2.specs.Bits.{◌⊕◌}
use Rattle.gf2.specs.Finite.{Mem, holds, Rising, In}
use Rattle.gf2.specs.Span.{Span}
use Rattle.gf2.proofs.Logic.{clash, cond_cases, or_l, or-false}
use Rattle.gf2.proofs.Finite.{cons-all, holds-mem, select-mem, mem-select, select-rising, select-holds}
use Rattle.gf2.proofs.Span.{span-mem, span-least}
use Rattle.table.proofs.Table.{refuted}
use Rattle.cubes.specs.Primes.{allowed}
use Rattle.subspaces.specs.Spaces.{LiesIn, Largest}
use Rattle.subspaces.proofs.Spaces.{largest-own}
use Rattle.closure_set.specs.ClosureSet.{closure_set, largest_space, spread}
use Rattle.closure_set.proofs.ClosureSet.{closes-is, on-allowed, closure-mem, largest_space-is, spread-on, spread-allowed, spread_same}
use Rattle.space.specs.Closure.{closed, linear_space, degree}
use Rattle.space.specs.Completion.{all_off, all_on, k0, k1, simply_completed, max_searched, completed, completed_points}
use Rattle.space.proofs.Closure.{closed_at, closed_of, closed-space, linear-reduced, linear-span, linear-unique}

-- ---- a function that is on where the table is, and off where it is off

-- The function is on at the on points of the table, and elsewhere only at free points.
pub record Keeps (on free : List ℕ) (f : ℕ → Bool) : Type 0 where
  pub kept : (w : ℕ) → Mem w on → f w ≡ true
  pub within : (w : ℕ) → f w ≡ true → allowed (holds on) (holds free) w ≡ true

pub off-keeps : (on free : List ℕ) → Keeps on free (all_off on)
off-keeps on free = record { kept = λ w m. (holds-mem on w).1 m; within = λ w e. or_l (holds on w) (holds free w) e }

pub on-keeps : (on free : List ℕ) → Keeps on free (all_on on free)
unfolding all_on
on-keeps on free = record { kept = on-allowed on free; within = λ w e. e }

-- What such a function is closed under is in the closure set, if the on points have n variables.
closed-closes : (n : ℕ) (on free : List ℕ) (f : ℕ → Bool) → ((w : ℕ) → Mem w on → w < 2 ^ n) → Keeps on free f
    → (a : ℕ) → In n (closed n f) a → Mem a (closure_set n on free)
closed-closes n on free f below k a i = (closure-mem n on free a).1 (
  i.0,
  (closes-is on free a).1 (λ w m. k.within (w ⊕ a) (closed_at n f a i.1 w (below w m) ∙ k.kept w m)),
)

-- So its degree is no larger than the dimension of the largest space inside.
pub keeps-degree : (n : ℕ) (on free : List ℕ) (f : ℕ → Bool) → ((w : ℕ) → Mem w on → w < 2 ^ n) → Keeps on free f → degree n f ≤ length (largest_space n on free)
unfolding degree
keeps-degree n on free f below k =
    ((largest_space-is n on free).best (linear_space n f) (linear-reduced n f) (λ x s. closed-closes n on free f below k x ((linear-span n f x).0 s))).0

-- ---- the function of the largest space

spread-keeps : (n : ℕ) (on free bs : List ℕ) → LiesIn (closure_set n on free) bs → Keeps on free (spread on bs)
spread-keeps n on free bs h = record { kept = spread-on on bs; within = spread-allowed n on free bs h }

-- Its linear space is that space, and no more.
module _ (n : ℕ) (on free bs : List ℕ) (below : (w : ℕ) → Mem w on → w < 2 ^ n) (a : Largest (closure_set n on free) bs) where
  own : (x : ℕ) → Span bs x → In n (closed n (spread on bs)) x
  own x s = (((closure-mem n on free x).0 (a.inside x s)).0, closed_of n (spread on bs) x (λ w l. spread_same on bs x s w))

  -- With one more the space would still lie in the closure set, and it is a largest one.
  no_more : (x : ℕ) → In n (closed n (spread on bs)) x → Span bs x
  no_more x i = largest-own (closure_set n on free) bs a x (λ y s.
      closed-closes n on free (spread on bs) below (spread-keeps n on free bs a.inside) y
      (span-least (In n (closed n (spread on bs))) (closed-space n (spread on bs)) (x ∷ bs)
      (cons-all (In n (closed n (spread on bs))) x bs i (λ b m. own b (span-mem bs b m))) y s))

  pub spread-linear : bs ≡ linear_space n (spread on bs)
  spread-linear = linear-unique n (spread on bs) bs a.reduced (λ x. (own x, no_more x))

-- ---- the simple way

pub simply-off : (n : ℕ) (on free : List ℕ) → k1 n on free ≤ k0 n on → simply_completed n on free ≡ all_off on
unfolding simply_completed
simply-off n on free h = rw (le-ltb (k0 n on) (k1 n on free) h)

pub simply-on : (n : ℕ) (on free : List ℕ) → k0 n on < k1 n on free → simply_completed n on free ≡ all_on on free
unfolding simply_completed
simply-on n on free h = rw (lt-ltb (k0 n on) (k1 n on free) h)

-- What holds of both holds of the one that is taken.
simply-cases : (n : ℕ) (on free : List ℕ) (P : (ℕ → Bool) → Type 0) → (k0 n on < k1 n on free → P (all_on on free))
    → (k1 n on free ≤ k0 n on → P (all_off on)) → P (simply_completed n on free)
unfolding simply_completed
simply-cases n on free P a b = cond_cases P (ltb (k0 n on) (k1 n on free)) (all_on on free) (all_off on)
    (λ e. a (ltb-true (k0 n on) (k1 n on free) e)) (λ e. b (ltb-false (k0 n on) (k1 n on free) e))

pub simply-degree : (n : ℕ) (on free : List ℕ) → degree n (simply_completed n on free) ≡ max (k0 n on) (k1 n on free)
simply-degree n on free = simply-cases n on free (λ f. degree n f ≡ max (k0 n on) (k1 n on free)) (λ h. omega arith) (λ h. omega arith)

-- ---- which of the two ways it is

pub completed-spread : (n : ℕ) (on free : List ℕ) → n ≤ max_searched → completed n on free ≡ spread on (largest_space n on free)
unfolding completed
completed-spread n on free h = rw (le-leb n max_searched h)

pub completed-simply : (n : ℕ) (on free : List ℕ) → max_searched < n → completed n on free ≡ simply_completed n on free
unfolding completed
completed-simply n on free h = rw (lt-leb n max_searched h)

-- What holds of both ways, each for its numbers of variables, holds of the completed function.
pub completed-cases : (n : ℕ) (on free : List ℕ) (P : (ℕ → Bool) → Type 0) → (n ≤ max_searched → P (spread on (largest_space n on free)))
    → (max_searched < n → P (simply_completed n on free)) → P (completed n on free)
completed-cases n on free P a b = elim (dec_le n max_searched) [
  | yes h ↦ subst P (sym (completed-spread n on free h)) (a h)
  | no h ↦ subst P (sym (completed-simply n on free (lt_of_not-le h))) (b (lt_of_not-le h))
]

-- ---- every on point on, every off point off

completed-keeps : (n : ℕ) (on free : List ℕ) → Keeps on free (completed n on free)
completed-keeps n on free = completed-cases n on free (Keeps on free) (λ h. spread-keeps n on free (largest_space n on free) (largest_space-is n on free).inside)
    (λ h. simply-cases n on free (Keeps on free) (λ i. on-keeps on free) (λ i. off-keeps on free))

pub kept_on : (n : ℕ) (on free : List ℕ) (w : ℕ) → Mem w on → completed n on free w ≡ true
kept_on n on free = (completed-keeps n on free).kept

pub kept_off : (n : ℕ) (on free : List ℕ) (w : ℕ) → holds on w ≡ false → holds free w ≡ false → completed n on free w ≡ false
kept_off n on free w e g =
    refuted (completed n on free w) (λ t. clash ((completed-keeps n on free).within w t) (or-false (holds on w) (holds free w) e g))

-- ---- the linear space and the degree

-- Up to eight variables the linear space is the largest space inside the closure set.
pub completed-linear : (n : ℕ) (on free : List ℕ) → ((w : ℕ) → Mem w on → w < 2 ^ n) → n ≤ max_searched
    → largest_space n on free ≡ linear_space n (completed n on free)
completed-linear n on free below h =
    spread-linear n on free (largest_space n on free) below (largest_space-is n on free) ∙ ap (linear_space n) (sym (completed-spread n on free h))

-- The degree is never below k0 nor k1.
pub completed-degree : (n : ℕ) (on free : List ℕ) → ((w : ℕ) → Mem w on → w < 2 ^ n) → max (k0 n on) (k1 n on free) ≤ degree n (completed n on free)
completed-degree n on free below = elim (dec_le n max_searched) [
  | yes h ↦
      let e : degree n (completed n on free) ≡ length (largest_space n on free) = unfold degree in ap length (sym (completed-linear n on free below h)) in
      omega (arith, e, keeps-degree n on free (all_off on) below (off-keeps on free), keeps-degree n on free (all_on on free) below (on-keeps on free))
  | no h ↦ let e = ap (degree n) (completed-simply n on free (lt_of_not-le h)) in omega (arith, e, simply-degree n on free)
]

-- ---- the points of the completed function

pub completed-rising : (n : ℕ) (on free : List ℕ) → Rising (completed_points n on free)
unfolding completed_points
completed-rising n on free = select-rising (completed n on free) (2 ^ n)

pub completed-points : (n : ℕ) (on free : List ℕ) (w : ℕ) → Mem w (completed_points n on free) ↔ In n (completed n on free) w
unfolding completed_points
completed-points n on free w =
    (select-mem (completed n on free) (2 ^ n) w, λ i. mem-select (completed n on free) (2 ^ n) w i.0 i.1)

-- As a test of membership, below 2 ^ n.
pub completed-at : (n : ℕ) (on free : List ℕ) (w : ℕ) → w < 2 ^ n → holds (completed_points n on free) w ≡ completed n on free w
unfolding completed_points
completed-at n on free w h = select-holds (completed n on free) (2 ^ n) w h
