-- Cosets and pseudocubes: a coset is a pseudocube, and the directions of a pseudocube are a space. Read next: Variables.
use mathlib.Core.Path.{◌≡◌, refl, sym, ap, ◌∙◌, subst}
use mathlib.Core.Bool.{Bool, true}
use mathlib.Core.Logic.{◌↔◌}
use mathlib.Core.List.{List}
use Prim.Native.Nat.{ℕ, ◌^◌, ◌<◌}
use lib.Dec.{eqb}
use lib.Pow.{pow_pos}
use lib.Bits.{xor_comm, xor_lt}
use borrow.Author.Tests.{eq-eqb, eqb-true}
use Rattle.gf2.specs.Bits.{◌⊕◌}
use Rattle.gf2.specs.Finite.{In}
use Rattle.gf2.specs.Span.{Span, Space, Coset, Pseudocube}
use Rattle.gf2.specs.Basis.{Reduced, reduce}
use Rattle.gf2.proofs.Xor.{xor_assoc, xor-pair}
use Rattle.gf2.proofs.Span.{span-xor, coset-self}
use Rattle.gf2.proofs.Reduce.{reduce-span, reduce-zero, span-reduce}

-- A coset is the same from its reduced point.
pub coset-reduce : (bs : List ℕ) (p x : ℕ) → Coset p bs x ↔ Coset (reduce bs p) bs x
coset-reduce bs p x =
    let h = reduce-span bs p in (
      λ c. subst (Span bs) (step x p (reduce bs p)) (span-xor bs (x ⊕ p) (p ⊕ reduce bs p) c h),
      λ c. subst (Span bs) (step x (reduce bs p) p) (span-xor bs (x ⊕ reduce bs p) (reduce bs p ⊕ p) c (subst (Span bs) (xor_comm p (reduce bs p)) h)),
    )
  where
    step : (a b c : ℕ) → (a ⊕ b) ⊕ (b ⊕ c) ≡ a ⊕ c
    step a b c = ap (λ (z : ℕ). (a ⊕ b) ⊕ z) (xor_comm b c) ∙ xor-pair a c b

-- Two points of a coset differ by a vector of the span.
pub coset-differ : (p : ℕ) (bs : List ℕ) (u v : ℕ) → Coset p bs u → Coset p bs v → Span bs (u ⊕ v)
coset-differ p bs u v a b = subst (Span bs) (xor-pair u v p) (span-xor bs (u ⊕ p) (v ⊕ p) a b)

pub coset-triples : (p : ℕ) (bs : List ℕ) (x y z : ℕ) → Coset p bs x → Coset p bs y → Coset p bs z → Coset p bs (x ⊕ y ⊕ z)
coset-triples p bs x y z a b c =
    subst (Span bs) (sym (xor_assoc (x ⊕ y) z p)) (span-xor bs (x ⊕ y) (z ⊕ p) (coset-differ p bs x y a b) c)

-- A coset of points below 2 ^ n is a pseudocube.
pub coset-cube : (n p : ℕ) (bs : List ℕ) → Reduced bs → ((x : ℕ) → Coset p bs x → x < 2 ^ n)
    → (C : ℕ → Bool) × Pseudocube n C × ((x : ℕ) → In n C x ↔ Coset p bs x)
coset-cube n p bs r h = (
  λ x. eqb (reduce bs (x ⊕ p)) 0,
  record {
    some = (p, (is p).1 (coset-self p bs));
    triples = λ x y z a b c. (is (x ⊕ y ⊕ z)).1 (coset-triples p bs x y z ((is x).0 a) ((is y).0 b) ((is z).0 c));
  },
  is,
)
  where
    is : (x : ℕ) → In n (λ x. eqb (reduce bs (x ⊕ p)) 0) x ↔ Coset p bs x
    is x = (
      λ i. reduce-zero bs (x ⊕ p) (eqb-true (reduce bs (x ⊕ p)) 0 i.1),
      λ c. (h x c, eq-eqb (reduce bs (x ⊕ p)) 0 (span-reduce bs r (x ⊕ p) c)),
    )

-- The directions of a pseudocube from one of its points are a space.
pub cube-directions : (n : ℕ) (C : ℕ → Bool) → Pseudocube n C → (p : ℕ) → In n C p → Space (In n (λ x. C (x ⊕ p)))
cube-directions n C c p i = record {
  origin = (pow_pos n, i.1);
  sums = λ x y a b. (
    xor_lt n x y a.0 b.0,
    subst (λ (z : ℕ). C z ≡ true) (ap (λ (z : ℕ). z ⊕ p) (xor-pair x y p))
        (c.triples (x ⊕ p) (y ⊕ p) p (xor_lt n x p a.0 i.0, a.1) (xor_lt n y p b.0 i.0, b.1) i).1,
  );
}

-- All points of n variables are a pseudocube.
pub whole-cube : (n : ℕ) → Pseudocube n (λ x. true)
whole-cube n = record {
  some = (0, (pow_pos n, refl));
  triples = λ a b c x y z. (xor_lt n (a ⊕ b) c (xor_lt n a b x.0 y.0) z.0, refl);
}
