-- Laws of the span: it is a space, the least one that holds the vectors; and of cosets. Read next: Reduce.
use mathlib.Core.Path.{◌≡◌, refl, sym, ap, ◌∙◌, subst}
use mathlib.Core.Bool.{Bool, true}
use mathlib.Core.Logic.{inl, inr, ◌↔◌}
use mathlib.Core.List.{List, [], ◌∷◌}
use Prim.Native.Nat.{ℕ, ◌^◌, ◌<◌}
use lib.Pow.{pow_pos}
use lib.Bits.{xor_self, xor_zero_r, xor_lt}
use Rattle.gf2.specs.Bits.{◌⊕◌}
use Rattle.gf2.specs.Finite.{Mem, In}
use Rattle.gf2.specs.Span.{Span, Space, Unchanged, Coset}
use Rattle.gf2.proofs.Xor.{xor_assoc, xor-cancel, xor-cancel-l, xor-swap, xor-pair}

-- ---- the span is a space

pub span-zero : (bs : List ℕ) → Span bs 0
span-zero [] = refl
span-zero (b ∷ bs) = inl (span-zero bs)

pub span-xor : (bs : List ℕ) (x y : ℕ) → Span bs x → Span bs y → Span bs (x ⊕ y)
span-xor [] x y p q = rw (p, q)
span-xor (b ∷ bs) x y (inl p) (inl q) = inl (span-xor bs x y p q)
span-xor (b ∷ bs) x y (inl p) (inr q) = inr (rw (xor_assoc x y b) (span-xor bs x (y ⊕ b) p q))
span-xor (b ∷ bs) x y (inr p) (inl q) = inr (subst (Span bs) (xor-swap x b y) (span-xor bs (x ⊕ b) y p q))
span-xor (b ∷ bs) x y (inr p) (inr q) = inl (subst (Span bs) (xor-pair x y b) (span-xor bs (x ⊕ b) (y ⊕ b) p q))

pub span-space : (bs : List ℕ) → Space (Span bs)
span-space bs = record { origin = span-zero bs; sums = span-xor bs }

-- ---- that holds the vectors, and lies in every space that does

pub span-mem : (bs : List ℕ) (b : ℕ) → Mem b bs → Span bs b
span-mem [] b h = elim h [ ]
span-mem (c ∷ bs) b (inl e) = inr (subst (Span bs) (sym (ap (λ (x : ℕ). x ⊕ c) e ∙ xor_self c)) (span-zero bs))
span-mem (c ∷ bs) b (inr m) = inl (span-mem bs b m)

pub span-least : (P : ℕ → Type 0) → Space P → (bs : List ℕ) → ((b : ℕ) → Mem b bs → P b) → (x : ℕ) → Span bs x → P x
span-least P s [] h x e = rw e s.origin
span-least P s (b ∷ bs) h x (inl p) = span-least P s bs (λ c m. h c (inr m)) x p
span-least P s (b ∷ bs) h x (inr p) =
    subst P (xor-cancel x b) (s.sums (x ⊕ b) b (span-least P s bs (λ c m. h c (inr m)) (x ⊕ b) p) (h b (inl refl)))

-- The points of n variables are a space, so a span of such vectors has no others.
pub below-space : (n : ℕ) → Space (λ x. x < 2 ^ n)
below-space n = record { origin = pow_pos n; sums = xor_lt n }

pub span_below : (n : ℕ) (bs : List ℕ) → ((b : ℕ) → Mem b bs → b < 2 ^ n) → (x : ℕ) → Span bs x → x < 2 ^ n
span_below n = span-least (λ x. x < 2 ^ n) (below-space n)

-- One vector put in front may be exchanged for another that differs from it by a vector of the span.
pub span-exchange : (bs : List ℕ) (v w x : ℕ) → Span bs (v ⊕ w) → Span (v ∷ bs) x → Span (w ∷ bs) x
span-exchange bs v w x h (inl p) = inl p
span-exchange bs v w x h (inr p) = inr (subst (Span bs) (xor_assoc x v (v ⊕ w) ∙ ap (λ (z : ℕ). x ⊕ z) (xor-cancel-l v w)) (span-xor bs (x ⊕ v) (v ⊕ w) p h))

-- ---- cosets

pub coset-self : (p : ℕ) (bs : List ℕ) → Coset p bs p
coset-self p bs = subst (Span bs) (sym (xor_self p)) (span-zero bs)

-- A coset inside a coset: so are the directions.
pub coset-directions : (p q : ℕ) (bs cs : List ℕ) → ((x : ℕ) → Coset p bs x → Coset q cs x) → (x : ℕ) → Span bs x → Span cs x
coset-directions p q bs cs h x s =
    subst (Span cs) (ap (λ (z : ℕ). z ⊕ (p ⊕ q)) (xor_assoc x p q) ∙ xor-cancel x (p ⊕ q))
    (span-xor cs (x ⊕ p ⊕ q) (p ⊕ q) (h (x ⊕ p) (rw (xor-cancel x p) s)) (h p (coset-self p bs)))

-- ---- the vectors that change no value of a function

-- They are a space, whatever test tells them.
pub unchanged-space : (n : ℕ) (f P : ℕ → Bool) → ((a : ℕ) → (P a ≡ true) ↔ Unchanged n f a) → Space (In n P)
unchanged-space n f P is = record {
  origin = (pow_pos n, (is 0).1 (λ w h. ap f (xor_zero_r w)));
  sums = λ a b p q. (
    xor_lt n a b p.0 q.0,
    (is (a ⊕ b)).1 (λ w h. ap f (sym (xor_assoc w a b)) ∙ (is b).0 q.1 (w ⊕ a) (xor_lt n w a h p.0) ∙ (is a).0 p.1 w h),
  );
}
