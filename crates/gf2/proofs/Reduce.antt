-- Laws of clearing a lead bit and of reduction by a reduced basis: linear, 0 exactly on the span, and the least point of the coset.
-- Read next: Unique.
use mathlib.Core.Path.{◌≡◌, refl, sym, ap, ◌∙◌, subst}
use mathlib.Core.Bool.{Bool, true, false, cond}
use mathlib.Core.Logic.{◌⊎◌, inl, inr}
use mathlib.Core.List.{List, [], ◌∷◌}
use Prim.Native.Nat.{ℕ, zero, suc, ◌+◌, ◌^◌, ◌≤◌, ◌<◌}
use native.Mathlib.Nat.{le_refl, le_trans}
use native.Mathlib.Omega.{arith}
use lib.ListN.{length, drop}
use lib.Pow.{pow_pos, pow_mono}
use lib.Bits.{xor_comm, xor_self, xor_zero_r}
use borrow.Author.Tests.{lt-ltb, le-ltb}
use Rattle.gf2.specs.Bits.{◌⊕◌, ◌⊻◌, bit, lead, has_lead}
use Rattle.gf2.specs.Finite.{Mem, Rising}
use Rattle.gf2.specs.Span.{Span, Coset, Least}
use Rattle.gf2.specs.Basis.{LeadsApart, Reduced, clear, reduce}
use Rattle.gf2.proofs.Xor.{bit-xor, bit-big, xor_assoc, xor-eq, xors}
use Rattle.gf2.proofs.Logic.{⊻-false}
use Rattle.gf2.proofs.Leads.{has_lead-xor, has_lead-self, has_lead-lt, falls-lead, lead_is, lead_high, lead-rise, lead-fits}
use Rattle.gf2.proofs.Span.{span-least}

-- ---- clearing a lead bit

pub clear-on : (b x : ℕ) → has_lead b x ≡ true → clear b x ≡ x ⊕ b
unfolding clear
clear-on b x e = rw e

pub clear-off : (b x : ℕ) → has_lead b x ≡ false → clear b x ≡ x
unfolding clear
clear-off b x e = rw e

pub clear-cases : (b x : ℕ) → ((has_lead b x ≡ true) × (clear b x ≡ x ⊕ b)) ⊎ ((has_lead b x ≡ false) × (clear b x ≡ x))
clear-cases b x = go (has_lead b x) refl
  where
    go : (t : Bool) → has_lead b x ≡ t → ((has_lead b x ≡ true) × (clear b x ≡ x ⊕ b)) ⊎ ((has_lead b x ≡ false) × (clear b x ≡ x))
    go true e = inl (e, clear-on b x e)
    go false e = inr (e, clear-off b x e)

-- As code tests it: by the order of x ⊕ b and x, and not by a bit.
pub clear-lt : (b x : ℕ) → 0 < b → x ⊕ b < x → x ⊕ b ≡ clear b x
clear-lt b x p h = sym (clear-on b x (sym (falls-lead b x p) ∙ lt-ltb (x ⊕ b) x h))

pub clear-ge : (b x : ℕ) → 0 < b → x ≤ x ⊕ b → x ≡ clear b x
clear-ge b x p h = sym (clear-off b x (sym (falls-lead b x p) ∙ le-ltb (x ⊕ b) x h))

clear-sum : (b x y : ℕ) (p q : Bool) → cond (p ⊻ q) (x ⊕ y ⊕ b) (x ⊕ y) ≡ cond p (x ⊕ b) x ⊕ cond q (y ⊕ b) y
clear-sum b x y false false = refl
clear-sum b x y false true = xor_assoc x y b
clear-sum b x y true false = simp xors
clear-sum b x y true true = simp xors

pub clear_xor : (b x y : ℕ) → clear b (x ⊕ y) ≡ clear b x ⊕ clear b y
unfolding clear
clear_xor b x y = rw (has_lead-xor b x y) (clear-sum b x y (has_lead b x) (has_lead b y))

pub clear-le : (b x : ℕ) → 0 < b → clear b x ≤ x
clear-le b x p = elim (clear-cases b x) [ inl h ↦ omega (arith, h.1, has_lead-lt b x p h.0) | inr h ↦ omega (arith, h.1) ]

-- The bit is clear afterwards, and a bit that b has not stays as it was.
pub has_lead-clear : (b x : ℕ) → 0 < b → has_lead b (clear b x) ≡ false
has_lead-clear b x p = elim (clear-cases b x) [
  | inl h ↦ rw (h.1, has_lead-xor b x b, h.0, has_lead-self b p)
  | inr h ↦ rw h.1 h.0
]

pub bit-clear : (k b x : ℕ) → bit k b ≡ false → bit k (clear b x) ≡ bit k x
bit-clear k b x e = elim (clear-cases b x) [ inl h ↦ rw (h.1, bit-xor k x b, e) (⊻-false (bit k x)) | inr h ↦ rw h.1 ]

pub has_lead-flip : (b x : ℕ) → 0 < b → has_lead b (x ⊕ b) ≡ false → has_lead b x ≡ true
has_lead-flip b x p e = go (has_lead b x) (rw (has_lead-xor b x b, has_lead-self b p) at e)
  where
    go : (t : Bool) → t ⊻ true ≡ false → t ≡ true
    go true h = refl
    go false h = sym h

-- ---- reduced bases

-- Of the three demands on two vectors, one follows from the others.
pub apart : (b c : ℕ) → 0 < b → b < c → has_lead b c ≡ false → LeadsApart b c
apart b c p h e = record {
  rises = h;
  lower = e;
  upper = bit-big (lead c) b (omega (arith, lead_high (lead b) b (lead_is b p), pow_mono (lead-rise b c p h e)));
}

pub reduced-pos : (bs : List ℕ) → Reduced bs → (c : ℕ) → Mem c bs → 0 < c
reduced-pos [] s c h = elim h [ ]
reduced-pos (b ∷ bs) s c (inl e) = rw e s.0
reduced-pos (b ∷ bs) s c (inr m) = reduced-pos bs s.2 c m

pub reduced-rising : (bs : List ℕ) → Reduced bs → Rising bs
reduced-rising [] r = tt
reduced-rising (b ∷ bs) r = (λ c m. (r.1 c m).rises, reduced-rising bs r.2)

-- The vectors from the i-th on are a reduced basis too.
pub reduced-drop : (i : ℕ) (bs : List ℕ) → Reduced bs → Reduced (drop i bs)
reduced-drop zero bs r = r
reduced-drop (suc i) [] r = tt
reduced-drop (suc i) (b ∷ bs) r = reduced-drop i bs r.2

-- The leads rise too, so below 2 ^ n there are at most n vectors, and at most n - k with leads from k on.
pub lead-room : (n k : ℕ) (bs : List ℕ) → k ≤ n → Reduced bs → ((c : ℕ) → Mem c bs → (c < 2 ^ n) × (k ≤ lead c)) → length bs + k ≤ n
lead-room n k [] l r h = omega arith
lead-room n k (b ∷ bs) l r h =
    let low = h b (inl refl) in
    omega (
      arith,
      low.1,
      lead-room n (suc (lead b)) bs (lead-fits n b r.0 low.0) r.2
          (λ c m. ((h c (inr m)).0, lead-rise b c r.0 (r.1 c m).rises (r.1 c m).lower)),
    )

pub reduced-length : (n : ℕ) (bs : List ℕ) → Reduced bs → ((c : ℕ) → Mem c bs → c < 2 ^ n) → length bs ≤ n
reduced-length n bs r h = omega (arith, lead-room n 0 bs (omega arith) r (λ c m. (h c m, omega arith)))

-- ---- reduction

pub reduce-xor : (bs : List ℕ) (x y : ℕ) → reduce bs (x ⊕ y) ≡ reduce bs x ⊕ reduce bs y
unfolding reduce
reduce-xor [] x y = refl
reduce-xor (b ∷ bs) x y = rw (clear_xor b x y) (reduce-xor bs (clear b x) (clear b y))

-- What reduction took away is in the span.
pub reduce-span : (bs : List ℕ) (x : ℕ) → Span bs (x ⊕ reduce bs x)
unfolding reduce
reduce-span [] x = xor_self x
reduce-span (b ∷ bs) x = elim (clear-cases b x) [
  | inl h ↦ inr (subst (Span bs) (ap (λ (z : ℕ). z ⊕ reduce bs (clear b x)) h.1 ∙ simp xors) (reduce-span bs (clear b x)))
  | inr h ↦ inl (subst (Span bs) (ap (λ (z : ℕ). z ⊕ reduce bs (clear b x)) h.1) (reduce-span bs (clear b x)))
]

-- The span of the later vectors has not the first one's lead bit.
pub span-lead : (b : ℕ) (bs : List ℕ) → Reduced (b ∷ bs) → (x : ℕ) → Span bs x → has_lead b x ≡ false
span-lead b bs r = span-least (λ (x : ℕ). has_lead b x ≡ false)
    (record { origin = bit-big (lead b) 0 (pow_pos (lead b)); sums = λ x y p q. rw (has_lead-xor b x y, p, q) })
    bs (λ c m. (r.1 c m).lower)

-- x is in the span exactly if it reduces to 0.
pub span-reduce : (bs : List ℕ) → Reduced bs → (x : ℕ) → Span bs x → reduce bs x ≡ 0
unfolding reduce
span-reduce [] r x e = e
span-reduce (b ∷ bs) r x (inl p) = rw (clear-off b x (span-lead b bs r x p)) (span-reduce bs r.2 x p)
span-reduce (b ∷ bs) r x (inr p) =
    rw (clear-on b x (has_lead-flip b x r.0 (span-lead b bs r (x ⊕ b) p))) (span-reduce bs r.2 (x ⊕ b) p)

pub reduce-zero : (bs : List ℕ) (x : ℕ) → reduce bs x ≡ 0 → Span bs x
reduce-zero bs x e = subst (Span bs) (ap (λ (z : ℕ). x ⊕ z) e ∙ xor_zero_r x) (reduce-span bs x)

-- All points of a coset have one reduction, which is its least point.
pub reduce-le : (bs : List ℕ) → Reduced bs → (x : ℕ) → reduce bs x ≤ x
unfolding reduce
reduce-le [] r x = le_refl x
reduce-le (b ∷ bs) r x = le_trans (reduce-le bs r.2 (clear b x)) (clear-le b x r.0)

pub reduce-coset : (bs : List ℕ) → Reduced bs → (x y : ℕ) → Span bs (x ⊕ y) → reduce bs x ≡ reduce bs y
reduce-coset bs r x y p = xor-eq (reduce bs x) (reduce bs y) (sym (reduce-xor bs x y) ∙ span-reduce bs r (x ⊕ y) p)

pub reduce-least : (bs : List ℕ) → Reduced bs → (x : ℕ) → Least (Coset x bs) (reduce bs x)
reduce-least bs r x = record {
  inside = subst (Span bs) (xor_comm x (reduce bs x)) (reduce-span bs x);
  least = λ y p. omega (arith, reduce-coset bs r y x p, reduce-le bs r y);
}

pub reduce-twice : (bs : List ℕ) → Reduced bs → (x : ℕ) → reduce bs (reduce bs x) ≡ reduce bs x
reduce-twice bs r x = sym (reduce-coset bs r x (reduce bs x) (reduce-span bs x))

-- No lead bit is left.
pub bit-reduce : (bs : List ℕ) (k x : ℕ) → ((c : ℕ) → Mem c bs → bit k c ≡ false) → bit k (reduce bs x) ≡ bit k x
unfolding reduce
bit-reduce [] k x h = refl
bit-reduce (b ∷ bs) k x h = bit-reduce bs k (clear b x) (λ c m. h c (inr m)) ∙ bit-clear k b x (h b (inl refl))

pub has_lead-reduce : (bs : List ℕ) → Reduced bs → (x c : ℕ) → Mem c bs → has_lead c (reduce bs x) ≡ false
unfolding reduce
has_lead-reduce [] r x c h = elim h [ ]
has_lead-reduce (b ∷ bs) r x c (inl e) = rw e (bit-reduce bs (lead b) (clear b x) (λ d m. (r.1 d m).lower) ∙ has_lead-clear b x r.0)
has_lead-reduce (b ∷ bs) r x c (inr m) = has_lead-reduce bs r.2 (clear b x) c m
