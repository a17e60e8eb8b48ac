-- Laws of the lead places and of the canonical and noncanonical variables. Read next: Examples.
use mathlib.Core.Path.{◌≡◌, refl, sym, ap, ap₂, ◌∙◌, subst}
use mathlib.Core.Bool.{Bool, true, false, not, cond, ◌||◌}
use mathlib.Core.Logic.{inl, inr, ◌≢◌}
use mathlib.Core.List.{List, [], ◌∷◌, ◌++◌, map, append_assoc, append-nil}
use Prim.Native.Nat.{ℕ, zero, suc, ◌+◌, ◌^◌, ◌≤◌, ◌<◌}
use native.Mathlib.Nat.{lt-suc_self, pos_of_ne-zero}
use native.Mathlib.Decide.{ℕ_discrete}
use native.Mathlib.Omega.{arith}
use lib.ListN.{length}
use lib.Dec.{eqb}
use borrow.Author.Tests.{eqb-true, eqb-false, eq-eqb, ne_eqb, not-true}
use Rattle.gf2.specs.Bits.{◌⊕◌, ◌⊻◌, bit, lead}
use Rattle.gf2.specs.Finite.{Mem, Ordered}
use Rattle.gf2.specs.Basis.{Reduced, is_lead, lead_mask, places_at, canonical_places, noncanonical_places}
use Rattle.gf2.proofs.Logic.{clash, cond_cases, or_cases, or-none, or_l, or_r}
use Rattle.gf2.proofs.Xor.{bit-xor, bit-zero, bit-pow, xor-cancel, xor-eq}
use Rattle.gf2.proofs.Leads.{lead-rise, lead-fits, lead-xor-higher}
use Rattle.gf2.specs.Span.{Span}

-- ---- the leads of a list

pub is_lead-at : (bs : List ℕ) (k : ℕ) → is_lead bs k ≡ true → (c : ℕ) × Mem c bs × (lead c ≡ k)
unfolding is_lead
is_lead-at [] k e = clash e refl
is_lead-at (b ∷ bs) k e = elim (or_cases (eqb (lead b) k) (is_lead bs k) e) [
  | inl h ↦ (b, inl refl, eqb-true (lead b) k h)
  | inr h ↦ let c = is_lead-at bs k h in (c.0, inr c.1, c.2)
]

pub is_lead-off : (bs : List ℕ) (k : ℕ) → is_lead bs k ≡ false → (c : ℕ) → Mem c bs → lead c ≢ k
unfolding is_lead
is_lead-off [] k e c m h = elim m [ ]
is_lead-off (b ∷ bs) k e c (inl q) h = eqb-false (lead b) k (or-none (eqb (lead b) k) (is_lead bs k) e).0 (sym (ap lead q) ∙ h)
is_lead-off (b ∷ bs) k e c (inr m) h = is_lead-off bs k (or-none (eqb (lead b) k) (is_lead bs k) e).1 c m h

-- ---- places, the highest first

pub places-mem : (q : ℕ → Bool) (n k : ℕ) → Mem k (places_at n q) → (k < n) × (q k ≡ true)
unfolding places_at
places-mem q zero k m = absurd m
places-mem q (suc n) k m = cond_cases (λ l. Mem k l → (k < suc n) × (q k ≡ true)) (q n) (n ∷ places_at n q) (places_at n q)
    (λ e i. elim i [ inl z ↦ rw z (lt-suc_self n, e) | inr j ↦ let h = places-mem q n k j in (omega (arith, h.0), h.1) ])
    (λ e i. let h = places-mem q n k i in (omega (arith, h.0), h.1)) m

pub mem-places : (q : ℕ → Bool) (n k : ℕ) → k < n → q k ≡ true → Mem k (places_at n q)
unfolding places_at
mem-places q zero k h e = absurd (omega arith)
mem-places q (suc n) k h e = go (ℕ_discrete k n) (mem-places q n k)
  where
    go : Dec (k ≡ n) → (k < n → q k ≡ true → Mem k (places_at n q)) → Mem k (cond (q n) (n ∷ places_at n q) (places_at n q))
    go (yes z) f = rw (subst (λ (z : ℕ). q z ≡ true) z e) (inl z)
    go (no z) f = cond_cases (Mem k) (q n) (n ∷ places_at n q) (places_at n q) (λ c. inr (f (omega arith) e)) (λ c. f (omega arith) e)

-- Tests that agree below n give the same places.
pub places-ext : (p q : ℕ → Bool) (n : ℕ) → ((k : ℕ) → k < n → p k ≡ q k) → places_at n p ≡ places_at n q
unfolding places_at
places-ext p q zero h = refl
places-ext p q (suc n) h = rw (h n (lt-suc_self n), places-ext p q n (λ k l. h k (omega arith)))

-- Falling places, and so rising indices.
pub places-falling : (q : ℕ → Bool) (n : ℕ) → Ordered (λ (a b : ℕ). b < a) (places_at n q)
unfolding places_at
places-falling q zero = tt
places-falling q (suc n) = cond_cases (Ordered (λ (a b : ℕ). b < a)) (q n) (n ∷ places_at n q) (places_at n q)
    (λ c. (λ b m. (places-mem q n b m).0, places-falling q n)) (λ c. places-falling q n)

-- A place passes the test or its negation.
pub places_count : (q : ℕ → Bool) (n : ℕ) → length (places_at n (λ k. not (q k))) + length (places_at n q) ≡ n
unfolding places_at
places_count q zero = refl
places_count q (suc n) = go (q n) (places_count q n)
  where
    go : (t : Bool) → length (places_at n (λ k. not (q k))) + length (places_at n q) ≡ n
        → length (cond (not t) (n ∷ places_at n (λ k. not (q k))) (places_at n (λ k. not (q k)))) + length (cond t (n ∷ places_at n q) (places_at n q)) ≡ suc n
    go true e = omega arith
    go false e = omega arith

pub noncanonical-mem : (n : ℕ) (bs : List ℕ) (k : ℕ) → Mem k (noncanonical_places n bs) → (k < n) × (is_lead bs k ≡ false)
noncanonical-mem n bs k m = let h = places-mem (λ j. not (is_lead bs j)) n k m in (h.0, not-true (is_lead bs k) h.1)

pub mem-noncanonical : (n : ℕ) (bs : List ℕ) (k : ℕ) → k < n → is_lead bs k ≡ false → Mem k (noncanonical_places n bs)
mem-noncanonical n bs k h e = mem-places (λ j. not (is_lead bs j)) n k h (rw e)

-- The places found, and those still to come.
pub places-step : {A : Type 0} (f : ℕ → A) (q : ℕ → Bool) (j : ℕ) (found : List A)
    → found ++ map f (places_at (suc j) q) ≡ cond (q j) (found ++ (f j ∷ [])) found ++ map f (places_at j q)
unfolding places_at
places-step {A} f q j found = go (q j)
  where
    go : (t : Bool) → found ++ map f (cond t (j ∷ places_at j q) (places_at j q)) ≡ cond t (found ++ (f j ∷ [])) found ++ map f (places_at j q)
    go true = sym (append_assoc found (f j ∷ []) (map f (places_at j q)))
    go false = refl

pub places-none : {A : Type 0} (f : ℕ → A) (q : ℕ → Bool) (found : List A) → found ++ map f (places_at 0 q) ≡ found
unfolding places_at
places-none f q found = append-nil found

-- ---- of n variables, as many are canonical as the basis has vectors

leads-over : (b : ℕ) (bs : List ℕ) (n : ℕ) → n ≤ lead b → length (canonical_places n (b ∷ bs)) ≡ length (canonical_places n bs)
unfolding places_at is_lead
leads-over b bs zero h = refl
leads-over b bs (suc n) h = rw (ne_eqb (lead b) n (λ q. omega arith)) (go (is_lead bs n) (leads-over b bs n (omega arith)))
  where
    go : (t : Bool) → length (canonical_places n (b ∷ bs)) ≡ length (canonical_places n bs)
        → length (cond t (n ∷ canonical_places n (b ∷ bs)) (canonical_places n (b ∷ bs))) ≡ length (cond t (n ∷ canonical_places n bs) (canonical_places n bs))
    go true e = ap suc e
    go false e = e

leads-under : (b : ℕ) (bs : List ℕ) (n : ℕ) → lead b < n → is_lead bs (lead b) ≡ false → length (canonical_places n (b ∷ bs)) ≡ suc (length (canonical_places n bs))
unfolding places_at is_lead
leads-under b bs zero h c = absurd (omega arith)
leads-under b bs (suc n) h c = go (ℕ_discrete (lead b) n) (leads-under b bs n)
  where
    mid : (t : Bool) → length (canonical_places n (b ∷ bs)) ≡ suc (length (canonical_places n bs))
        → length (cond t (n ∷ canonical_places n (b ∷ bs)) (canonical_places n (b ∷ bs))) ≡ suc (length (cond t (n ∷ canonical_places n bs) (canonical_places n bs)))
    mid true e = ap suc e
    mid false e = e

    go : Dec (lead b ≡ n) → (lead b < n → is_lead bs (lead b) ≡ false → length (canonical_places n (b ∷ bs)) ≡ suc (length (canonical_places n bs)))
        → length (cond (eqb (lead b) n || is_lead bs n) (n ∷ canonical_places n (b ∷ bs)) (canonical_places n (b ∷ bs))) ≡ suc (length (cond (is_lead bs n) (n ∷ canonical_places n bs) (canonical_places n bs)))
    go (yes q) f = rw (eq-eqb (lead b) n q, subst (λ (z : ℕ). is_lead bs z ≡ false) q c) (ap suc (leads-over b bs n (omega arith)))
    go (no q) f = rw (ne_eqb (lead b) n q) (mid (is_lead bs n) (f (omega arith) c))

leads-none : (n : ℕ) → length (canonical_places n []) ≡ 0
unfolding places_at is_lead
leads-none zero = refl
leads-none (suc n) = leads-none n

-- The first lead of a reduced basis is no lead of the others.
pub first-lead : (b : ℕ) (bs : List ℕ) → Reduced (b ∷ bs) → is_lead bs (lead b) ≡ false
first-lead b bs r = go (is_lead bs (lead b)) refl
  where
    go : (t : Bool) → is_lead bs (lead b) ≡ t → t ≡ false
    go false e = refl
    go true e =
        let c = is_lead-at bs (lead b) e in
        let a = r.1 c.0 c.1 in
        absurd (omega (arith, c.2, lead-rise b c.0 r.0 a.rises a.lower))

pub canonical-length : (n : ℕ) (bs : List ℕ) → Reduced bs → ((c : ℕ) → Mem c bs → c < 2 ^ n) → length (canonical_places n bs) ≡ length bs
canonical-length n [] r h = leads-none n
canonical-length n (b ∷ bs) r h =
    leads-under b bs n (lead-fits n b r.0 (h b (inl refl))) (first-lead b bs r) ∙ ap suc (canonical-length n bs r.2 (λ c m. h c (inr m)))

pub noncanonical-length : (n : ℕ) (bs : List ℕ) → Reduced bs → ((c : ℕ) → Mem c bs → c < 2 ^ n) → length (noncanonical_places n bs) + length bs ≡ n
noncanonical-length n bs r h = omega (arith, places_count (is_lead bs) n, canonical-length n bs r h)

-- ---- the lead of a vector of the space is canonical

pub span-is_lead : (bs : List ℕ) → Reduced bs → (v : ℕ) → 0 < v → Span bs v → is_lead bs (lead v) ≡ true
unfolding is_lead
span-is_lead [] r v p s = absurd (omega arith)
span-is_lead (b ∷ bs) r v p (inl s) = or_r (eqb (lead b) (lead v)) (is_lead bs (lead v)) (span-is_lead bs r.2 v p s)
span-is_lead (b ∷ bs) r v p (inr s) = go (ℕ_discrete (v ⊕ b) 0) (span-is_lead bs r.2 (v ⊕ b))
  where
    go : Dec (v ⊕ b ≡ 0) → (0 < v ⊕ b → Span bs (v ⊕ b) → is_lead bs (lead (v ⊕ b)) ≡ true) → eqb (lead b) (lead v) || is_lead bs (lead v) ≡ true
    go (yes e) f = or_l (eqb (lead b) (lead v)) (is_lead bs (lead v)) (eq-eqb (lead b) (lead v) (ap lead (sym (xor-eq v b e))))
    go (no n) f =
        let q = pos_of_ne-zero n in
        let t = f q s in
        let c = is_lead-at bs (lead (v ⊕ b)) t in
        let a = r.1 c.0 c.1 in
        let h : lead b < lead (v ⊕ b) = omega (arith, c.2, lead-rise b c.0 r.0 a.rises a.lower) in
        let e : lead v ≡ lead (v ⊕ b) = ap lead (sym (xor-cancel v b)) ∙ lead-xor-higher b (v ⊕ b) q h in
        or_r (eqb (lead b) (lead v)) (is_lead bs (lead v)) (rw e t)

-- ---- the leads as one mask

pub bit-lead_mask : (bs : List ℕ) → Reduced bs → (k : ℕ) → bit k (lead_mask bs) ≡ is_lead bs k
unfolding lead_mask is_lead
bit-lead_mask [] r k = bit-zero k
bit-lead_mask (b ∷ bs) r k = bit-xor k (2 ^ lead b) (lead_mask bs) ∙ ap₂ ◌⊻◌ (bit-pow (lead b) k) (bit-lead_mask bs r.2 k) ∙ go (eqb (lead b) k) refl
  where
    go : (t : Bool) → eqb (lead b) k ≡ t → t ⊻ is_lead bs k ≡ t || is_lead bs k
    go true e = rw (← (eqb-true (lead b) k e), first-lead b bs r)
    go false e = refl
