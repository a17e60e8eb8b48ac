-- The reduced basis of a space given by a test on the points below 2 ^ n: it is reduced, it spans the space, and insertion of the space's
-- vectors one at a time gives the same list. Read next: Cubes.
use mathlib.Core.Path.{◌≡◌, refl, sym, ap, ◌∙◌, subst, ap₂}
use mathlib.Core.Bool.{Bool, true, false, not, ◌&&◌}
use mathlib.Core.Logic.{◌⊎◌, inl, inr, ◌↔◌}
use mathlib.Core.List.{List, [], ◌∷◌, ◌++◌}
use Prim.Native.Nat.{ℕ, zero, suc, ◌+◌, ◌^◌, ◌≤◌, ◌<◌}
use native.Mathlib.Nat.{eq-zero-or-pos, lt_of_not-le}
use native.Mathlib.Numerals.{add-one}
use native.Mathlib.Decide.{dec_le, ℕ_discrete}
use native.Mathlib.Omega.{arith}
use lib.Dec.{ltb}
use lib.ListN.{length, length-append}
use lib.Pow.{pow_pos, pow-lt, pow_mono}
use borrow.Author.Tests.{ltb-true, lt-ltb, not-true, not-false}
use Rattle.gf2.specs.Bits.{◌⊕◌, bit, lead, has_lead}
use Rattle.gf2.specs.Finite.{Mem, all, select, First, In}
use Rattle.gf2.specs.Span.{Span, Space}
use Rattle.gf2.specs.Basis.{LeadsApart, Reduced, inserts, units, reduces, irreducible, reduced_basis}
use Rattle.gf2.proofs.Logic.{clash, and_l, and_r, and_i, and-false, cond_cases}
use Rattle.gf2.proofs.Finite.{all-at, all_of, all-not, below-ind, mem-snoc, snoc-mem, select-mem, mem-select, select-on, select-skip, all-ext, select-ext}
use Rattle.gf2.proofs.Xor.{xor-cancel, xor_above, bit-pow-other}
use Rattle.gf2.proofs.Leads.{has_lead-lt, has_lead-self, lead-of, lead-eq, lead-highest, lead-pow, lead-fits}
use Rattle.gf2.proofs.Span.{span-zero, span-xor, span-mem, span-least, span_below}
use Rattle.gf2.proofs.Reduce.{apart}
use Rattle.gf2.proofs.Unique.{unique}
use Rattle.gf2.proofs.Insert.{inserts-basis}

-- A vector above the others of a reduced basis and without their lead bits may stand behind them.
pub snoc-reduced : (bs : List ℕ) (v : ℕ) → 0 < v → ((b : ℕ) → Mem b bs → (b < v) × (has_lead b v ≡ false)) → Reduced bs → Reduced (bs ++ (v ∷ []))
snoc-reduced [] v p h r = (p, λ c m. absurd m, tt)
snoc-reduced (b ∷ bs) v p h r = (r.0, λ c m. go c (mem-snoc c bs v m), snoc-reduced bs v p (λ d m. h d (inr m)) r.2)
  where
    go : (c : ℕ) → Mem c bs ⊎ (c ≡ v) → LeadsApart b c
    go c (inl m) = r.1 c m
    go c (inr e) = let k = h b (inl refl) in rw e (apart b v r.0 k.0 k.1)

-- ---- what it is to be irreducible

irreducible-in : (P : ℕ → Bool) (v : ℕ) → irreducible P v ≡ true → P v ≡ true
unfolding irreducible
irreducible-in P v e = and_l (P v) (ltb 0 v && all (λ u. not (reduces P v u)) v) e

irreducible-pos : (P : ℕ → Bool) (v : ℕ) → irreducible P v ≡ true → 0 < v
unfolding irreducible
irreducible-pos P v e = ltb-true 0 v (and_l (ltb 0 v) (all (λ u. not (reduces P v u)) v) (and_r (P v) (ltb 0 v && all (λ u. not (reduces P v u)) v) e))

irreducible-lead : (P : ℕ → Bool) (v : ℕ) → irreducible P v ≡ true → (u : ℕ) → u < v → 0 < u → P u ≡ true → has_lead u v ≡ false
unfolding irreducible reduces
irreducible-lead P v e u h p q =
    let a : all (λ w. not (reduces P v w)) v ≡ true = and_r (ltb 0 v) (all (λ u. not (reduces P v u)) v) (and_r (P v) (ltb 0 v && all (λ u. not (reduces P v u)) v) e) in
    simp (q, lt-ltb 0 u p) at (not-true (reduces P v u) (all-at (λ w. not (reduces P v w)) v a u h))

-- A vector of the set that is neither irreducible nor 0 is the XOR of two smaller ones.
reducible : (P : ℕ → Bool) (v : ℕ) → P v ≡ true → 0 < v → irreducible P v ≡ false → (u : ℕ) × (u < v) × (P u ≡ true) × (v ⊕ u < v)
unfolding irreducible reduces
reducible P v p q e =
    let k = all-not (λ u. not (reduces P v u)) v (rw (p, lt-ltb 0 v q) at e) in
    let h = not-false (reduces P v k.0) k.2 in
    let t = and_r (P k.0) (ltb 0 k.0 && has_lead k.0 v) h in (
      k.0,
      k.1,
      and_l (P k.0) (ltb 0 k.0 && has_lead k.0 v) h,
      has_lead-lt k.0 v (ltb-true 0 k.0 (and_l (ltb 0 k.0) (has_lead k.0 v) t)) (and_r (ltb 0 k.0) (has_lead k.0 v) t),
    )

-- ---- the reduced basis

below-reduced : (P : ℕ → Bool) (k : ℕ) → Reduced (select (irreducible P) k)
unfolding select
below-reduced P zero = tt
below-reduced P (suc k) = cond_cases Reduced (irreducible P k) (select (irreducible P) k ++ (k ∷ [])) (select (irreducible P) k)
    (λ e. snoc-reduced (select (irreducible P) k) k (irreducible-pos P k e) (λ b m. let h = select-mem (irreducible P) k b m in
    (h.0, irreducible-lead P k e b h.0 (irreducible-pos P b h.1) (irreducible-in P b h.1))) (below-reduced P k)) (λ e. below-reduced P k)

-- Reduced, whatever the test.
pub basis-reduced : (n : ℕ) (P : ℕ → Bool) → Reduced (reduced_basis n P)
unfolding reduced_basis
basis-reduced n P = below-reduced P (2 ^ n)

pub basis-below : (n : ℕ) (P : ℕ → Bool) (b : ℕ) → Mem b (reduced_basis n P) → b < 2 ^ n
unfolding reduced_basis
basis-below n P b m = (select-mem (irreducible P) (2 ^ n) b m).0

-- Of a space, it spans the space.
pub basis-span : (n : ℕ) (P : ℕ → Bool) → Space (In n P) → (x : ℕ) → Span (reduced_basis n P) x ↔ In n P x
unfolding reduced_basis
basis-span n P s x = (
  span-least (In n P) s (reduced_basis n P) (λ b m. let h = select-mem (irreducible P) (2 ^ n) b m in (h.0, irreducible-in P b h.1)) x,
  λ i. below-ind (λ (y : ℕ). In n P y → Span (reduced_basis n P) y) step x i,
)
  where
    bs : List ℕ
    bs = reduced_basis n P

    step : (y : ℕ) → ((m : ℕ) → m < y → In n P m → Span bs m) → In n P y → Span bs y
    step y ih i = go (eq-zero-or-pos y) (irreducible P y) refl
      where
        go : (y ≡ 0) ⊎ (0 < y) → (t : Bool) → irreducible P y ≡ t → Span bs y
        go (inl e) t q = rw e (span-zero bs)
        go (inr p) true q = span-mem bs y (mem-select (irreducible P) (2 ^ n) y i.0 q)
        go (inr p) false q =
            let k = reducible P y i.1 p q in
            let iu : In n P k.0 = (omega (arith, k.1, i.0), k.2) in
            subst (Span bs) (xor-cancel y k.0) (span-xor bs (y ⊕ k.0) k.0 (ih (y ⊕ k.0) k.3 (s.sums y k.0 i iu)) (ih k.0 k.1 iu))

-- So it is the only reduced list that does.
pub basis-unique : (n : ℕ) (P : ℕ → Bool) → Space (In n P) → (bs : List ℕ) → Reduced bs → ((x : ℕ) → Span bs x ↔ In n P x) → bs ≡ reduced_basis n P
basis-unique n P s bs r h = unique bs (reduced_basis n P) r (basis-reduced n P)
    (λ x p. (basis-span n P s x).1 ((h x).0 p)) (λ x p. (h x).1 ((basis-span n P s x).0 p))

-- And it is what insertion gives, of any vectors whose span is the space, in any order.
pub basis-inserts : (n : ℕ) (P : ℕ → Bool) → Space (In n P) → (vs : List ℕ) → ((x : ℕ) → Span vs x ↔ In n P x) → inserts [] vs ≡ reduced_basis n P
basis-inserts n P s vs h = inserts-basis vs (reduced_basis n P) (basis-reduced n P)
    (λ x. (λ p. (h x).1 ((basis-span n P s x).0 p), λ p. (basis-span n P s x).1 ((h x).0 p)))

-- In particular of all its vectors.
pub basis-select : (n : ℕ) (P : ℕ → Bool) → Space (In n P) → inserts [] (select P (2 ^ n)) ≡ reduced_basis n P
basis-select n P s = basis-inserts n P s (select P (2 ^ n)) (λ x. (
  span-least (In n P) s (select P (2 ^ n)) (select-mem P (2 ^ n)) x,
  λ i. span-mem (select P (2 ^ n)) x (mem-select P (2 ^ n) x i.0 i.1),
))

irreducible-ext : (P Q : ℕ → Bool) (v : ℕ) → P v ≡ Q v → ((x : ℕ) → x < v → P x ≡ Q x) → irreducible P v ≡ irreducible Q v
unfolding irreducible reduces
irreducible-ext P Q v e h =
    ap₂ (λ s t. s && (ltb 0 v && t)) e
    (all-ext (λ u. not (reduces P v u)) (λ u. not (reduces Q v u)) v (λ u l. ap (λ t. not (t && (ltb 0 u && has_lead u v))) (h u l)))

-- Tests that give the same vectors of n variables give the same reduced basis.
pub basis-ext : (n : ℕ) (P Q : ℕ → Bool) → ((x : ℕ) → x < 2 ^ n → P x ≡ Q x) → reduced_basis n P ≡ reduced_basis n Q
unfolding reduced_basis
basis-ext n P Q h = select-ext (irreducible P) (irreducible Q) (2 ^ n) (λ v l. irreducible-ext P Q v (h v l) (λ x m. h x (omega arith)))

-- ---- the reduced basis of a space read off place by place: for each place the least vector of the space with its lead there

-- No vector is below 1 but 0.
pub basis-none : (P : ℕ → Bool) → reduced_basis 0 P ≡ []
unfolding reduced_basis select irreducible
basis-none P = rw (and-false (P 0))

module _ (n : ℕ) (P : ℕ → Bool) (s : Space (In n P)) (k : ℕ) (fits : k < n) (v : ℕ) (first : First P (2 ^ k) (2 ^ suc k) v) where
  -- A vector that is not in the set is not irreducible.
  not_in : (x : ℕ) → P x ≡ false → irreducible P x ≡ false
  unfolding irreducible
  not_in x e = rw e

  module _ (below : v < 2 ^ suc k) where
    inside : In n P v
    inside = (omega (arith, pow_mono fits), first.passes below)

    -- The least vector with its lead at a place is irreducible: a smaller vector with its lead there would be its XOR with the one that reduces it.
    least-irreducible : irreducible P v ≡ true
    unfolding irreducible reduces
    least-irreducible = and_i (P v) (ltb 0 v && all (λ u. not (reduces P v u)) v) inside.1
        (and_i (ltb 0 v) (all (λ u. not (reduces P v u)) v) (lt-ltb 0 v (omega (arith, pow_pos k, first.from)))
        (all_of (λ u. not (reduces P v u)) v (λ u l. go u l (reduces P v u) refl)))
      where
        go : (u : ℕ) → u < v → (t : Bool) → reduces P v u ≡ t → not t ≡ true
        go u l false e = refl
        go u l true e =
            let q = and_l (P u) (ltb 0 u && has_lead u v) e in
            let r = and_r (P u) (ltb 0 u && has_lead u v) e in
            let p = ltb-true 0 u (and_l (ltb 0 u) (has_lead u v) r) in
            let falls = has_lead-lt u v p (and_r (ltb 0 u) (has_lead u v) r) in
            elim (dec_le (2 ^ k) u) [
              | yes i ↦ clash q (first.before u i l)
              | no i ↦ clash (s.sums v u inside (omega (arith, l, inside.0), q)).1 (first.before (v ⊕ u) (xor_above k v u first.from (lt_of_not-le i)) falls)
            ]

    -- It reduces every larger vector with its lead at that place.
    larger-reducible : (x : ℕ) → suc v ≤ x → x < 2 ^ suc k → irreducible P x ≡ false
    larger-reducible x l h = go (irreducible P x) refl
      where
        go : (t : Bool) → irreducible P x ≡ t → t ≡ false
        go false e = refl
        go true e =
            let at : lead v ≡ lead x = lead-eq k v (lead-of k v first.from below) ∙ sym (lead-eq k x (lead-of k x (omega (arith, first.from)) h)) in
            clash (ap (λ (j : ℕ). bit j x) at ∙ has_lead-self x (omega (arith, l)))
            (irreducible-lead P x e v l (omega (arith, pow_pos k, first.from)) inside.1)

    pub basis-more : reduced_basis (suc k) P ≡ reduced_basis k P ++ (v ∷ [])
    unfolding reduced_basis
    basis-more =
        select-skip (irreducible P) (suc v) (2 ^ suc k) below larger-reducible
        ∙ select-on (irreducible P) v least-irreducible
        ∙ ap (λ l. l ++ (v ∷ [])) (select-skip (irreducible P) (2 ^ k) v first.from (λ x i l. not_in x (first.before x i l)))

  -- Where no vector of the space has its lead at a place, none comes in.
  pub basis-same : 2 ^ suc k ≤ v → reduced_basis (suc k) P ≡ reduced_basis k P
  unfolding reduced_basis
  basis-same none = select-skip (irreducible P) (2 ^ k) (2 ^ suc k) (omega arith) (λ x i l. not_in x (first.before x i (omega (arith, none, l))))

-- ---- the full basis

pub units-mem : (n b : ℕ) → Mem b (units n) → (k : ℕ) × (k < n) × (b ≡ 2 ^ k)
unfolding units
units-mem zero b m = absurd m
units-mem (suc n) b m = go (mem-snoc b (units n) (2 ^ n) m) (units-mem n b)
  where
    go : Mem b (units n) ⊎ (b ≡ 2 ^ n) → (Mem b (units n) → (k : ℕ) × (k < n) × (b ≡ 2 ^ k)) → (k : ℕ) × (k < suc n) × (b ≡ 2 ^ k)
    go (inl i) f = let h = f i in (h.0, omega (arith, h.1), h.2)
    go (inr e) f = (n, omega arith, e)

pub mem-units : (n k : ℕ) → k < n → Mem (2 ^ k) (units n)
unfolding units
mem-units zero k h = absurd (omega arith)
mem-units (suc n) k h = go (ℕ_discrete k n) (mem-units n k)
  where
    go : Dec (k ≡ n) → (k < n → Mem (2 ^ k) (units n)) → Mem (2 ^ k) (units n ++ (2 ^ n ∷ []))
    go (yes e) f = snoc-mem (2 ^ k) (units n) (2 ^ n) (inr (ap (λ (j : ℕ). 2 ^ j) e))
    go (no e) f = snoc-mem (2 ^ k) (units n) (2 ^ n) (inl (f (omega arith)))

pub units-below : (n b : ℕ) → Mem b (units n) → b < 2 ^ n
units-below n b m = let h = units-mem n b m in rw h.2 (pow-lt h.1)

pub units-reduced : (n : ℕ) → Reduced (units n)
unfolding units
units-reduced zero = tt
units-reduced (suc n) = snoc-reduced (units n) (2 ^ n) (pow_pos n) (λ b m. (units-below n b m, other b (units-mem n b m))) (units-reduced n)
  where
    other : (b : ℕ) → (k : ℕ) × (k < n) × (b ≡ 2 ^ k) → has_lead b (2 ^ n) ≡ false
    other b h = rw (h.2, lead-pow h.0) (bit-pow-other n h.0 (λ e. omega (arith, h.1, e)))

-- It spans all points of n variables.
pub units-span : (n x : ℕ) → Span (units n) x ↔ (x < 2 ^ n)
units-span n x = (span_below n (units n) (units-below n) x, below-ind (λ (y : ℕ). y < 2 ^ n → Span (units n) y) step x)
  where
    step : (y : ℕ) → ((m : ℕ) → m < y → m < 2 ^ n → Span (units n) m) → y < 2 ^ n → Span (units n) y
    step y ih h = go (eq-zero-or-pos y)
      where
        go : (y ≡ 0) ⊎ (0 < y) → Span (units n) y
        go (inl e) = rw e (span-zero (units n))
        go (inr p) =
            let k = lead y in
            let falls = has_lead-lt (2 ^ k) y (pow_pos k) (rw (lead-pow k) (lead-highest y p).set) in
            subst (Span (units n)) (xor-cancel y (2 ^ k)) (span-xor (units n) (y ⊕ 2 ^ k) (2 ^ k) (ih (y ⊕ 2 ^ k) falls (omega arith))
            (span-mem (units n) (2 ^ k) (mem-units n k (lead-fits n y p h))))

-- So it is what insertion gives of all vectors below 2 ^ n.
pub units-inserts : (f : ℕ → Bool) (n : ℕ) → ((x : ℕ) → x < 2 ^ n → f x ≡ true) → inserts [] (select f (2 ^ n)) ≡ units n
units-inserts f n h = inserts-basis (select f (2 ^ n)) (units n) (units-reduced n) (λ x. (
  λ p. let l = (units-span n x).0 p in span-mem (select f (2 ^ n)) x (mem-select f (2 ^ n) x l (h x l)),
  λ p. (units-span n x).1 (span_below n (select f (2 ^ n)) (λ b m. (select-mem f (2 ^ n) b m).0) x p),
))

pub units-length : (n : ℕ) → length (units n) ≡ n
unfolding units
units-length zero = refl
units-length (suc n) = length-append (units n) (2 ^ n ∷ []) ∙ ap (λ (k : ℕ). k + 1) (units-length n) ∙ add-one n
