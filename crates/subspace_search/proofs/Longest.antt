-- Laws of specs.Search: what the search finds is the first of the longest reduced bases whose span lies in the set, and that is the largest space.
-- Read next: Steps.
use mathlib.Core.Path.{◌≡◌, refl, sym, ap₂, subst}
use mathlib.Core.Bool.{Bool, true, false, not, cond, ◌&&◌}
use mathlib.Core.Logic.{inl, inr, ◌≢◌}
use mathlib.Core.List.{List, [], ◌∷◌}
use Prim.Native.Nat.{ℕ, zero, suc, ◌+◌, ◌^◌, ◌≤◌, ◌<◌}
use native.Mathlib.Nat.{le_refl, lt_of_not-le, lt-suc_self, le_of_suc-le-suc, ne_of_gt}
use native.Mathlib.Decide.{dec_le, ℕ_discrete}
use native.Mathlib.Omega.{arith}
use lib.ListN.{length}
use lib.Dec.{ltb}
use lib.Pow.{pow_pos}
use lib.Bits.{xor_lt}
use borrow.Author.Tests.{ltb-true, ltb-false, lt-ltb, not-true}
use Rattle.gf2.specs.Bits.{◌⊕◌, lead, has_lead}
use Rattle.gf2.specs.Finite.{Mem, In, select}
use Rattle.gf2.specs.Span.{Span}
use Rattle.gf2.specs.Basis.{Reduced}
use Rattle.gf2.proofs.Logic.{clash, and_l, and_r, and_i, cond_cases}
use Rattle.gf2.proofs.Finite.{select-mem, mem-select, select-rising}
use Rattle.gf2.proofs.Xor.{xor-cancel, xor-eq}
use Rattle.gf2.proofs.Leads.{has_lead-self, lead-mono, lead-rise, lead-fits}
use Rattle.gf2.proofs.Span.{span-mem}
use Rattle.gf2.proofs.Reduce.{apart, span-lead, reduced-pos, reduced-length, lead-room}
use Rattle.gf2.proofs.Unique.{first-least}
use Rattle.cubes.specs.Candidates.{Lexicographic}
use Rattle.subspaces.specs.Spaces.{LiesIn, NoLater, largest}
use Rattle.subspaces.proofs.Spaces.{length_none, largest-is, largest-one}
use Rattle.subspace_search.specs.Search.{narrowed, longer, longest_below, longest}

-- ---- the bases that the search is about

-- A reduced basis of which every sum but 0 is a vector of n variables in the set.
abbrev pub Passes : ℕ → (ℕ → Bool) → List ℕ → Type 0
Passes n set bs = Reduced bs × ((x : ℕ) → Span bs x → x ≢ 0 → In n set x)

pub passes-below : (n : ℕ) (set : ℕ → Bool) (bs : List ℕ) → Passes n set bs → (c : ℕ) → Mem c bs → c < 2 ^ n
passes-below n set bs p c m = (p.1 c (span-mem bs c m) (ne_of_gt (reduced-pos bs p.0 c m))).0

-- What it is to follow b.
pub record Follows (set : ℕ → Bool) (b c : ℕ) : Type 0 where
  pub held : set c ≡ true
  pub sum : set (c ⊕ b) ≡ true
  pub above : b < c
  pub apart : has_lead b c ≡ false

pub follows_is : (set : ℕ → Bool) (b c : ℕ) → narrowed set b c ≡ true → Follows set b c
unfolding narrowed
follows_is set b c e =
    let r = and_r (set c) (set (c ⊕ b) && (ltb b c && not (has_lead b c))) e in
    let s = and_r (set (c ⊕ b)) (ltb b c && not (has_lead b c)) r in
    record {
      held = and_l (set c) (set (c ⊕ b) && (ltb b c && not (has_lead b c))) e;
      sum = and_l (set (c ⊕ b)) (ltb b c && not (has_lead b c)) r;
      above = ltb-true b c (and_l (ltb b c) (not (has_lead b c)) s);
      apart = not-true (has_lead b c) (and_r (ltb b c) (not (has_lead b c)) s);
    }

-- A vector b of the set and a basis of vectors that may follow it are a basis.
pub passes-cons : (n : ℕ) (set : ℕ → Bool) (b : ℕ) (bs : List ℕ) → 0 < b → b < 2 ^ n → set b ≡ true → Passes n (narrowed set b) bs → Passes n set (b ∷ bs)
passes-cons n set b bs p l q h = ((p, (λ c m. let k = each c m in apart b c p k.above k.apart), h.0), whole)
  where
    each : (c : ℕ) → Mem c bs → Follows set b c
    each c m = follows_is set b c (h.1 c (span-mem bs c m) (ne_of_gt (reduced-pos bs h.0 c m))).1

    plus : (x : ℕ) → Span bs (x ⊕ b) → Dec (x ⊕ b ≡ 0) → In n set x
    plus x s (yes e) = subst (In n set) (sym (xor-eq x b e)) (l, q)
    plus x s (no e) =
        let i = h.1 (x ⊕ b) s e in
        subst (In n set) (xor-cancel x b) (xor_lt n (x ⊕ b) b i.0 l, (follows_is set b (x ⊕ b) i.1).sum)

    whole : (x : ℕ) → Span (b ∷ bs) x → x ≢ 0 → In n set x
    whole x (inl s) z = let i = h.1 x s z in (i.0, (follows_is set b x i.1).held)
    whole x (inr s) z = plus x s (ℕ_discrete (x ⊕ b) 0)

-- And every basis is so: its first vector, and vectors that may follow it.
pub record Begins (n : ℕ) (set : ℕ → Bool) (b : ℕ) (bs : List ℕ) : Type 0 where
  pub some : 0 < b
  pub below : b < 2 ^ n
  pub held : set b ≡ true
  pub rest : Passes n (narrowed set b) bs

pub passes-begins : (n : ℕ) (set : ℕ → Bool) (b : ℕ) (bs : List ℕ) → Passes n set (b ∷ bs) → Begins n set b bs
unfolding narrowed
passes-begins n set b bs h =
    let i = h.1 b (span-mem (b ∷ bs) b (inl refl)) (ne_of_gt h.0.0) in
    record {
      some = h.0.0;
      below = i.0;
      held = i.1;
      rest = (
        h.0.2,
        λ x s z. let j = h.1 x (inl s) z in
            (j.0, rw (j.1, (plus x s z).1, lt-ltb b x (above bs x h.0 s z), span-lead b bs h.0 x s)),
      );
    }
  where
    above : (bs : List ℕ) (x : ℕ) → Reduced (b ∷ bs) → Span bs x → x ≢ 0 → b < x
    above [] x r s z = absurd (z s)
    above (c ∷ cs) x r s z = omega (arith, (r.1 c (inl refl)).rises, first-least c cs r.2 x s z)

    other : (x : ℕ) → Span bs x → x ≡ b → ⊥
    other x s e = clash (has_lead-self b h.0.0) (subst (λ (y : ℕ). has_lead b y ≡ false) e (span-lead b bs h.0 x s))

    plus : (x : ℕ) → Span bs x → x ≢ 0 → In n set (x ⊕ b)
    plus x s z = h.1 (x ⊕ b) (inr (rw (xor-cancel x b) s)) (λ e. other x s (xor-eq x b e))

-- A basis that begins with b has at most n - lead b vectors.
pub passes-length : (n : ℕ) (set : ℕ → Bool) (b : ℕ) (bs : List ℕ) → Passes n set (b ∷ bs) → length (b ∷ bs) + lead b ≤ n
passes-length n set b bs p = lead-room n (lead b) (b ∷ bs) (omega (arith, fits)) p.0 (λ c m. (passes-below n set (b ∷ bs) p c m, higher c m))
  where
    higher : (c : ℕ) → Mem c (b ∷ bs) → lead b ≤ lead c
    higher c (inl e) = rw e (le_refl (lead b))
    higher c (inr m) = omega (arith, lead-rise b c p.0.0 (p.0.1 c m).rises (p.0.1 c m).lower)

    fits : lead b < n
    fits = lead-fits n b p.0.0 (passes-below n set (b ∷ bs) p b (inl refl))

-- Where the set has no vector below k, a basis inside it has at most n - lead k vectors, and none at all where k is 2 ^ n or more.
module _ (n : ℕ) (set : ℕ → Bool) (k : ℕ) (none : (x : ℕ) → 1 ≤ x → x < k → set x ≡ false) where
  first-from : (c : ℕ) (cs : List ℕ) → Passes n set (c ∷ cs) → k ≤ c
  first-from c cs p = let b = passes-begins n set c cs p in
      elim (dec_le k c) [ yes h ↦ h | no h ↦ absurd (clash b.held (none c b.some (lt_of_not-le h))) ]

  pub passes_none : 2 ^ n ≤ k → (bs : List ℕ) → Passes n set bs → length bs ≡ 0
  passes_none h [] p = refl
  passes_none h (c ∷ cs) p = absurd (omega (arith, first-from c cs p, (passes-begins n set c cs p).below))

  pub passes-reach : 0 < k → lead k ≤ n → (bs : List ℕ) → Passes n set bs → length bs + lead k ≤ n
  passes-reach z l [] p = omega arith
  passes-reach z l (c ∷ cs) p = omega (arith, passes-length n set c cs p, lead-mono k c z (first-from c cs p))

-- ---- what is found is such a basis

-- A basis that begins with a vector below k, or the empty one.
abbrev PassesBelow : ℕ → (ℕ → Bool) → ℕ → List ℕ → Type 0
PassesBelow n set k [] = Unit {0}
PassesBelow n set k (c ∷ cs) = (c < k) × Passes n set (c ∷ cs)

below-passes : (n : ℕ) (set : ℕ → Bool) (k : ℕ) (cs : List ℕ) → PassesBelow n set k cs → Passes n set cs
below-passes n set k [] h = (tt, λ x e z. absurd (z e))
below-passes n set k (c ∷ cs) h = h.1

below_more : (n : ℕ) (set : ℕ → Bool) (k : ℕ) (cs : List ℕ) → PassesBelow n set k cs → PassesBelow n set (suc k) cs
below_more n set k [] h = tt
below_more n set k (c ∷ cs) h = (omega (arith, h.0), h.1)

-- g gives a basis of the vectors that may follow.
abbrev Continues : ℕ → ((ℕ → Bool) → List ℕ) → (ℕ → Bool) → Type 0
Continues n g set = (b : ℕ) → Passes n (narrowed set b) (g (narrowed set b))

-- The vector k, which is not 0 and in the set, and what g gives for it.
pub begun-passes : (n : ℕ) (g : (ℕ → Bool) → List ℕ) (set : ℕ → Bool) → Continues n g set → (k : ℕ) → k < 2 ^ n → (ltb 0 k && set k) ≡ true
    → Passes n set (k ∷ g (narrowed set k))
begun-passes n g set h k l e =
    passes-cons n set k (g (narrowed set k)) (ltb-true 0 k (and_l (ltb 0 k) (set k) e)) l (and_r (ltb 0 k) (set k) e) (h k)

longest_below-passes : (n : ℕ) (g : (ℕ → Bool) → List ℕ) (set : ℕ → Bool) → Continues n g set → (k : ℕ) → k ≤ 2 ^ n → PassesBelow n set k (longest_below g set k)
unfolding longest_below longer
longest_below-passes n g set h zero l = tt
longest_below-passes n g set h (suc k) l =
    let found = longest_below g set k in
    let begun = k ∷ g (narrowed set k) in
    let more = below_more n set k found (longest_below-passes n g set h k (omega arith)) in
    cond_cases (PassesBelow n set (suc k)) (ltb 0 k && set k) (cond (ltb (length found) (length begun)) begun found) found
    (λ e. cond_cases (PassesBelow n set (suc k)) (ltb (length found) (length begun)) begun found
    (λ t. (lt-suc_self k, begun-passes n g set h k l e)) (λ t. more)) (λ e. more)

pub longest-passes : (n d : ℕ) (set : ℕ → Bool) → Passes n set (longest n d set)
unfolding longest
longest-passes n zero set = (tt, λ x e z. absurd (z e))
longest-passes n (suc d) set = below-passes n set (2 ^ n) (longest_below (longest n d) set (2 ^ n))
    (longest_below-passes n (longest n d) set (λ b. longest-passes n d (narrowed set b)) (2 ^ n) (le_refl (2 ^ n)))

-- ---- and none is longer, nor earlier of the same length

-- Of the lists of the kind that K says, bs is the first of the longest.
abbrev Best : (List ℕ → Type 0) → List ℕ → Type 0
Best K bs = (cs : List ℕ) → K cs → NoLater bs cs

-- A list that begins below k comes before one of the same length that begins with k.
earlier : (n : ℕ) (set : ℕ → Bool) (k : ℕ) (bs cs : List ℕ) → PassesBelow n set k bs → length (k ∷ cs) ≡ length bs → Lexicographic bs (k ∷ cs)
earlier n set k [] cs h e = absurd (omega arith)
earlier n set k (b ∷ bs) cs h e = inl h.0

module _ (n : ℕ) (g : (ℕ → Bool) → List ℕ) (set : ℕ → Bool) (h : Continues n g set)
    (ends : (b : ℕ) → 0 < b → b < 2 ^ n → set b ≡ true → Best (Passes n (narrowed set b)) (g (narrowed set b))) where
  -- One first vector more, which isn't in the set; or which is, and what begins with it is longer than all found, or isn't.
  module _ (k : ℕ) (l : k < 2 ^ n) (bs : List ℕ) (i : PassesBelow n set k bs) (f : Best (PassesBelow n set k) bs) where
    abbrev rest : List ℕ
    rest = g (narrowed set k)

    without : (ltb 0 k && set k) ≡ false → Best (PassesBelow n set (suc k)) bs
    without e [] p = f [] p
    without e (c ∷ cs) p = f (c ∷ cs) (omega (arith, p.0, other), p.1)
      where
        other : c ≢ k
        other q =
            let t = passes-begins n set c cs p.1 in
            clash (rw (← q) (and_i (ltb 0 c) (set c) (lt-ltb 0 c t.some) t.held)) e

    -- A basis that begins with k.
    module _ (e : (ltb 0 k && set k) ≡ true) where
      with-k : (c : ℕ) (cs : List ℕ) → c ≡ k → Passes n set (c ∷ cs) → NoLater rest cs
      with-k c cs q p =
          ends k (ltb-true 0 k (and_l (ltb 0 k) (set k) e)) l (and_r (ltb 0 k) (set k) e) cs
          (subst (λ (z : ℕ). Passes n (narrowed set z) cs) q (passes-begins n set c cs p).rest)

      new : length bs < length (k ∷ rest) → Best (PassesBelow n set (suc k)) (k ∷ rest)
      new lt [] p = (omega arith, λ z. absurd (omega arith))
      new lt (c ∷ cs) p = go (ℕ_discrete c k)
        where
          go : Dec (c ≡ k) → NoLater (k ∷ rest) (c ∷ cs)
          go (yes q) =
              let w = with-k c cs q p.1 in
              (omega (arith, w.0), λ z. elim (w.1 (omega arith)) [ inl u ↦ inl (ap₂ ◌∷◌ (sym q) u) | inr u ↦ inr (inr (sym q, u)) ])
          go (no q) = let w = f (c ∷ cs) (omega (arith, p.0), p.1) in (omega (arith, w.0), λ z. absurd (omega (arith, w.0)))

      old : length (k ∷ rest) ≤ length bs → Best (PassesBelow n set (suc k)) bs
      old ge [] p = f [] p
      old ge (c ∷ cs) p = go (ℕ_discrete c k)
        where
          go : Dec (c ≡ k) → NoLater bs (c ∷ cs)
          go (yes q) = (omega (arith, (with-k c cs q p.1).0), λ z. inr (rw q (earlier n set k bs cs i z)))
          go (no q) = f (c ∷ cs) (omega (arith, p.0), p.1)

    step : Best (PassesBelow n set (suc k)) (cond (ltb 0 k && set k) (longer bs (k ∷ rest)) bs)
    unfolding longer
    step = cond_cases (Best (PassesBelow n set (suc k))) (ltb 0 k && set k) (cond (ltb (length bs) (length (k ∷ rest))) (k ∷ rest) bs) bs
        (λ e. cond_cases (Best (PassesBelow n set (suc k))) (ltb (length bs) (length (k ∷ rest))) (k ∷ rest) bs
        (λ t. new e (ltb-true (length bs) (length (k ∷ rest)) t)) (λ t. old e (ltb-false (length bs) (length (k ∷ rest)) t))) without

  longest_below-best : (k : ℕ) → k ≤ 2 ^ n → Best (PassesBelow n set k) (longest_below g set k)
  unfolding longest_below
  longest_below-best zero l [] p = (le_refl 0, λ e. inl refl)
  longest_below-best zero l (c ∷ cs) p = absurd (omega (arith, p.0))
  longest_below-best (suc k) l cs p =
      step k l (longest_below g set k) (longest_below-passes n g set h k (omega arith)) (longest_below-best k (omega arith)) cs p

-- To a depth that no basis exceeds.
longest-best : (n d : ℕ) (set : ℕ → Bool) → ((cs : List ℕ) → Passes n set cs → length cs ≤ d) → Best (Passes n set) (longest n d set)
unfolding longest
longest-best n zero set few cs p = (few cs p, λ e. inl (length_none cs e))
longest-best n (suc d) set few cs p =
    longest_below-best n (longest n d) set (λ b. longest-passes n d (narrowed set b))
    (λ b z l q. longest-best n d (narrowed set b) (λ cs i. le_of_suc-le-suc (few (b ∷ cs) (passes-cons n set b cs z l q i))))
    (2 ^ n) (le_refl (2 ^ n)) cs (starts cs p)
  where
    starts : (cs : List ℕ) → Passes n set cs → PassesBelow n set (2 ^ n) cs
    starts [] p = tt
    starts (c ∷ cs) p = ((passes-begins n set c cs p).below, p)

-- ---- so the search finds the largest space inside a set that holds 0

pub longest-largest : (n : ℕ) (set : ℕ → Bool) → set 0 ≡ true → longest n n set ≡ largest n (select set (2 ^ n))
longest-largest n set z = largest-one (select set (2 ^ n)) (longest n n set) (largest n (select set (2 ^ n)))
    (record { reduced = (longest-passes n n set).0; inside = inside; best = λ cs r i. best cs (r, λ x s e. select-mem set (2 ^ n) x (i x s)) })
    (largest-is n (select set (2 ^ n)) (select-rising set (2 ^ n)) origin (λ x m. (select-mem set (2 ^ n) x m).0))
  where
    origin : Mem 0 (select set (2 ^ n))
    origin = mem-select set (2 ^ n) 0 (pow_pos n) z

    best : Best (Passes n set) (longest n n set)
    best = longest-best n n set (λ cs p. reduced-length n cs p.0 (passes-below n set cs p))

    inside : LiesIn (select set (2 ^ n)) (longest n n set)
    inside x s = elim (ℕ_discrete x 0) [
      | yes e ↦ subst (λ (y : ℕ). Mem y (select set (2 ^ n))) (sym e) origin
      | no e ↦ let i = (longest-passes n n set).1 x s e in mem-select set (2 ^ n) x i.0 i.1
    ]
