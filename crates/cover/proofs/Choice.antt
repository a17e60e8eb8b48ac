-- Laws of specs.Choice: the search for the first prime that holds a point finds one, the primes chosen hold exactly the on points, and there are
-- no more of them than on points. Read next: Restriction.
use mathlib.Core.Path.{◌≡◌, refl, sym, ap, ◌∙◌, subst}
use mathlib.Core.Bool.{Bool, true, false, cond, ◌||◌, or_assoc}
use mathlib.Core.Logic.{◌⊎◌, inl, inr, ◌≢◌, ◌↔◌}
use mathlib.Core.List.{List, [], ◌∷◌, ◌++◌, flat_map}
use Prim.Native.Nat.{ℕ, suc, ◌+◌, ◌^◌, ◌≤◌, ◌<◌}
use native.Mathlib.Omega.{arith}
use lib.ListN.{length, length-append}
use lib.Seq.{take-length}
use Rattle.gf2.specs.Bits.{bit, halvings, lead}
use Rattle.gf2.specs.Finite.{Mem, holds, Rising, all, select}
use Rattle.gf2.specs.Basis.{clear, reduce}
use Rattle.gf2.proofs.Logic.{clash, same, cond_cases, or_l, or_r, or_cases}
use Rattle.gf2.proofs.Finite.{cons-all, append-mem, holds-mem}
use Rattle.cubes.specs.Lists.{keep}
use Rattle.cubes.specs.Cubes.{Candidate, candidate, spans, points_of, IsCandidate}
use Rattle.cubes.specs.Candidates.{bases, candidates_of, candidates_from, candidates, candidate_count}
use Rattle.cubes.specs.Primes.{Prime, every_point, some_point, cannot_grow, is_prime}
use Rattle.cubes.specs.Calls.{primes_behind}
use Rattle.cubes.proofs.Lists.{mem-append, keep-mem, mem-keep}
use Rattle.cubes.proofs.Cubes.{points-are}
use Rattle.cubes.proofs.Candidates.{candidate-is}
use Rattle.cubes.proofs.Primes.{prime-is}
use Rattle.cover.specs.Choice.{primes_of, covered, FirstHolding, first_holding, taken_for, taken_through, chosen}
use Rattle.cover.proofs.Primes.{points-coset, prime-at, prime-two}

-- ---- the primes of a complete function

pub primes-are : (m : ℕ) (on : List ℕ) (c : Candidate) → Mem c (primes_of m on) → IsCandidate m c × (is_prime m (holds on) (holds []) c ≡ true)
unfolding primes_of
primes-are m on c i = let k = keep-mem (is_prime m (holds on) (holds [])) (candidates m) c i in ((candidate-is m c).0 k.0, k.1)

-- They are primes in the sense of sets, and have on points only.
pub primes-prime : (m : ℕ) (on : List ℕ) (c : Candidate) → Mem c (primes_of m on) → Prime m (holds on) (holds []) (points_of c)
primes-prime m on c i = let k = primes-are m on c i in (prime-is m (holds on) (holds []) c k.0).0 k.1

pub primes-inside : (m : ℕ) (on : List ℕ) (c : Candidate) → Mem c (primes_of m on) → (x : ℕ) → points_of c x ≡ true → Mem x on
unfolding holds
primes-inside m on c i x e =
    let k = (primes-are m on c i).0 in
    elim ((primes-prime m on c i).inside x ((points-are m c k x).1 (points-coset m c k x e))) [
      | inl h ↦ (holds-mem on x).0 h
      | inr h ↦ clash h refl
    ]

pub primes-listed : (m : ℕ) (on : List ℕ) → primes_of m on ≡ primes_behind (record { variables = m; on = on; free = [] }) (candidate_count m)
unfolding primes_of primes_behind
primes-listed m on = rw (take-length (candidates m))

-- ---- covered points

pub covered-is : (l : List Candidate) (x : ℕ) → (covered l x ≡ true) ↔ ((c : Candidate) × Mem c l × (points_of c x ≡ true))
unfolding covered
covered-is [] x = (λ e. clash e refl, λ h. absurd h.1)
covered-is (c ∷ l) x = (
  λ e. elim (or_cases (points_of c x) (covered l x) e) [
    | inl h ↦ (c, inl refl, h)
    | inr h ↦ let k = (covered-is l x).0 h in (k.0, inr k.1, k.2)
  ],
  λ h. elim h.1 [
    | inl q ↦ or_l (points_of c x) (covered l x) (subst (λ d. points_of d x ≡ true) q h.2)
    | inr i ↦ or_r (points_of c x) (covered l x) ((covered-is l x).1 (h.0, i, h.2))
  ],
)

pub covered-append : (l m : List Candidate) (x : ℕ) → covered (l ++ m) x ≡ covered l x || covered m x
unfolding covered
covered-append [] m x = refl
covered-append (c ∷ l) m x = ap (λ t. points_of c x || t) (covered-append l m x) ∙ sym (or_assoc (points_of c x) (covered l x) (covered m x))

covered_more : (l m : List Candidate) (x : ℕ) → covered l x ≡ true → covered (l ++ m) x ≡ true
covered_more l m x e = covered-append l m x ∙ or_l (covered l x) (covered m x) e

-- Every on point is held by some prime.
pub primes-cover : (m : ℕ) (on : List ℕ) (x : ℕ) → Mem x on → x < 2 ^ m → covered (primes_of m on) x ≡ true
unfolding primes_of
primes-cover m on x i l =
    let k = prime-at m (holds on) (holds []) x l ((holds-mem on x).1 i) in
    (covered-is (primes_of m on) x).1 (k.0, mem-keep (is_prime m (holds on) (holds [])) (candidates m) k.0 k.1 k.2, k.3)

-- ---- the first that holds the point

pub first-is : (l : List Candidate) (x : ℕ) (c : Candidate) → (first_holding l x ≡ c ∷ []) ↔ FirstHolding l x c
unfolding first_holding
first-is l x c = (there l, λ h. back h.before h.after l h.order h.passed h.held)
  where
    heads : (d e : Candidate) → d ∷ [] ≡ e ∷ [] → e ≡ d
    heads d e q = cc

    there : (l : List Candidate) → first_holding l x ≡ c ∷ [] → FirstHolding l x c
    there [] q = absurd (let z : ◌≡◌ {A = ℕ} 0 1 = ap length q in omega arith)
    there (d ∷ l) q = go (points_of d x) refl q (there l)
      where
        go : (t : Bool) → points_of d x ≡ t → cond t (d ∷ []) (first_holding l x) ≡ c ∷ [] → (first_holding l x ≡ c ∷ [] → FirstHolding l x c) → FirstHolding (d ∷ l) x c
        go true e p f = record { before = []; after = l; order = ap (λ z. z ∷ l) (sym (heads d c p)); passed = λ b i. absurd i; held = ap (λ z. points_of z x) (heads d c p) ∙ e }
        go false e p f = let h = f p in record {
          before = d ∷ h.before;
          after = h.after;
          order = ap (λ z. d ∷ z) h.order;
          passed = cons-all (λ b. points_of b x ≡ false) d h.before e h.passed;
          held = h.held;
        }

    back : (before after l : List Candidate) → l ≡ before ++ (c ∷ after) → ((d : Candidate) → Mem d before → points_of d x ≡ false) → points_of c x ≡ true → first_holding l x ≡ c ∷ []
    back [] after l q p e = rw (q, e)
    back (b ∷ before) after l q p e = rw (q, p b (inl refl)) (back before after (before ++ (c ∷ after)) refl (λ d i. p d (inr i)) e)

-- The search finds one where some candidate holds the point.
pub first_found : (l : List Candidate) (x : ℕ) → covered l x ≡ true → (c : Candidate) × (first_holding l x ≡ c ∷ []) × Mem c l × (points_of c x ≡ true)
unfolding first_holding covered
first_found [] x e = clash e refl
first_found (c ∷ l) x e = go (points_of c x) refl (first_found l x)
  where
    go : (t : Bool) → points_of c x ≡ t → (covered l x ≡ true → (d : Candidate) × (first_holding l x ≡ d ∷ []) × Mem d l × (points_of d x ≡ true))
        → (d : Candidate) × (cond (points_of c x) (c ∷ []) (first_holding l x) ≡ d ∷ []) × Mem d (c ∷ l) × (points_of d x ≡ true)
    go true q f = (c, rw q, inl refl, q)
    go false q f = let k = f (rw q at e) in (k.0, rw q k.1, inr k.2, k.3)

first-mem : (l : List Candidate) (x : ℕ) (c : Candidate) → Mem c (first_holding l x) → Mem c l
unfolding first_holding
first-mem [] x c h = elim h [ ]
first-mem (d ∷ l) x c i = cond_cases (λ z. Mem c z → Mem c (d ∷ l)) (points_of d x) (d ∷ []) (first_holding l x)
    (λ e k. elim k [ inl q ↦ inl q | inr z ↦ absurd z ]) (λ e k. inr (first-mem l x c k)) i

first-length : (l : List Candidate) (x : ℕ) → length (first_holding l x) ≤ 1
unfolding first_holding
first-length [] x = omega arith
first-length (d ∷ l) x = cond_cases (λ z. length z ≤ 1) (points_of d x) (d ∷ []) (first_holding l x) (λ e. omega arith) (λ e. first-length l x)

-- ---- what is taken for one point

taken-mem : (primes taken : List Candidate) (x : ℕ) (c : Candidate) → Mem c (taken_for primes taken x) → Mem c primes
unfolding taken_for
taken-mem primes taken x c i = cond_cases (λ l. Mem c l → Mem c primes) (covered taken x) [] (first_holding primes x) (λ e z. absurd z) (λ e z. first-mem primes x c z) i

taken-length : (primes taken : List Candidate) (x : ℕ) → length (taken_for primes taken x) ≤ 1
unfolding taken_for
taken-length primes taken x = cond_cases (λ l. length l ≤ 1) (covered taken x) [] (first_holding primes x) (λ e. omega arith) (λ e. first-length primes x)

taken-covers : (primes taken : List Candidate) (x : ℕ) → covered primes x ≡ true → covered (taken ++ taken_for primes taken x) x ≡ true
unfolding taken_for
taken-covers primes taken x h = go (covered taken x) refl
  where
    go : (t : Bool) → covered taken x ≡ t → covered (taken ++ cond t [] (first_holding primes x)) x ≡ true
    go true e = covered_more taken [] x e
    go false e =
        let k = first_found primes x h in
        (covered-is (taken ++ first_holding primes x) x).1 (k.0, mem-append taken (first_holding primes x) k.0 (inr (rw k.1 (inl refl))), k.3)

-- ---- what is taken for all of them

pub through-mem : (primes taken : List Candidate) (xs : List ℕ) (c : Candidate) → Mem c (taken_through primes taken xs) → Mem c taken ⊎ Mem c primes
unfolding taken_through
through-mem primes taken [] c i = inl i
through-mem primes taken (x ∷ xs) c i = elim (through-mem primes (taken ++ taken_for primes taken x) xs c i) [
  | inl k ↦ elim (append-mem taken (taken_for primes taken x) c k) [ inl j ↦ inl j | inr j ↦ inr (taken-mem primes taken x c j) ]
  | inr k ↦ inr k
]

-- A point that is covered stays so.
pub through-keeps : (primes taken : List Candidate) (xs : List ℕ) (y : ℕ) → covered taken y ≡ true → covered (taken_through primes taken xs) y ≡ true
unfolding taken_through
through-keeps primes taken [] y e = e
through-keeps primes taken (x ∷ xs) y e = through-keeps primes (taken ++ taken_for primes taken x) xs y (covered_more taken (taken_for primes taken x) y e)

-- All points that are gone through are covered, where each is held by some prime.
pub through-covers : (primes taken : List Candidate) (xs : List ℕ) → ((x : ℕ) → Mem x xs → covered primes x ≡ true)
    → (y : ℕ) → Mem y xs → covered (taken_through primes taken xs) y ≡ true
unfolding taken_through
through-covers primes taken [] h y m = elim m [ ]
through-covers primes taken (x ∷ xs) h y (inl q) =
    rw q (through-keeps primes (taken ++ taken_for primes taken x) xs x (taken-covers primes taken x (h x (inl refl))))
through-covers primes taken (x ∷ xs) h y (inr i) = through-covers primes (taken ++ taken_for primes taken x) xs (λ z k. h z (inr k)) y i

-- At most one is taken for each point.
pub through-length : (primes taken : List Candidate) (xs : List ℕ) → length (taken_through primes taken xs) ≤ length taken + length xs
unfolding taken_through
through-length primes taken [] = omega arith
through-length primes taken (x ∷ xs) =
    omega (arith, through-length primes (taken ++ taken_for primes taken x) xs, length-append taken (taken_for primes taken x), taken-length primes taken x)

-- A point that was covered before takes none.
pub through-fewer : (primes taken : List Candidate) (xs : List ℕ) (y : ℕ) → Mem y xs → covered taken y ≡ true → suc (length (taken_through primes taken xs)) ≤ length taken + length xs
unfolding taken_through taken_for
through-fewer primes taken [] y h e = elim h [ ]
through-fewer primes taken (x ∷ xs) y (inl q) e =
    let c : covered taken x ≡ true = subst (λ (z : ℕ). covered taken z ≡ true) q e in
    rw c (omega (arith, through-length primes (taken ++ []) xs, length-append taken ([])))
through-fewer primes taken (x ∷ xs) y (inr i) e =
    let t = taken_for primes taken x in
    omega (arith, through-fewer primes (taken ++ t) xs y i (covered_more taken t y e), length-append taken t, taken-length primes taken x)

-- ---- the primes chosen

pub chosen-prime : (m : ℕ) (on : List ℕ) (c : Candidate) → Mem c (chosen m on) → Mem c (primes_of m on)
unfolding chosen
chosen-prime m on c i = elim (through-mem (primes_of m on) [] on c i) [ inl k ↦ absurd k | inr k ↦ k ]

-- They hold exactly the on points.
pub chosen-points : (m : ℕ) (on : List ℕ) → ((y : ℕ) → Mem y on → y < 2 ^ m) → (y : ℕ) → covered (chosen m on) y ≡ holds on y
unfolding chosen
chosen-points m on h y = same (covered (chosen m on) y) (holds on y)
    (λ e. let k = (covered-is (chosen m on) y).0 e in (holds-mem on y).1 (primes-inside m on k.0 (chosen-prime m on k.0 k.1) y k.2))
    (λ e. through-covers (primes_of m on) [] on (λ x i. primes-cover m on x i (h x i)) y ((holds-mem on y).0 e))

pub chosen-length : (m : ℕ) (on : List ℕ) → length (chosen m on) ≤ length on
unfolding chosen
chosen-length m on = omega (arith, through-length (primes_of m on) [] on)

-- Two on points or more: the first prime holds two, so there are fewer primes than points.
pub chosen-fewer : (m : ℕ) (x y : ℕ) (xs : List ℕ) → ((z : ℕ) → Mem z (x ∷ y ∷ xs) → z < 2 ^ m) → Rising (x ∷ y ∷ xs) → suc (length (chosen m (x ∷ y ∷ xs))) ≤ length (x ∷ y ∷ xs)
unfolding chosen taken_through taken_for covered
chosen-fewer m x y xs h r =
    let on = x ∷ y ∷ xs in
    let ps = primes_of m on in
    let lx = h x (inl refl) in
    let k = first_found ps x (primes-cover m on x (inl refl) lx) in
    let c = k.0 in
    let p = primes-are m on c k.2 in
    let z = prime-two m (holds on) (holds []) c p.0 p.1 x y k.3 lx (h y (inr (inl refl))) (λ q. omega (arith, r.0 y (inl refl)))
    (or_l (holds on y) (holds [] y) ((holds-mem on y).1 (inr (inl refl)))) in
    rw k.1 (omega (arith, through-fewer ps (c ∷ []) (y ∷ xs) z.0 (later z.2 (primes-inside m on c k.2 z.0 z.1)) (or_l (points_of c z.0) false z.1)))
  where
    later : {z : ℕ} → z ≢ x → Mem z (x ∷ y ∷ xs) → Mem z (y ∷ xs)
    later d (inl q) = absurd (d q)
    later d (inr i) = i

-- Without an on point nothing is chosen; without variables the on point 0 is.
pub chosen_none : (m : ℕ) → chosen m [] ≡ []
unfolding chosen taken_through
chosen_none m = refl

pub chosen-origin : chosen 0 (0 ∷ []) ≡ candidate 0 [] ∷ []
unfolding chosen taken_through taken_for first_holding covered primes_of holds all select bit halvings lead clear reduce flat_map keep spans points_of bases candidates_of candidates_from candidates every_point some_point cannot_grow is_prime
chosen-origin = refl
