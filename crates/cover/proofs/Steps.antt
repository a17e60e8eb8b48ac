-- The definitions as a loop meets them: one point more gone through, one prime more taken, one equation more put in. Read next: Examples.
use mathlib.Core.Path.{◌≡◌, ap, ◌∙◌}
use mathlib.Core.Bool.{true, false, cond, ◌||◌, or-false}
use mathlib.Core.List.{List, [], ◌∷◌, ◌++◌, append-nil}
use Prim.Native.Nat.{ℕ, zero, suc, ◌-◌, ◌<◌}
use native.Mathlib.Nat.{le_of_suc-le-suc}
use native.Mathlib.Omega.{arith}
use lib.ListN.{length, get_or, drop}
use Rattle.gf2.specs.Bits.{◌⊕◌, bit}
use Rattle.cubes.specs.Cubes.{Candidate, points_of}
use Rattle.cover.specs.Substitution.{substitute_mask}
use Rattle.cover.specs.Choice.{covered, first_holding, taken_for, taken_through}
use Rattle.cover.proofs.Choice.{covered-append}

-- ---- the points gone through

-- A point that is covered takes nothing.
pub through-covered : (primes taken : List Candidate) (x : ℕ) (xs : List ℕ) → covered taken x ≡ true → taken_through primes taken (x ∷ xs) ≡ taken_through primes taken xs
unfolding taken_through taken_for
through-covered primes taken x xs e = rw e (ap (λ l. taken_through primes l xs) (append-nil taken))

-- One that isn't takes what the search finds, be it nothing.
pub through-none : (primes taken : List Candidate) (x : ℕ) (xs : List ℕ) → covered taken x ≡ false → first_holding primes x ≡ []
    → taken_through primes taken (x ∷ xs) ≡ taken_through primes taken xs
unfolding taken_through taken_for
through-none primes taken x xs e q = rw (e, q) (ap (λ l. taken_through primes l xs) (append-nil taken))

pub through-taken : (primes taken : List Candidate) (x : ℕ) (xs : List ℕ) (c : Candidate) → covered taken x ≡ false → first_holding primes x ≡ c ∷ []
    → taken_through primes taken (x ∷ xs) ≡ taken_through primes (taken ++ (c ∷ [])) xs
unfolding taken_through taken_for
through-taken primes taken x xs c e q = rw (e, q)

-- Then the points that are covered are those that were, and those of the prime taken.
pub covered_next : (taken : List Candidate) (c : Candidate) (y : ℕ) → covered (taken ++ (c ∷ [])) y ≡ covered taken y || points_of c y
unfolding covered
covered_next taken c y = covered-append taken (c ∷ []) y ∙ ap (λ t. covered taken y || t) (or-false (points_of c y))

-- ---- the equations put in, from y1 on

pub substitute-step : (es : List ℕ) (m i : ℕ) → i < length es
    → substitute_mask (drop i es) m ≡ cond (bit (length es - suc i) m) (get_or es i 0) 0 ⊕ substitute_mask (drop (suc i) es) m
unfolding substitute_mask
substitute-step [] m i h = absurd (omega arith)
substitute-step (e ∷ es) m zero h =
    let q : length es ≡ suc (length es) - 1 = omega arith in
    ap (λ (k : ℕ). cond (bit k m) e 0 ⊕ substitute_mask es m) q
substitute-step (e ∷ es) m (suc i) h =
    let q : length es - suc i ≡ suc (length es) - suc (suc i) = omega arith in
    substitute-step es m i (le_of_suc-le-suc h) ∙ ap (λ (k : ℕ). cond (bit k m) (get_or es i 0) 0 ⊕ substitute_mask (drop (suc i) es) m) q
