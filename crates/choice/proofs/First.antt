-- Laws of the first candidate of a list that holds a point: in an ordered list it is the one that none stands before, and of two lists one after
-- the other it is that of the first list, or else of the second. Read next: Best.
use mathlib.Core.Path.{◌≡◌, refl, sym, ap, ◌∙◌}
use mathlib.Core.Bool.{Bool, true, false, cond}
use mathlib.Core.Logic.{inl, inr}
use mathlib.Core.List.{List, [], ◌∷◌, ◌++◌}
use Prim.Native.Nat.{ℕ, zero, suc, ◌+◌}
use native.Mathlib.Numerals.{add-one}
use native.Mathlib.Omega.{arith}
use lib.ListN.{length}
use Rattle.gf2.specs.Finite.{Mem, Ordered}
use Rattle.table.proofs.Table.{refuted}
use Rattle.cubes.specs.Lists.{keep}
use Rattle.cubes.specs.Cubes.{Candidate, points_of}
use Rattle.cubes.specs.Candidates.{candidates_of, candidates_from, candidates}
use Rattle.cubes.proofs.Lists.{keep_append}
use Rattle.cover.specs.Choice.{first_holding}

pub first-none : (l : List Candidate) (x : ℕ) → ((c : Candidate) → Mem c l → points_of c x ≡ false) → first_holding l x ≡ []
unfolding first_holding
first-none [] x h = refl
first-none (a ∷ l) x h = rw (h a (inl refl)) (first-none l x (λ c k. h c (inr k)))

pub first-least : (R : Candidate → Candidate → Type 0) (l : List Candidate) → Ordered R l → (x : ℕ) (c : Candidate) → Mem c l → points_of c x ≡ true
    → ((b : Candidate) → Mem b l → points_of b x ≡ true → R b c → ⊥) → first_holding l x ≡ c ∷ []
unfolding first_holding
first-least R [] o x c i t h = elim i [ ]
first-least R (a ∷ l) o x c (inl q) t h = rw (sym (ap (λ z. points_of z x) q) ∙ t) (ap (λ z. z ∷ []) (sym q))
first-least R (a ∷ l) o x c (inr k) t h =
    rw (refuted (points_of a x) (λ u. h a (inl refl) u (o.0 c k))) (first-least R l o.1 x c k t (λ b i. h b (inr i)))

pub first-append : (l k : List Candidate) (x : ℕ) → first_holding l x ≡ [] → first_holding (l ++ k) x ≡ first_holding k x
unfolding first_holding
first-append [] k x e = refl
first-append (a ∷ l) k x e = go (points_of a x) (first-append l k x) e
  where
    go : (t : Bool) → (first_holding l x ≡ [] → first_holding (l ++ k) x ≡ first_holding k x) → cond t (a ∷ []) (first_holding l x) ≡ []
        → cond t (a ∷ []) (first_holding (l ++ k) x) ≡ first_holding k x
    go true f z = absurd (let q : ◌≡◌ {A = ℕ} 1 0 = ap length z in omega arith)
    go false f z = f z

pub first-front : (l k : List Candidate) (x : ℕ) (c : Candidate) → first_holding l x ≡ c ∷ [] → first_holding (l ++ k) x ≡ c ∷ []
unfolding first_holding
first-front [] k x c e = absurd (let q : ◌≡◌ {A = ℕ} 0 1 = ap length e in omega arith)
first-front (a ∷ l) k x c e = go (points_of a x) (first-front l k x c) e
  where
    go : (t : Bool) → (first_holding l x ≡ c ∷ [] → first_holding (l ++ k) x ≡ c ∷ []) → cond t (a ∷ []) (first_holding l x) ≡ c ∷ []
        → cond t (a ∷ []) (first_holding (l ++ k) x) ≡ c ∷ []
    go true f z = z
    go false f z = f z

-- ---- degree after degree

module _ (t : Candidate → Bool) (m x : ℕ) where
  pub from_found : (d : ℕ) (c : Candidate) → first_holding (keep t (candidates_of m d)) x ≡ c ∷ [] → first_holding (keep t (candidates_from m d)) x ≡ c ∷ []
  unfolding candidates_from
  from_found zero c e = e
  from_found (suc d) c e =
      ap (λ l. first_holding l x) (keep_append t (candidates_of m (suc d)) (candidates_from m d))
      ∙ first-front (keep t (candidates_of m (suc d))) (keep t (candidates_from m d)) x c e

-- The candidates of less than degree k.
unfoldable pub lower : ℕ → ℕ → List Candidate
lower m zero = []
lower m (suc d) = candidates_from m d

module _ (t : Candidate → Bool) (m x : ℕ) where
  pub lower_found : (d : ℕ) (c : Candidate) → first_holding (keep t (candidates_of m d)) x ≡ c ∷ [] → first_holding (keep t (lower m (d + 1))) x ≡ c ∷ []
  unfolding lower
  lower_found d c e = rw (add-one) (from_found t m x d c e)

  pub lower_next : (d : ℕ) → first_holding (keep t (candidates_of m d)) x ≡ [] → first_holding (keep t (lower m (d + 1))) x ≡ first_holding (keep t (lower m d)) x
  unfolding candidates_from lower keep first_holding
  lower_next zero e = e
  lower_next (suc d) e =
      rw (add-one)
      (ap (λ l. first_holding l x) (keep_append t (candidates_of m (suc d)) (candidates_from m d))
      ∙ first-append (keep t (candidates_of m (suc d))) (keep t (candidates_from m d)) x e)

  pub lower_none : first_holding (keep t (lower m 0)) x ≡ []
  unfolding lower keep first_holding
  lower_none = refl

  pub lower_all : first_holding (keep t (lower m (m + 1))) x ≡ first_holding (keep t (candidates m)) x
  unfolding lower candidates
  lower_all = rw (add-one) refl
