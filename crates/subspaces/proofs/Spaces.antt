-- Laws of specs.Spaces: the list has just the spaces inside the set, in their order, so that the first of it is the largest; a vector with which the
-- largest space would still lie inside is its own already. Read next: Examples.
use mathlib.Core.Path.{◌≡◌, refl, sym, ◌∙◌, subst}
use mathlib.Core.Bool.{Bool}
use mathlib.Core.Logic.{◌⊎◌, inl, inr}
use mathlib.Core.List.{List, [], ◌∷◌, ◌++◌}
use Prim.Native.Nat.{ℕ, zero, suc, ◌^◌, ◌≤◌, ◌<◌}
use native.Mathlib.Nat.{lt_of_not-le, le_antisymm}
use native.Mathlib.Decide.{dec_le, ℕ_discrete}
use native.Mathlib.Omega.{arith}
use lib.ListN.{length}
use lib.Dec.{ltb}
use lib.Bits.{xor_zero_r}
use borrow.Author.Tests.{ltb-true, lt-ltb}
use Rattle.gf2.specs.Finite.{Mem, Ordered, Rising, In, holds}
use Rattle.gf2.specs.Span.{Span, Space}
use Rattle.gf2.specs.Basis.{Reduced, reduce, insert, reduced_basis}
use Rattle.gf2.proofs.Finite.{holds-mem}
use Rattle.gf2.proofs.Span.{span-mem}
use Rattle.gf2.proofs.Reduce.{reduced-pos, reduced-length, reduce-zero}
use Rattle.gf2.proofs.Insert.{insert-reduced, insert-span, insert-length}
use Rattle.gf2.proofs.ReducedBasis.{basis-reduced, basis-span}
use Rattle.cubes.specs.Lists.{keep}
use Rattle.cubes.specs.Candidates.{Lexicographic, bases}
use Rattle.cubes.specs.Primes.{every_point}
use Rattle.cubes.proofs.Lists.{keep-mem, mem-keep, ordered-keep}
use Rattle.cubes.proofs.Candidates.{bases-sound, bases-complete, bases-ordered, lexicographic-not}
use Rattle.cubes.proofs.Primes.{every-point}
use Rattle.subspaces.specs.Spaces.{LiesIn, NoLater, Largest, spaces_of, spaces_from, first_or, largest}

-- ---- the spaces of one dimension

-- A space of d dimensions inside the set.
abbrev SpaceIn : List ℕ → ℕ → List ℕ → Type 0
SpaceIn set d bs = Reduced bs × (length bs ≡ d) × LiesIn set bs

spaces-sound : (set : List ℕ) (d : ℕ) (bs : List ℕ) → Mem bs (spaces_of set d) → SpaceIn set d bs
unfolding spaces_of
spaces-sound set d bs m =
    let k = keep-mem (λ bs. every_point (holds set) bs 0) (bases d (keep (ltb 0) set)) bs m in
    let b = bases-sound d (keep (ltb 0) set) (λ c i. ltb-true 0 c (keep-mem (ltb 0) set c i).1) bs k.0 in
    (b.reduced, b.number, λ x s. (holds-mem set x).0 ((every-point (holds set) bs 0).0 k.1 x (subst (Span bs) (sym (xor_zero_r x)) s)))

spaces-complete : (set : List ℕ) (bs : List ℕ) → Reduced bs → LiesIn set bs → Mem bs (spaces_of set (length bs))
unfolding spaces_of
spaces-complete set bs r h = mem-keep (λ bs. every_point (holds set) bs 0) (bases (length bs) (keep (ltb 0) set)) bs
    (bases-complete (keep (ltb 0) set) bs r (λ c m. mem-keep (ltb 0) set c (h c (span-mem bs c m)) (lt-ltb 0 c (reduced-pos bs r c m))))
    ((every-point (holds set) bs 0).1 (λ x c. (holds-mem set x).1 (h x (subst (Span bs) (xor_zero_r x) c))))

spaces-ordered : (set : List ℕ) (d : ℕ) → Rising set → Ordered Lexicographic (spaces_of set d)
unfolding spaces_of
spaces-ordered set d up =
    ordered-keep Lexicographic (λ bs. every_point (holds set) bs 0) (bases d (keep (ltb 0) set)) (bases-ordered d (keep (ltb 0) set) (ordered-keep ◌<◌ (ltb 0) set up))

-- ---- the first of the largest up to a dimension

-- As `Largest`, among the spaces of at most d dimensions.
abbrev LargestTo : List ℕ → ℕ → List ℕ → Type 0
LargestTo set d bs = Reduced bs × LiesIn set bs × ((cs : List ℕ) → Reduced cs → LiesIn set cs → length cs ≤ d → NoLater bs cs)

first-append : (bs : List ℕ) (l m : List (List ℕ)) → first_or bs (l ++ m) ≡ first_or (first_or bs m) l
first-append bs [] m = refl
first-append bs (a ∷ l) m = refl

-- The first of a list that has just the spaces of d + 1 dimensions, in order; or, where it is empty, what is largest up to d.
first_to : (set : List ℕ) (d : ℕ) (z : List ℕ) (l : List (List ℕ)) → ((bs : List ℕ) → Mem bs l → SpaceIn set (suc d) bs) → Ordered Lexicographic l
    → ((cs : List ℕ) → Reduced cs → LiesIn set cs → length cs ≡ suc d → Mem cs l) → LargestTo set d z → LargestTo set (suc d) (first_or z l)
first_to set d z [] is up has (r, i, f) =
    (r, i, λ cs s h l. f cs s h (elim (dec_le (length cs) d) [ yes k ↦ k | no k ↦ absurd (has cs s h (omega (arith, lt_of_not-le k))) ]))
first_to set d z (bs ∷ l) is up has q =
    let k = is bs (inl refl) in
    (k.0, k.2, λ cs s h m. (omega (arith, k.1), λ e. elim (has cs s h (e ∙ k.1)) [ inl t ↦ inl (sym t) | inr t ↦ inr (up.0 cs t) ]))

-- A list of no vectors is the empty one.
pub length_none : (cs : List ℕ) → length cs ≡ 0 → [] ≡ cs
length_none [] e = refl
length_none (c ∷ cs) e = absurd (omega arith)

first-none : (set : List ℕ) (l : List (List ℕ)) → Mem 0 set → ((bs : List ℕ) → Mem bs l → SpaceIn set 0 bs) → LargestTo set 0 (first_or [] l)
first-none set [] z is = (tt, λ x e. subst (λ (y : ℕ). Mem y set) (sym e) z, λ cs r h l. (l, λ e. inl (length_none cs e)))
first-none set (bs ∷ l) z is =
    let k = is bs (inl refl) in
    (k.0, k.2, λ cs r h m. (omega (arith, k.1), λ e. inl (sym (length_none bs k.1) ∙ length_none cs (e ∙ k.1))))

largest-to : (set : List ℕ) → Rising set → Mem 0 set → (d : ℕ) → LargestTo set d (first_or [] (spaces_from set d))
unfolding spaces_from
largest-to set up z zero = first-none set (spaces_of set 0) z (spaces-sound set 0)
largest-to set up z (suc d) = subst (LargestTo set (suc d)) (sym (first-append [] (spaces_of set (suc d)) (spaces_from set d)))
    (first_to set d (first_or [] (spaces_from set d)) (spaces_of set (suc d)) (spaces-sound set (suc d)) (spaces-ordered set (suc d) up)
    (λ cs r h e. subst (λ (k : ℕ). Mem cs (spaces_of set k)) e (spaces-complete set cs r h)) (largest-to set up z d))

-- ---- the largest space of all

pub largest-is : (n : ℕ) (set : List ℕ) → Rising set → Mem 0 set → ((x : ℕ) → Mem x set → x < 2 ^ n) → Largest set (largest n set)
unfolding largest
largest-is n set up z below =
    let k = largest-to set up z n in
    record {
      reduced = k.0;
      inside = k.1;
      best = λ cs r h. k.2 cs r h (reduced-length n cs r (λ c m. below c (h c (span-mem cs c m))));
    }

-- There is one only.
pub largest-one : (set bs cs : List ℕ) → Largest set bs → Largest set cs → bs ≡ cs
largest-one set bs cs a b =
    let p = a.best cs b.reduced b.inside in
    let q = b.best bs a.reduced a.inside in
    let e : length cs ≡ length bs = le_antisymm p.0 q.0 in
    go (p.1 e) (q.1 (sym e))
  where
    go : (bs ≡ cs) ⊎ Lexicographic bs cs → (cs ≡ bs) ⊎ Lexicographic cs bs → bs ≡ cs
    go (inl e) q = e
    go (inr p) (inl e) = sym e
    go (inr p) (inr q) = absurd (lexicographic-not bs cs p q)

-- No space inside is larger, and of its dimension none has an earlier basis, however the space is given.
pub largest-sets : (n : ℕ) (set bs : List ℕ) → Largest set bs → (Q : ℕ → Bool) → Space (In n Q) → ((x : ℕ) → In n Q x → Mem x set) → NoLater bs (reduced_basis n Q)
largest-sets n set bs a Q s h = a.best (reduced_basis n Q) (basis-reduced n Q) (λ x p. h x ((basis-span n Q s x).0 p))

-- A vector with which the space would still lie inside is its own.
pub largest-own : (set bs : List ℕ) → Largest set bs → (v : ℕ) → LiesIn set (v ∷ bs) → Span bs v
largest-own set bs a v h = go (ℕ_discrete (reduce bs v) 0)
  where
    go : Dec (reduce bs v ≡ 0) → Span bs v
    go (yes e) = reduce-zero bs v e
    go (no e) = absurd (omega (arith, insert-length bs v e, (a.best (insert bs v) (insert-reduced bs v a.reduced) (λ x p. h x ((insert-span bs v x).0 p))).0))
