-- Where a listing stops: the numbers below a bound that pass a test, up to the first that doesn't fit. Read next: Joining.
use mathlib.Core.Path.{◌≡◌, refl, sym, ap, ◌∙◌}
use mathlib.Core.Bool.{Bool, true, cond, ◌&&◌}
use mathlib.Core.Logic.{◌⊎◌, inl, inr}
use mathlib.Core.List.{List, [], ◌∷◌, ◌++◌}
use Prim.Native.Nat.{ℕ, zero, suc, ◌≤◌, ◌<◌}
use native.Mathlib.Nat.{lt_of_not-le}
use native.Mathlib.Decide.{dec_le, ℕ_discrete}
use native.Mathlib.Omega.{arith}
use lib.ListN.{length, take, get_or, length-append, get_or-eq_default}
use lib.Dec.{leb}
use lib.Seq.{take_all, take_at, get_or_at, append_snoc}
use Rattle.gf2.specs.Finite.{select}
use Rattle.gf2.proofs.Logic.{cond_cases}
use Rattle.gf2.proofs.Finite.{select-on, select-split}

module _ (t : ℕ → Bool) where
  -- A number below the bound that passes, with so many before it.
  abbrev Found : ℕ → ℕ → Type 0
  Found size k = (p : ℕ) × (p < size) × (t p ≡ true) × (length (select t p) ≡ k)

  -- There is one for each count below that of all.
  found : (size k : ℕ) → k < length (select t size) → Found size k
  unfolding select
  found zero k h = absurd (omega arith)
  found (suc m) k h = go (found m k) h
    where
      more : Found m k → Found (suc m) k
      more f = (f.0, omega (arith, f.1), f.2, f.3)

      go : (k < length (select t m) → Found m k) → k < length (cond (t m) (select t m ++ (m ∷ [])) (select t m)) → Found (suc m) k
      go i = cond_cases (λ l. k < length l → Found (suc m) k) (t m) (select t m ++ (m ∷ [])) (select t m)
          (λ e b. elim (ℕ_discrete k (length (select t m))) [
            | yes q ↦ (m, omega arith, e, sym q)
            | no n ↦ more (i (omega (arith, length-append (select t m) (m ∷ []), n)))
          ])
          (λ e b. more (i b))

  module _ (size fit : ℕ) where
    -- It stops before a number that passes, with as many behind it as fit: these are handed over, and that number is the next.
    pub stops : (p : ℕ) → p < size → t p ≡ true → length (select t p) ≡ fit → (take fit (select t size) ≡ select t p) × (get_or (select t size) fit size ≡ p)
    stops p h e l =
        let rest = select (λ x. leb (suc p) x && t x) size in
        let whole : select t size ≡ select t p ++ (p ∷ rest) = select-split t (suc p) size h ∙ ap (λ (z : List ℕ). z ++ rest) (select-on t p e) ∙ append_snoc (select t p) p rest in
        (rw whole (take_at (select t p) (p ∷ rest) fit l), rw whole (get_or_at (select t p) p rest size fit l))

    -- Where all fit, all are handed over, and the bound is what is returned.
    pub ends : length (select t size) ≤ fit → (take fit (select t size) ≡ select t size) × (get_or (select t size) fit size ≡ size)
    ends h = (take_all fit (select t size) h, get_or-eq_default (select t size) size h)

    -- In any case those below the next number are handed over, and that is the bound, or a number that passes and doesn't fit.
    pub record ListingStop (next : ℕ) : Type 0 where
      pub handed : take fit (select t size) ≡ select t next
      pub few : length (select t next) ≤ fit
      pub at : (next ≡ size) ⊎ ((next < size) × (t next ≡ true) × (length (select t next) ≡ fit))

    pub stop-within : {next : ℕ} → ListingStop next → next ≤ size
    stop-within s = elim s.at [ inl e ↦ omega arith | inr h ↦ omega (arith, h.0) ]

    pub listing-stop : ListingStop (get_or (select t size) fit size)
    listing-stop = go (dec_le (length (select t size)) fit)
      where
        go : Dec (length (select t size) ≤ fit) → ListingStop (get_or (select t size) fit size)
        go (yes h) =
            let e = ends h in
            rw e.1 (record { handed = e.0; few = h; at = inl refl })
        go (no n) =
            let f = found size fit (lt_of_not-le n) in
            let e = stops f.0 f.1 f.2 f.3 in
            rw e.1 (record { handed = e.0; few = omega (arith, f.3); at = inr (f.1, f.2, f.3) })
