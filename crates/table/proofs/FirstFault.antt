-- Laws of specs.Refusal: a number is given exactly when its test applies and none before it does, with the place of that test. They hold of any list
-- of tests. Read next: Decide.
use mathlib.Core.Path.{◌≡◌, refl, sym, ap, ◌∙◌}
use mathlib.Core.Bool.{Bool, true, false, cond, ◌||◌}
use mathlib.Core.Logic.{◌≢◌, inl, inr, ◌↔◌}
use mathlib.Core.List.{List, [], ◌∷◌, ◌++◌, map, append-nil}
use Prim.Native.Nat.{ℕ}
use native.Mathlib.Decide.{ℕ_discrete}
use lib.Dec.{eqb}
use borrow.Author.Tests.{eqb-true}
use Rattle.gf2.specs.Finite.{Mem, holds}
use Rattle.gf2.proofs.Logic.{clash}
use Rattle.gf2.proofs.Finite.{mem-map, holds-mem}
use Rattle.table.specs.Refusal.{Test, has_place, first_fault, first_place, Numbered, NoneApplies, First}

-- ---- the test that is given

given : (ts : List Test) (r : ℕ) → r ≢ 0 → first_fault ts ≡ r → First ts r
unfolding first_fault
given [] r nz e = absurd (nz (sym e))
given (t ∷ ts) r nz e = go t.applies refl e (given ts r nz)
  where
    go : (b : Bool) → t.applies ≡ b → cond b t.number (first_fault ts) ≡ r → (first_fault ts ≡ r → First ts r) → First (t ∷ ts) r
    go true q e next = record { before = []; found = t; after = ts; order = refl; passed = λ u m. absurd m; applies = q; number = e }
    go false q e next =
        let f = next e in
        record {
          before = t ∷ f.before;
          found = f.found;
          after = f.after;
          order = ap (λ (l : List Test). t ∷ l) f.order;
          passed = λ u m. elim m [ inl z ↦ ap (λ (v : Test). v.applies) z ∙ q | inr k ↦ f.passed u k ];
          applies = f.applies;
          number = f.number;
        }

-- Tests that do not apply are passed.
fault-passed : (us ts : List Test) → NoneApplies us → first_fault (us ++ ts) ≡ first_fault ts
unfolding first_fault
fault-passed [] ts h = refl
fault-passed (u ∷ us) ts h = rw (h u (inl refl)) (fault-passed us ts (λ v m. h v (inr m)))

fault-found : (t : Test) (ts : List Test) → t.applies ≡ true → first_fault (t ∷ ts) ≡ t.number
unfolding first_fault
fault-found t ts e = rw e

-- A refusal number is given exactly when a test of that number applies and none before it does.
pub fault-first : (ts : List Test) (r : ℕ) → r ≢ 0 → (first_fault ts ≡ r) ↔ First ts r
fault-first ts r nz = (
  given ts r nz,
  λ f. ap first_fault f.order ∙ fault-passed f.before (f.found ∷ f.after) f.passed ∙ fault-found f.found f.after f.applies ∙ f.number,
)

-- ---- no test that applies

none : (ts : List Test) → Numbered ts → first_fault ts ≡ 0 → NoneApplies ts
unfolding first_fault
none [] h e t m = absurd m
none (u ∷ us) h e t m = go u.applies refl e (none us (λ v k. h v (inr k)))
  where
    go : (b : Bool) → u.applies ≡ b → cond b u.number (first_fault us) ≡ 0 → (first_fault us ≡ 0 → NoneApplies us) → t.applies ≡ false
    go true q e next = absurd (h u (inl refl) e)
    go false q e next = elim m [ inl z ↦ ap (λ (v : Test). v.applies) z ∙ q | inr k ↦ next e t k ]

-- No number is given exactly when no test applies.
pub no-fault : (ts : List Test) → Numbered ts → (first_fault ts ≡ 0) ↔ NoneApplies ts
unfolding first_fault
no-fault ts h = (none ts h, λ n. ap first_fault (sym (append-nil ts)) ∙ fault-passed ts [] n)

-- To see that no test of a list gives 0, compute this of its numbers.
pub numbered : (ts : List Test) → holds (map (λ t. t.number) ts) 0 ≡ false → Numbered ts
numbered ts e t m z =
    clash ((holds-mem (map (λ t. t.number) ts) 0).1 (rw z at (mem-map (λ t. t.number) ts t m))) e

-- ---- further tests, as a call has them after those of its table: they count where the first ones give nothing

pub fault-append : (ts us : List Test) → Numbered ts → first_fault ts ≡ 0 → first_fault (ts ++ us) ≡ first_fault us
fault-append ts us h e = fault-passed ts us (none ts h e)

pub fault-before : (ts us : List Test) → first_fault ts ≢ 0 → first_fault (ts ++ us) ≡ first_fault ts
unfolding first_fault
fault-before [] us nz = absurd (nz refl)
fault-before (t ∷ ts) us nz = go t.applies nz (fault-before ts us)
  where
    go : (b : Bool) → cond b t.number (first_fault ts) ≢ 0 → (first_fault ts ≢ 0 → first_fault (ts ++ us) ≡ first_fault ts)
        → cond b t.number (first_fault (ts ++ us)) ≡ cond b t.number (first_fault ts)
    go true nz next = refl
    go false nz next = next nz

-- So tests one after the other give nothing exactly when none of the parts does.
pub none_both : (ts us : List Test) → Numbered ts → (first_fault (ts ++ us) ≡ 0) ↔ ((first_fault ts ≡ 0) × (first_fault us ≡ 0))
none_both ts us h = (λ z. go z (ℕ_discrete (first_fault ts) 0), λ z. fault-append ts us h z.0 ∙ z.1)
  where
    go : first_fault (ts ++ us) ≡ 0 → Dec (first_fault ts ≡ 0) → (first_fault ts ≡ 0) × (first_fault us ≡ 0)
    go z (yes e) = (e, sym (fault-append ts us h e) ∙ z)
    go z (no n) = absurd (n (sym (fault-before ts us n) ∙ z))

pub none-next : (t : Test) (ts : List Test) → t.number ≢ 0 → (first_fault (t ∷ ts) ≡ 0) ↔ ((t.applies ≡ false) × (first_fault ts ≡ 0))
unfolding first_fault
none-next t ts n = (go t.applies, λ z. rw z.0 z.1)
  where
    go : (b : Bool) → cond b t.number (first_fault ts) ≡ 0 → (b ≡ false) × (first_fault ts ≡ 0)
    go true z = absurd (n z)
    go false z = (refl, z)

-- ---- the place that goes with the number

-- Tests that do not apply are passed.
place-passed : (us ts : List Test) → NoneApplies us → first_place (us ++ ts) ≡ first_place ts
unfolding first_place
place-passed [] ts h = refl
place-passed (u ∷ us) ts h = rw (h u (inl refl)) (place-passed us ts (λ v m. h v (inr m)))

-- Without a number the place is 0.
pub place_none : (ts : List Test) → Numbered ts → first_fault ts ≡ 0 → first_place ts ≡ 0
unfolding first_place
place_none ts h e = ap first_place (sym (append-nil ts)) ∙ place-passed ts [] (none ts h e)

-- The place is that of the test whose number is given.
pub place-first : (ts : List Test) (r : ℕ) (f : First ts r) → first_place ts ≡ f.found.place
unfolding first_place
place-first ts r f = ap first_place f.order ∙ place-passed f.before (f.found ∷ f.after) f.passed ∙ rw f.applies

-- Further tests, as for the number.
pub place-append : (ts us : List Test) → Numbered ts → first_fault ts ≡ 0 → first_place (ts ++ us) ≡ first_place us
place-append ts us h e = place-passed ts us (none ts h e)

pub place-before : (ts us : List Test) → first_fault ts ≢ 0 → first_place (ts ++ us) ≡ first_place ts
unfolding first_fault first_place
place-before [] us nz = absurd (nz refl)
place-before (t ∷ ts) us nz = go t.applies nz (place-before ts us)
  where
    go : (b : Bool) → cond b t.number (first_fault ts) ≢ 0 → (first_fault ts ≢ 0 → first_place (ts ++ us) ≡ first_place ts)
        → cond b t.place (first_place (ts ++ us)) ≡ cond b t.place (first_place ts)
    go true nz next = refl
    go false nz next = next nz

-- A test gives a number that has a place, or the place 0.
abbrev pub sound_place : Test → Bool
sound_place t = has_place t.number || eqb t.place 0

-- So where all tests do, every other number is given with the place 0.
pub place-zero : (ts : List Test) → ((t : Test) → Mem t ts → sound_place t ≡ true) → has_place (first_fault ts) ≡ false → first_place ts ≡ 0
unfolding first_fault first_place
place-zero [] h e = refl
place-zero (t ∷ ts) h e = go t.applies e (place-zero ts (λ u m. h u (inr m)))
  where
    zero-place : has_place t.number ≡ false → t.place ≡ 0
    zero-place z = eqb-true t.place 0 (rw z at (h t (inl refl)))

    go : (b : Bool) → has_place (cond b t.number (first_fault ts)) ≡ false → (has_place (first_fault ts) ≡ false → first_place ts ≡ 0) → cond b t.place (first_place ts) ≡ 0
    go true e next = zero-place e
    go false e next = next e
