-- A space has at most one reduced basis. Read next: Insert.
use mathlib.Core.Path.{◌≡◌, refl, sym, ap₂, subst}
use mathlib.Core.Bool.{false}
use mathlib.Core.Logic.{inl, inr, ◌≢◌}
use mathlib.Core.List.{List, [], ◌∷◌}
use Prim.Native.Nat.{ℕ, ◌≤◌, ◌<◌}
use native.Mathlib.Nat.{le_of_eq, le_of_lt, le_antisymm, ne_of_gt, le_trans}
use native.Mathlib.Decide.{ℕ_discrete}
use native.Mathlib.Omega.{arith}
use Rattle.gf2.specs.Bits.{◌⊕◌, has_lead}
use Rattle.gf2.specs.Span.{Span}
use Rattle.gf2.specs.Basis.{Reduced}
use Rattle.gf2.proofs.Logic.{clash}
use Rattle.gf2.proofs.Xor.{xor-eq}
use Rattle.gf2.proofs.Leads.{has_lead-lt}
use Rattle.gf2.proofs.Span.{span-mem}
use Rattle.gf2.proofs.Reduce.{has_lead-flip, span-lead}

-- The first vector is the least of the span but 0.
pub first-least : (b : ℕ) (bs : List ℕ) → Reduced (b ∷ bs) → (x : ℕ) → Span (b ∷ bs) x → x ≢ 0 → b ≤ x
first-least b [] r x (inl e) n = absurd (n e)
first-least b [] r x (inr e) n = le_of_eq (sym (xor-eq x b e))
first-least b (c ∷ cs) r x (inl p) n = le_trans (le_of_lt (r.1 c (inl refl)).rises) (first-least c cs r.2 x p n)
first-least b (c ∷ cs) r x (inr p) n =
    past (ℕ_discrete (x ⊕ b) 0) (r.1 c (inl refl)).rises (first-least c cs r.2 (x ⊕ b) p)
    (has_lead-lt b x r.0 (has_lead-flip b x r.0 (span-lead b (c ∷ cs) r (x ⊕ b) p)))
  where
    past : Dec (x ⊕ b ≡ 0) → b < c → (x ⊕ b ≢ 0 → c ≤ x ⊕ b) → x ⊕ b < x → b ≤ x
    past (yes e) h f l = le_of_eq (sym (xor-eq x b e))
    past (no m) h f l = omega (arith, f m)

-- The span of the later vectors is what has the first one's lead bit clear.
pub tail-span : (b : ℕ) (bs : List ℕ) → 0 < b → ((x : ℕ) → Span bs x → has_lead b x ≡ false) → (x : ℕ) → Span (b ∷ bs) x → has_lead b x ≡ false → Span bs x
tail-span b bs p h x (inl q) e = q
tail-span b bs p h x (inr q) e = clash (has_lead-flip b x p (h (x ⊕ b) q)) e

pub unique : (bs cs : List ℕ) → Reduced bs → Reduced cs → ((x : ℕ) → Span bs x → Span cs x) → ((x : ℕ) → Span cs x → Span bs x) → bs ≡ cs
unique [] [] r s f g = refl
unique [] (c ∷ cs) r s f g = absurd (omega (arith, s.0, g c (span-mem (c ∷ cs) c (inl refl))))
unique (b ∷ bs) [] r s f g = absurd (omega (arith, r.0, f b (span-mem (b ∷ bs) b (inl refl))))
unique (b ∷ bs) (c ∷ cs) r s f g =
    let e : b ≡ c = le_antisymm (first-least b bs r c (g c (span-mem (c ∷ cs) c (inl refl))) (ne_of_gt s.0))
    (first-least c cs s b (f b (span-mem (b ∷ bs) b (inl refl))) (ne_of_gt r.0)) in
    ap₂ ◌∷◌ e (unique bs cs r.2 s.2
    (λ x p. tail-span c cs s.0 (span-lead c cs s) x (f x (inl p)) (subst (λ (d : ℕ). has_lead d x ≡ false) e (span-lead b bs r x p)))
    (λ x p. tail-span b bs r.0 (span-lead b bs r) x (g x (inl p)) (subst (λ (d : ℕ). has_lead d x ≡ false) (sym e) (span-lead c cs s x p))))
