-- Laws of one entry: its vectors one after the other, and an entry with a least point as a candidate and as its bytes.
use mathlib.Core.Path.{◌≡◌, refl, sym, ap, ◌∙◌, subst}
use mathlib.Core.Logic.{inl, inr}
use mathlib.Core.List.{◌∷◌, ◌++◌}
use Prim.Native.Nat.{ℕ, zero, suc, ◌+◌, ◌-◌, ◌/◌, ◌%◌, ◌^◌, ◌≤◌, ◌<◌}
use native.Mathlib.Omega.{arith}
use lib.Dec.{eqb}
use lib.Bits.{bit_and}
use lib.ListN.{length, replicate}
use borrow.Author.Tests.{eqb-true, ltb-true}
use Rattle.gf2.specs.Finite.{Mem}
use Rattle.gf2.specs.Basis.{reduce}
use Rattle.gf2.proofs.Logic.{and_l, and_r}
use Rattle.cubes.specs.Cubes.{IsCandidate}
use Rattle.cubes.specs.Records.{candidate_length, candidate_bytes}
use Rattle.cubes.proofs.Candidates.{candidate-of}
use Rattle.bases.specs.Bases.{vectors_of, mask_of, fits_entry, takes_point}
use Rattle.bases.specs.Entry.{candidate_at, EntryAt}
use Rattle.bases.proofs.Masks.{mask-least, mask_below}
use Rattle.bases.proofs.Table.{entry-mask, entry-reduced, entry-bytes}

-- ---- the vectors one after the other

pub vectors-length : (d e : ℕ) → length (vectors_of d e) ≡ d
unfolding vectors_of
vectors-length zero e = refl
vectors-length (suc d) e = ap suc (vectors-length d (e / 256))

pub vectors-step : (l e : ℕ) → 0 < l → vectors_of l e ≡ e % 256 ∷ vectors_of (l - 1) (e / 256)
unfolding vectors_of
vectors-step zero e h = absurd (omega arith)
vectors-step (suc l) e h = let q : suc l - 1 ≡ l = omega arith in rw q

-- What holds of every vector holds of the first, and of every one behind it.
pub vectors-each : (P : ℕ → Type 0) (l e : ℕ) → 0 < l → ((c : ℕ) → Mem c (vectors_of l e) → P c) → P (e % 256) × ((c : ℕ) → Mem c (vectors_of (l - 1) (e / 256)) → P c)
vectors-each P l e h f = (
  f (e % 256) (subst (Mem (e % 256)) (sym (vectors-step l e h)) (inl refl)),
  λ c m. f c (subst (Mem c) (sym (vectors-step l e h)) (inr m)),
)

-- ---- an entry with a least point

module _ {n d p e : ℕ} (k : EntryAt n d p e) where
  six : d ≤ 6
  six = omega (arith, k.few, k.short)

  pub entry-candidate : IsCandidate n (candidate_at d p e)
  unfolding takes_point
  entry-candidate =
      let t = k.taken in
      let r = entry-reduced d e six k.listed in
      let q = entry-mask d e six k.listed in
      let b = ltb-true (mask_of e) (2 ^ n) (and_l (fits_entry n e) (eqb (bit_and p (mask_of e)) 0) t) in
      let z = and_r (fits_entry n e) (eqb (bit_and p (mask_of e)) 0) t in
      candidate-of n p (vectors_of d e) r ((mask_below n (vectors_of d e) r).0 (subst (λ (x : ℕ). x < 2 ^ n) q b)) k.point
      (eqb-true (reduce (vectors_of d e) p) p (sym (mask-least (vectors_of d e) r p) ∙ ap (λ (x : ℕ). eqb (bit_and p x) 0) (sym q) ∙ z))

  pub entry-written : d ∷ p ∷ vectors_of 6 e ≡ candidate_bytes (candidate_at d p e)
  unfolding candidate_bytes
  entry-written =
      let q : 6 - d ≡ candidate_length - (2 + d) = omega arith in
      ap (λ l. d ∷ p ∷ l) (entry-bytes d e six k.listed ∙ ap (λ (z : ℕ). vectors_of d e ++ replicate z 0) q)
      ∙ ap (λ (z : ℕ). z ∷ p ∷ vectors_of d e ++ replicate (candidate_length - (2 + z)) 0) (sym (vectors-length d e))
