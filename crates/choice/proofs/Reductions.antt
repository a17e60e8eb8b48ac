-- Laws of the least point of a coset: found vector by vector of an entry, it is the least point of the only candidate of the entry's space that
-- holds the point. Read next: First.
use mathlib.Core.Path.{◌≡◌, sym, ap, ◌∙◌}
use mathlib.Core.Bool.{true}
use Prim.Native.Nat.{ℕ, ◌-◌, ◌/◌, ◌%◌, ◌≤◌, ◌<◌}
use native.Mathlib.Omega.{arith}
use lib.Dec.{eqb}
use lib.Bits.{bit_and}
use borrow.Author.Tests.{eq-eqb}
use Rattle.gf2.specs.Bits.{◌⊕◌}
use Rattle.gf2.specs.Finite.{Mem}
use Rattle.gf2.specs.Basis.{clear, reduce}
use Rattle.gf2.proofs.Reduce.{reduced-pos, reduce-span, span-reduce, reduce-le, reduce-coset, reduce-twice}
use Rattle.cubes.specs.Cubes.{Candidate, spans, points_of, IsCandidate}
use Rattle.cubes.proofs.Cubes.{spans-is, least-reduce}
use Rattle.bases.specs.Bases.{entries_of, vectors_of, fits_entry, takes_point}
use Rattle.bases.proofs.Masks.{mask-least}
use Rattle.bases.proofs.Table.{entry-mask, entry-reduced}
use Rattle.bases.specs.Entry.{candidate_at, EntryAt}
use Rattle.bases.proofs.Entry.{vectors-step}
use Rattle.choice.specs.Search.{Positive, Search, least_point}

-- ---- the vectors of an entry one after the other

pub reduce-on : (l e x : ℕ) → 0 < l → reduce (vectors_of (l - 1) (e / 256)) (clear (e % 256) x) ≡ reduce (vectors_of l e) x
unfolding reduce
reduce-on l e x h = ap (λ bs. reduce bs x) (sym (vectors-step l e h))

pub reduce-end : (l e x : ℕ) → l ≤ 0 → x ≡ reduce (vectors_of l e) x
unfolding vectors_of reduce
reduce-end l e x h = let q : 0 ≡ l = omega arith in ap (λ (z : ℕ). reduce (vectors_of z e) x) q

-- ---- the candidate of an entry's space that holds a point

pub entry-positive : (d e : ℕ) → d ≤ 6 → Mem e (entries_of d) → Positive (vectors_of d e)
entry-positive d e h k = reduced-pos (vectors_of d e) (entry-reduced d e h k)

pub six : {m on d x : ℕ} → Search m on d x → d ≤ 6
six s = omega (arith, s.few, s.short)

module _ {m on d x : ℕ} (s : Search m on d x) (e : ℕ) (k : Mem e (entries_of d)) where
  pub holding-entry : fits_entry m e ≡ true → EntryAt m d (least_point d x e) e
  unfolding takes_point
  holding-entry f =
      let r = entry-reduced d e (six s) k in
      let p = least_point d x e in record {
        few = s.few;
        short = s.short;
        point = omega (arith, reduce-le (vectors_of d e) r x, s.point);
        listed = k;
        taken = rw f (ap (λ (z : ℕ). eqb (bit_and p z) 0) (entry-mask d e (six s) k) ∙ mask-least (vectors_of d e) r p ∙ eq-eqb (reduce (vectors_of d e) p) p (reduce-twice (vectors_of d e) r x));
      }

  pub holding-point : points_of (candidate_at d (least_point d x e) e) x ≡ true
  unfolding points_of spans
  holding-point =
      let r = entry-reduced d e (six s) k in
      eq-eqb (reduce (vectors_of d e) (x ⊕ least_point d x e)) 0 (span-reduce (vectors_of d e) r (x ⊕ least_point d x e) (reduce-span (vectors_of d e) x))

-- A candidate that holds x has the least point of the coset of x.
pub holding-only : (m : ℕ) (c : Candidate) → IsCandidate m c → (x : ℕ) → points_of c x ≡ true → c.point ≡ reduce c.vectors x
unfolding points_of
holding-only m c k x h =
    sym (reduce-coset c.vectors k.reduced x c.point ((spans-is c.vectors k.reduced (x ⊕ c.point)).0 h) ∙ least-reduce c.vectors k.reduced c.point k.least)
