-- Laws of the entries of the table of bases as a walk meets them, one after the other. Read next: Steps.
use mathlib.Core.Path.{◌≡◌, refl, sym, ap, ap₂, ◌∙◌}
use mathlib.Core.Bool.{true, false, cond}
use mathlib.Core.Logic.{◌≢◌}
use mathlib.Core.List.{List, ◌∷◌, ◌++◌, map}
use Prim.Native.Nat.{ℕ, zero, suc, ◌+◌, ◌-◌, ◌*◌, ◌%◌, ◌^◌, ◌≤◌, ◌<◌}
use native.Mathlib.Numerals.{add-one}
use native.Mathlib.Omega.{arith}
use lib.Bits.{bit_and}
use lib.Dec.{eqb}
use lib.ListN.{length, get_or, drop}
use lib.Pow.{shl_exact}
use lib.Seq.{slice-cons}
use borrow.Author.Tests.{eq-eqb, ne_eqb}
use Rattle.cubes.specs.Lists.{keep}
use Rattle.cubes.specs.Cubes.{Candidate}
use Rattle.bases.specs.Entries.{entries}
use Rattle.bases.specs.Bases.{start, stop, entries_of, avoided, takes_point}
use Rattle.bases.specs.Entry.{candidate_at}
use Rattle.bases.proofs.Bounds.{entries-length, bounds, entry-mem, part-below, part-entry}
use Rattle.bases.proofs.LeadBits.{avoided-small, takes-avoided}
use Rattle.walk.specs.Places.{taken_from, placed}

-- The entries from place i on: the first, if it is taken, and those from the next place on.
taken-cons : (n d p i : ℕ) → d ≤ 6 → i < stop d
    → taken_from n d p i ≡ cond (takes_point n p (get_or entries i 0)) (get_or entries i 0 ∷ taken_from n d p (i + 1)) (taken_from n d p (i + 1))
unfolding keep
taken-cons n d p i h k =
    let l : stop d ≤ length entries = omega (arith, (bounds d h).1, entries-length) in
    rw (add-one) (ap (keep (takes_point n p)) (slice-cons i (stop d) entries 0 k l))

-- One place on: the candidate of an entry that is taken, or nothing, is in front.
module _ (n d p i : ℕ) (h : d ≤ 6) (k : i < stop d) (rest : List Candidate) where
  placed-cons : placed n d p i rest
      ≡ map (candidate_at d p) (cond (takes_point n p (get_or entries i 0)) (get_or entries i 0 ∷ taken_from n d p (i + 1)) (taken_from n d p (i + 1))) ++ rest
  placed-cons = ap (λ l. map (candidate_at d p) l ++ rest) (taken-cons n d p i h k)

  pub placed-next : takes_point n p (get_or entries i 0) ≡ false → placed n d p i rest ≡ placed n d p (i + 1) rest
  placed-next e = rw e at placed-cons

  pub placed-taken : takes_point n p (get_or entries i 0) ≡ true → placed n d p i rest ≡ candidate_at d p (get_or entries i 0) ∷ placed n d p (i + 1) rest
  placed-taken e = rw e at placed-cons

-- What the test of the lead bits says of the entry at an index.
module _ (n d p : ℕ) (few : n ≤ 6) (short : d ≤ n) (below : p < 2 ^ n) (part : List ℕ) (own : part ≡ entries_of d)
    (k : ℕ) (within : k < length part) (v : ℕ) (e : v ≡ avoided n p) where
  tested : eqb (bit_and (get_or part k 0) (v * 2 ^ 48 % 2 ^ 64)) 0 ≡ takes_point n p (get_or entries (start d + k) 0)
  tested =
      let six : d ≤ 6 = omega arith in
      ap₂ (λ (x w : ℕ). eqb (bit_and x (w * 2 ^ 48 % 2 ^ 64)) 0) (part-entry part d k six own within) e
      ∙ ap (λ (w : ℕ). eqb (bit_and (get_or entries (start d + k) 0) w) 0) (shl_exact 6 48 64 (avoided-small n p few below) (omega arith))
      ∙ sym (takes-avoided n d p (get_or entries (start d + k) 0) few six below (entry-mem d (start d + k) six (omega arith) (part-below part d k six own within)))

  pub taken-not : bit_and (get_or part k 0) (v * 2 ^ 48 % 2 ^ 64) ≢ 0 → takes_point n p (get_or entries (start d + k) 0) ≡ false
  taken-not z = sym tested ∙ ne_eqb (bit_and (get_or part k 0) (v * 2 ^ 48 % 2 ^ 64)) 0 z

  pub taken : bit_and (get_or part k 0) (v * 2 ^ 48 % 2 ^ 64) ≡ 0 → takes_point n p (get_or entries (start d + k) 0) ≡ true
  taken z = sym tested ∙ eq-eqb (bit_and (get_or part k 0) (v * 2 ^ 48 % 2 ^ 64)) 0 z

-- One candidate skipped, and one less to skip.
pub drop-one : (k : ℕ) (c : Candidate) (cs : List Candidate) → k ≢ 0 → drop k (c ∷ cs) ≡ drop (k - 1) cs
drop-one zero c cs h = absurd (h refl)
drop-one (suc k) c cs h = let q : k ≡ suc k - 1 = omega arith in ap (λ (z : ℕ). drop z cs) q
