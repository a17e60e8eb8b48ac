-- Laws of the table by place: its bounds, and the entries of a number of vectors. Read next: LeadBits.
use mathlib.Core.Path.{◌≡◌, refl, sym, ap, ap₂, ◌∙◌, subst}
use mathlib.Core.List.{List, [], ◌∷◌}
use mathlib.Core.Bool.{true, ◌&&◌}
use Prim.Native.Nat.{ℕ, ◌+◌, ◌-◌, ◌≤◌, ◌<◌}
use native.Mathlib.Omega.{arith}
use lib.Dec.{leb, eqb}
use lib.ListN.{length, get_or, take, drop}
use borrow.Rule.Slice.PartMut.{mid_of}
use lib.Seq.{length-slice, get_or-drop, get_or-take}
use borrow.Author.Tests.{leb-true, eqb-true}
use Rattle.std.proofs.lemmas.List.{drop-take}
use Rattle.gf2.specs.Finite.{Mem, all}
use Rattle.gf2.proofs.Logic.{and_l, and_r}
use Rattle.gf2.proofs.Finite.{all-at, get_d-mem}
use Rattle.bases.specs.Entries.{entries}
use Rattle.bases.specs.Bases.{entry_count, start, stop, entries_of}

-- ---- bounds

pub entries-length : length entries ≡ entry_count
unfolding entries
entries-length = refl

all-bounds : all (λ d. leb (start d) (stop d) && leb (stop d) entry_count) 7 ≡ true
unfolding all
all-bounds = refl

pub bounds : (d : ℕ) → d ≤ 6 → (start d ≤ stop d) × (stop d ≤ entry_count)
bounds d h =
    let t = all-at (λ d. leb (start d) (stop d) && leb (stop d) entry_count) 7 all-bounds d (omega arith) in
    (leb-true (start d) (stop d) (and_l (leb (start d) (stop d)) (leb (stop d) entry_count) t), leb-true (stop d) entry_count (and_r (leb (start d) (stop d)) (leb (stop d) entry_count) t))

-- ---- entries

-- The entries of d vectors, by their place in the table.
pub entries-count : (d : ℕ) → d ≤ 6 → length (entries_of d) ≡ stop d - start d
unfolding entries_of
entries-count d h = length-slice (start d) (stop d) entries (omega (arith, (bounds d h).1, entries-length))

pub entry_at : (d i : ℕ) → start d ≤ i → i < stop d → get_or (entries_of d) (i - start d) 0 ≡ get_or entries i 0
unfolding entries_of
entry_at d i k l =
    let q : start d + (i - start d) ≡ i = omega arith in
    get_or-drop (start d) (take (stop d) entries) (i - start d) 0 ∙ ap (λ (j : ℕ). get_or (take (stop d) entries) j 0) q ∙ get_or-take (stop d) entries i 0 l

pub entry-mem : (d i : ℕ) → d ≤ 6 → start d ≤ i → i < stop d → Mem (get_or entries i 0) (entries_of d)
entry-mem d i h k l =
    subst (λ (z : ℕ). Mem z (entries_of d)) (entry_at d i k l) (get_d-mem (entries_of d) (i - start d) 0 (omega (arith, entries-count d h)))

-- ---- the entries of a number of vectors as a part of the table, and by their index

-- Where the entries of d vectors end, at place d.
abbrev pub ends : List ℕ
ends = 2825 ∷ 2824 ∷ 2761 ∷ 2110 ∷ 715 ∷ 64 ∷ 1 ∷ 0 ∷ []

all-ends : all (λ d. eqb (get_or ends (d + 1) 0) (start d) && eqb (get_or ends d 0) (stop d)) 7 ≡ true
unfolding all
all-ends = refl

pub ends-start : (d : ℕ) → d ≤ 6 → get_or ends (d + 1) 0 ≡ start d
ends-start d h =
    eqb-true (get_or ends (d + 1) 0) (start d)
    (and_l (eqb (get_or ends (d + 1) 0) (start d)) (eqb (get_or ends d 0) (stop d)) (all-at (λ d. eqb (get_or ends (d + 1) 0) (start d) && eqb (get_or ends d 0) (stop d)) 7 all-ends d (omega arith)))

pub ends-stop : (d : ℕ) → d ≤ 6 → get_or ends d 0 ≡ stop d
ends-stop d h =
    eqb-true (get_or ends d 0) (stop d)
    (and_r (eqb (get_or ends (d + 1) 0) (start d)) (eqb (get_or ends d 0) (stop d)) (all-at (λ d. eqb (get_or ends (d + 1) 0) (start d) && eqb (get_or ends d 0) (stop d)) 7 all-ends d (omega arith)))

-- The part of the table between two ends.
pub part-entries : (d : ℕ) → d ≤ 6 → mid_of (get_or ends (d + 1) 0) (get_or ends d 0 - get_or ends (d + 1) 0) entries ≡ entries_of d
unfolding entries_of
part-entries d h =
    let q : start d + (stop d - start d) ≡ stop d = omega (arith, (bounds d h).0) in
    ap₂ (λ (a b : ℕ). mid_of a (b - a) entries) (ends-start d h) (ends-stop d h)
    ∙ sym (drop-take (start d) (stop d - start d) entries) ∙ ap (λ (b : ℕ). drop (start d) (take b entries)) q

module _ (part : List ℕ) (d k : ℕ) (six : d ≤ 6) (own : part ≡ entries_of d) where
  pub part-below : k < length part → start d + k < stop d
  part-below h = omega (arith, ap length own, entries-count d six)

  -- The one at an index.
  pub part-entry : k < length part → get_or part k 0 ≡ get_or entries (start d + k) 0
  part-entry h =
      let q : start d + k - start d ≡ k = omega arith in
      ap₂ (λ (l : List ℕ) (i : ℕ). get_or l i 0) own (sym q) ∙ entry_at d (start d + k) (omega arith) (part-below h)

  -- Beyond the last index stands the end of the entries.
  pub part-end : k ≡ length part → start d + k ≡ stop d
  part-end e = omega (arith, (bounds d six).0, ap length own, entries-count d six, e)
