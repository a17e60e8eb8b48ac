-- The table is right for six variables, by computation, and so serves every smaller number of variables. Read next: Bounds.
use mathlib.Core.Path.{◌≡◌, refl, sym, ap, ◌∙◌, subst}
use mathlib.Core.Bool.{Bool, true, ◌&&◌}
use mathlib.Core.Logic.{inl, inr}
use mathlib.Core.List.{List, ◌∷◌, ◌++◌, map, flat_map, map-map}
use Prim.Native.Nat.{ℕ, ◌-◌, ◌^◌, ◌≤◌}
use native.Mathlib.Omega.{arith}
use lib.Dec.{ltb, eqb}
use lib.ListN.{replicate}
use lib.Pow.{pow_mono}
use lib.Bits.{bit_and}
use borrow.Author.Tests.{ltb-true, lt-ltb}
use Rattle.gf2.specs.Bits.{bit, halvings, lead}
use Rattle.gf2.specs.Finite.{Mem, select}
use Rattle.gf2.specs.Basis.{Reduced, reduce, lead_mask}
use Rattle.gf2.proofs.Finite.{mem-map, mem-select}
use Rattle.cubes.specs.Lists.{keep}
use Rattle.cubes.specs.Cubes.{candidate}
use Rattle.cubes.specs.Candidates.{Lexicographic, bases, vectors, candidates_at}
use Rattle.cubes.proofs.Lists.{keep-mem, mem-keep, keep-ext, keep-map, keep-keep, ordered-keep, ordered_same}
use Rattle.cubes.proofs.Candidates.{basis-is, lexicographic-not, bases-ordered, vectors-rising}
use Rattle.bases.specs.Entries.{entries}
use Rattle.bases.specs.Bases.{entries_of, vectors_of, mask_of, fits_entry, takes_point}
use Rattle.bases.proofs.Masks.{mask-least, mask_below}

-- ---- six variables, computed

all-bases : map (λ d. map (vectors_of d) (entries_of d)) (select (λ d. true) 7) ≡ map (λ d. bases d (vectors 6)) (select (λ d. true) 7)
unfolding entries entries_of vectors_of bases flat_map keep select bit halvings lead
all-bases = refl

all-masks : map (λ d. map mask_of (entries_of d)) (select (λ d. true) 7) ≡ map (λ d. map (λ e. lead_mask (vectors_of d e)) (entries_of d)) (select (λ d. true) 7)
unfolding entries entries_of vectors_of lead_mask select halvings lead
all-masks = refl

all-bytes : map (λ d. map (vectors_of 6) (entries_of d)) (select (λ d. true) 7) ≡ map (λ d. map (λ e. vectors_of d e ++ replicate (6 - d) 0) (entries_of d)) (select (λ d. true) 7)
unfolding entries entries_of vectors_of select
all-bytes = refl

-- Maps that agree over a list agree on each member.
map_at : {A B : Type 0} (f g : A → B) (l : List A) → map f l ≡ map g l → (a : A) → Mem a l → f a ≡ g a
map_at {A = A} {B = B} f g mathlib.Core.List.[] e a h = elim h [ ]
map_at f g (b ∷ l) e a (inl q) = rw q (cc)
map_at f g (b ∷ l) e a (inr m) = map_at f g l (cc) a m

-- The entries of d vectors are the reduced bases of d vectors of six variables, in their order.
pub entries-bases : (d : ℕ) → d ≤ 6 → map (vectors_of d) (entries_of d) ≡ bases d (vectors 6)
entries-bases d h = map_at (λ d. map (vectors_of d) (entries_of d)) (λ d. bases d (vectors 6)) (select (λ d. true) 7) all-bases d (mem-select (λ d. true) 7 d (omega arith) refl)

-- Above its vectors an entry has their lead bits.
pub entry-mask : (d e : ℕ) → d ≤ 6 → Mem e (entries_of d) → mask_of e ≡ lead_mask (vectors_of d e)
entry-mask d e h m = map_at mask_of (λ e. lead_mask (vectors_of d e)) (entries_of d)
    (map_at (λ d. map mask_of (entries_of d)) (λ d. map (λ e. lead_mask (vectors_of d e)) (entries_of d)) (select (λ d. true) 7) all-masks d (mem-select (λ d. true) 7 d (omega arith) refl)) e m

-- The bytes between its vectors and its lead bits are 0.
pub entry-bytes : (d e : ℕ) → d ≤ 6 → Mem e (entries_of d) → vectors_of 6 e ≡ vectors_of d e ++ replicate (6 - d) 0
entry-bytes d e h m = map_at (vectors_of 6) (λ e. vectors_of d e ++ replicate (6 - d) 0) (entries_of d)
    (map_at (λ d. map (vectors_of 6) (entries_of d)) (λ d. map (λ e. vectors_of d e ++ replicate (6 - d) 0) (entries_of d)) (select (λ d. true) 7) all-bytes d (mem-select (λ d. true) 7 d (omega arith) refl)) e m

pub entry-reduced : (d e : ℕ) → d ≤ 6 → Mem e (entries_of d) → Reduced (vectors_of d e)
entry-reduced d e h m = ((basis-is 6 d (vectors_of d e)).0 (subst (Mem (vectors_of d e)) (entries-bases d h) (mem-map (vectors_of d) (entries_of d) e m))).0

-- ---- fewer variables: the bases whose lead bits fit

fewer : (n d : ℕ) → n ≤ 6 → keep (λ bs. ltb (lead_mask bs) (2 ^ n)) (bases d (vectors 6)) ≡ bases d (vectors n)
fewer n d h = ordered_same Lexicographic lexicographic-not (keep fits (bases d (vectors 6))) (bases d (vectors n))
    (ordered-keep Lexicographic fits (bases d (vectors 6)) (bases-ordered d (vectors 6) (vectors-rising 6))) (bases-ordered d (vectors n) (vectors-rising n)) into back
  where
    fits : List ℕ → Bool
    fits bs = ltb (lead_mask bs) (2 ^ n)

    into : (bs : List ℕ) → Mem bs (keep fits (bases d (vectors 6))) → Mem bs (bases d (vectors n))
    into bs m =
        let k = keep-mem fits (bases d (vectors 6)) bs m in
        let f = (basis-is 6 d bs).0 k.0 in
        (basis-is n d bs).1 (f.0, f.1, (mask_below n bs f.0).0 (ltb-true (lead_mask bs) (2 ^ n) k.1))

    back : (bs : List ℕ) → Mem bs (bases d (vectors n)) → Mem bs (keep fits (bases d (vectors 6)))
    back bs m =
        let f = (basis-is n d bs).0 m in
        mem-keep fits (bases d (vectors 6)) bs ((basis-is 6 d bs).1 (f.0, f.1, λ c i. omega (arith, f.2 c i, pow_mono h)))
        (lt-ltb (lead_mask bs) (2 ^ n) ((mask_below n bs f.0).1 f.2))

-- The same table for every number of variables up to six.
pub entries-fewer : (n d : ℕ) → n ≤ 6 → d ≤ 6 → map (vectors_of d) (keep (fits_entry n) (entries_of d)) ≡ bases d (vectors n)
entries-fewer n d h k =
    ap (map (vectors_of d)) (keep-ext (fits_entry n) (λ e. ltb (lead_mask (vectors_of d e)) (2 ^ n)) (entries_of d) (λ e m. ap (λ (z : ℕ). ltb z (2 ^ n)) (entry-mask d e k m)))
    ∙ sym (keep-map (vectors_of d) (λ bs. ltb (lead_mask bs) (2 ^ n)) (entries_of d)) ∙ ap (keep (λ bs. ltb (lead_mask bs) (2 ^ n))) (entries-bases d k) ∙ fewer n d h

-- The candidates of degree d with least point p: the entries that fit and have none of their lead bits in p.
pub entries_at : (n d p : ℕ) → n ≤ 6 → d ≤ 6 → candidates_at n d p ≡ map (λ e. candidate p (vectors_of d e)) (keep (takes_point n p) (entries_of d))
unfolding takes_point
entries_at n d p h k =
    ap (λ l. map (candidate p) (keep (λ bs. eqb (reduce bs p) p) l)) (sym (entries-fewer n d h k))
    ∙ ap (map (candidate p)) (keep-map (vectors_of d) (λ bs. eqb (reduce bs p) p) (keep (fits_entry n) (entries_of d))
    ∙ ap (map (vectors_of d)) (keep-keep (fits_entry n) (λ e. eqb (reduce (vectors_of d e) p) p) (entries_of d)
    ∙ keep-ext (λ e. fits_entry n e && eqb (reduce (vectors_of d e) p) p) (takes_point n p) (entries_of d) test))
    ∙ map-map (candidate p) (vectors_of d) (keep (takes_point n p) (entries_of d))
  where
    test : (e : ℕ) → Mem e (entries_of d) → fits_entry n e && eqb (reduce (vectors_of d e) p) p ≡ takes_point n p e
    test e m =
        ap (λ (t : Bool). fits_entry n e && t)
        (sym (mask-least (vectors_of d e) (entry-reduced d e k m) p) ∙ ap (λ (z : ℕ). eqb (bit_and p z) 0) (sym (entry-mask d e k m)))
