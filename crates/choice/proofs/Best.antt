-- Laws of the best candidate so far: what one entry changes, one law for each way it can go, and that after all entries of a degree it is the first
-- prime of that degree that holds the point. Read next: Taking.
use mathlib.Core.Path.{◌≡◌, refl, sym, ap, ap₂, ◌∙◌, subst}
use mathlib.Core.Bool.{Bool, true, false, not, cond, ◌&&◌}
use mathlib.Core.Logic.{inl, inr}
use mathlib.Core.List.{List, [], ◌∷◌, map}
use Rattle.std.specs.Prelude.{Option, None, Some}
use Prim.Native.Nat.{ℕ, ◌+◌, ◌-◌, ◌≤◌, ◌<◌}
use native.Mathlib.Decide.{ℕ_discrete}
use native.Mathlib.Omega.{arith}
use lib.Dec.{leb}
use lib.ListN.{get_or}
use borrow.Author.Tests.{leb-true, leb-false}
use Rattle.gf2.specs.Finite.{Mem, Ordered}
use Rattle.gf2.proofs.Logic.{clash, and-false}
use Rattle.gf2.proofs.Finite.{map-mem, mem-map}
use Rattle.table.proofs.Table.{refuted}
use Rattle.product.proofs.Product.{ordered_at, mem-at}
use Rattle.gf2.specs.Basis.{reduce}
use Rattle.cubes.specs.Lists.{keep}
use Rattle.cubes.specs.Cubes.{Candidate, candidate, degree, points_of, IsCandidate}
use Rattle.cubes.specs.Candidates.{Lexicographic, Earlier, Before, vectors, candidates_of}
use Rattle.cubes.proofs.Lists.{keep-mem, mem-keep, ordered-keep}
use Rattle.cubes.proofs.Cubes.{vectors-below}
use Rattle.cubes.proofs.Candidates.{basis-is, lexicographic-not, bases-ordered, vectors-rising, degree-sound, degree-complete, degree-ordered}
use Rattle.bases.specs.Entries.{entries}
use Rattle.bases.specs.Bases.{start, stop, entries_of, vectors_of, fits_entry}
use Rattle.bases.proofs.Table.{entries-bases, entries-fewer}
use Rattle.bases.specs.Entry.{candidate_at, EntryAt}
use Rattle.bases.proofs.Bounds.{bounds, entries-count, entry_at, entry-mem}
use Rattle.bases.proofs.Entry.{vectors-length, entry-candidate}
use Rattle.cover.specs.Choice.{first_holding}
use Rattle.choice.specs.declared.Prime.{Prime}
use Rattle.choice.specs.Search.{Search, PrimeAt, found_of, FoundAt, least_point, stays, better_of}
use Rattle.choice.proofs.Reductions.{six, holding-entry, holding-point, holding-only}
use Rattle.choice.proofs.First.{first-none, first-least}

-- ---- one entry

module _ (prime : Candidate → Bool) (m d x e : ℕ) (best : Option Prime) where
  pub better-wide : fits_entry m e ≡ false → best ≡ better_of prime m d x e best
  unfolding better_of
  better-wide h = rw h

  -- p is the least point of the coset of x.
  module _ (p : ℕ) (q : p ≡ least_point d x e) where
    pub better-stays : stays best p ≡ true → best ≡ better_of prime m d x e best
    unfolding better_of
    better-stays h = let t : stays best (least_point d x e) ≡ true = ap (stays best) (sym q) ∙ h in rw (t, and-false (fits_entry m e))

    pub better-fails : prime (candidate_at d p e) ≡ false → best ≡ better_of prime m d x e best
    unfolding better_of
    better-fails h =
        let t : prime (candidate_at d (least_point d x e) e) ≡ false = ap (λ (z : ℕ). prime (candidate_at d z e)) (sym q) ∙ h in
        rw (t, and-false (not (stays best (least_point d x e))), and-false (fits_entry m e))

    pub better-new : fits_entry m e ≡ true → stays best p ≡ false → prime (candidate_at d p e) ≡ true
        → Some (record { degree = d; point = p; entry = e }) ≡ better_of prime m d x e best
    unfolding better_of
    better-new f s h =
        let t : stays best (least_point d x e) ≡ false = ap (stays best) (sym q) ∙ s in
        let u : prime (candidate_at d (least_point d x e) e) ≡ true = ap (λ (z : ℕ). prime (candidate_at d z e)) (sym q) ∙ h in
        rw (f, t, u, q)

-- ---- the entries in their order

-- The entry at a place of the table, and the candidate of its space that holds x.
abbrev pub at : ℕ → ℕ
at j = get_or entries j 0

abbrev pub holding : ℕ → ℕ → ℕ → Candidate
holding d x j = candidate_at d (least_point d x (at j)) (at j)

ordered-unmap : {A B : Type 0} (R : B → B → Type 0) (f : A → B) (l : List A) → Ordered R (map f l) → Ordered (λ (a b : A). R (f a) (f b)) l
ordered-unmap R f [] o = tt
ordered-unmap R f (a ∷ l) o = (λ b k. o.0 (f b) (mem-map f l b k), ordered-unmap R f l o.1)

places-ordered : (d k i : ℕ) → d ≤ 6 → start d ≤ k → k < i → i < stop d → Lexicographic (vectors_of d (at k)) (vectors_of d (at i))
places-ordered d k i h low l high =
    let o = ordered-unmap Lexicographic (vectors_of d) (entries_of d) (subst (Ordered Lexicographic) (sym (entries-bases d h)) (bases-ordered d (vectors 6) (vectors-rising 6))) in
    let r = ordered_at (λ (a b : ℕ). Lexicographic (vectors_of d a) (vectors_of d b)) (entries_of d) 0 o (k - start d) (i - start d) (omega arith) (omega (arith, entries-count d h)) in
    let p = entry_at d k low (omega arith) in
    let q = entry_at d i (omega arith) high in
    subst (λ (z : ℕ). Lexicographic (vectors_of d z) (vectors_of d (at i))) p (subst (λ (z : ℕ). Lexicographic (vectors_of d (get_or (entries_of d) (k - start d) 0)) (vectors_of d z)) q r)

-- Every candidate of degree d that holds x is that of some place.
record HeldAt (m d x : ℕ) (b : Candidate) : Type 0 where
  place : ℕ
  low : start d ≤ place
  high : place < stop d
  fits : fits_entry m (at place) ≡ true
  same : b ≡ holding d x place

held_at : (m d x : ℕ) → m ≤ 6 → d ≤ 6 → (b : Candidate) → IsCandidate m b → degree b ≡ d → points_of b x ≡ true → HeldAt m d x b
held_at m d x h k b c q t =
    let v = map-mem (vectors_of d) (keep (fits_entry m) (entries_of d)) b.vectors
    (subst (Mem b.vectors) (sym (entries-fewer m d h k)) ((basis-is m d b.vectors).1 (c.reduced, q, vectors-below m b c))) in
    let f = keep-mem (fits_entry m) (entries_of d) v.0 v.1 in
    let i = mem-at (entries_of d) 0 v.0 f.0 in
    let j = start d + i.0 in
    let r : j - start d ≡ i.0 = omega arith in
    let high : j < stop d = omega (arith, i.1, entries-count d k, (bounds d k).0) in
    let e : v.0 ≡ at j = i.2 ∙ ap (λ (z : ℕ). get_or (entries_of d) z 0) (sym r) ∙ entry_at d j (omega arith) high in
    let vs : b.vectors ≡ vectors_of d (at j) = v.2 ∙ ap (vectors_of d) e in
    record {
      place = j;
      low = omega arith;
      high = high;
      fits = subst (λ (z : ℕ). fits_entry m z ≡ true) e f.1;
      same = ap (λ (p : ℕ). candidate p b.vectors) (holding-only m b c x t) ∙ ap (λ (l : List ℕ). candidate (reduce l x) l) vs;
    }

-- ---- all entries of a degree

-- What has been found stands at a place before i.
pub record FoundFrom (prime : Candidate → Bool) (m d x i : ℕ) (r : Prime) : Type 0 where
  pub place : ℕ
  pub low : start d ≤ place
  pub high : place < i
  pub degree : r.degree ≡ d
  pub entry : r.entry ≡ at place
  pub point : r.point ≡ least_point d x (at place)
  pub fits : fits_entry m (at place) ≡ true
  pub passes : prime (holding d x place) ≡ true

-- A prime has been found, and the candidate isn't earlier.
abbrev Found : ℕ → Option Prime → Candidate → Type 0
Found d r c = (p : Prime) × ((r ≡ Some p) × (Earlier c (candidate_at d p.point p.entry) → ⊥))

-- r is the best of the places before i: where some candidate passes, r has been found, and none that passes is earlier.
pub record Best (prime : Candidate → Bool) (m d x i : ℕ) (r : Option Prime) : Type 0 where
  pub low : start d ≤ i
  pub high : i ≤ stop d
  pub found : (p : Prime) → r ≡ Some p → FoundFrom prime m d x i p
  pub least : (j : ℕ) → start d ≤ j → j < i → fits_entry m (at j) ≡ true → prime (holding d x j) ≡ true
      → (p : Prime) × ((r ≡ Some p) × (Earlier (holding d x j) (candidate_at d p.point p.entry) → ⊥))

pub best-start : (prime : Candidate → Bool) (m d x : ℕ) → d ≤ 6 → Best prime m d x (start d) None
best-start prime m d x h = record { low = omega arith; high = (bounds d h).0; found = λ p e. absurd (cc); least = λ j l k. absurd (omega arith) }

earlier-not : (c : Candidate) → Earlier c c → ⊥
earlier-not c (inl h) = omega arith
earlier-not c (inr h) = lexicographic-not c.vectors c.vectors h.1 h.1

module _ (prime : Candidate → Bool) (m d x i : ℕ) (six : d ≤ 6) (r : Option Prime) (b : Best prime m d x i r) (more : i < stop d) where
  kept : (fits_entry m (at i) ≡ true → prime (holding d x i) ≡ true → Found d r (holding d x i))
      → Best prime m d x (i + 1) r
  kept h = record {
    low = omega (arith, b.low);
    high = omega arith;
    found = λ p a. let f = b.found p a in record {
      place = f.place;
      low = f.low;
      high = omega (arith, f.high);
      degree = f.degree;
      entry = f.entry;
      point = f.point;
      fits = f.fits;
      passes = f.passes;
    };
    least = λ j l k f t. elim (ℕ_discrete j i) [
      | yes q ↦ subst (λ (z : ℕ). Found d r (holding d x z)) (sym q)
          (h (subst (λ (z : ℕ). fits_entry m (at z) ≡ true) q f) (subst (λ (z : ℕ). prime (holding d x z) ≡ true) q t))
      | no q ↦ b.least j l (omega arith) f t
    ];
  }

  -- On equal least points the entry found before is earlier.
  staying : stays r (least_point d x (at i)) ≡ true → Found d r (holding d x i)
  staying = go r refl
    where
      go : (q : Option Prime) → r ≡ q → stays q (least_point d x (at i)) ≡ true → Found d r (holding d x i)
      go None e s = absurd (cc)
      go (Some p) e s =
          let l = leb-true p.point (least_point d x (at i)) s in
          let f = b.found p e in (
            p,
            (
              e,
              λ h. elim h [
                | inl k ↦ omega arith
                | inr k ↦ lexicographic-not (vectors_of d (at i)) (vectors_of d (at f.place)) (subst (λ (z : ℕ). Lexicographic (vectors_of d (at i)) (vectors_of d z)) f.entry k.1)
                    (places-ordered d f.place i six f.low f.high more)
              ],
            ),
          )

  abbrev new : Prime
  new = record { degree = d; point = least_point d x (at i); entry = at i }

  replaced : fits_entry m (at i) ≡ true → stays r (least_point d x (at i)) ≡ false → prime (holding d x i) ≡ true → Best prime m d x (i + 1) (Some new)
  replaced f s t = record {
    low = omega (arith, b.low);
    high = omega arith;
    found = λ p a. let q : new ≡ p = cc in
        subst (FoundFrom prime m d x (i + 1)) q (record { place = i; low = b.low; high = omega arith; degree = refl; entry = refl; point = refl; fits = f; passes = t });
    least = λ j l k g u. (
      new,
      (
        refl,
        elim (ℕ_discrete j i) [
          | yes q ↦ subst (λ (z : ℕ). Earlier (holding d x z) (holding d x i) → ⊥) (sym q) (earlier-not (holding d x i))
          | no q ↦ below j (b.least j l (omega arith) g u)
        ],
      ),
    );
  }
    where
      -- The best so far was greater, and what is earlier would be less.
      below : (j : ℕ) → Found d r (holding d x j) → Earlier (holding d x j) (holding d x i) → ⊥
      below j o h =
          let z : leb o.0.point (least_point d x (at i)) ≡ false = sym (ap (λ w. stays w (least_point d x (at i))) o.1.0) ∙ s in
          let g = leb-false o.0.point (least_point d x (at i)) z in
          o.1.1 (inl (elim h [ inl k ↦ omega arith | inr k ↦ omega (arith, k.0) ]))

  stepped : Best prime m d x (i + 1) (better_of prime m d x (at i) r)
  unfolding better_of
  stepped = go (fits_entry m (at i)) (stays r (least_point d x (at i))) (prime (holding d x i)) refl refl refl
    where
      go : (f s t : Bool) → fits_entry m (at i) ≡ f → stays r (least_point d x (at i)) ≡ s → prime (holding d x i) ≡ t
          → Best prime m d x (i + 1) (cond (f && (not s && t)) (Some new) r)
      go false s t qf qs qt = kept (λ f. clash f qf)
      go true true t qf qs qt = kept (λ f u. staying qs)
      go true false false qf qs qt = kept (λ f u. clash u qt)
      go true false true qf qs qt = replaced qf qs qt

  -- One place more.
  pub best-step : (e : ℕ) → e ≡ at i → (u : Option Prime) → u ≡ better_of prime m d x e r → Best prime m d x (i + 1) u
  best-step e q u w = subst (Best prime m d x (i + 1)) (sym (w ∙ ap (λ (z : ℕ). better_of prime m d x z r) q)) stepped

-- ---- the first of a degree

same-entry : (m d p e : ℕ) (r : Prime) → r.degree ≡ d → r.point ≡ p → r.entry ≡ e → EntryAt m d p e → PrimeAt m r
same-entry m d p e r a b c k = rw (a, b, c) k

module _ {m on d x : ℕ} (s : Search m on d x) (prime : Candidate → Bool) (r : Option Prime) (b : Best prime m d x (stop d) r) where
  entry_of : {p : Prime} (f : FoundFrom prime m d x (stop d) p) → EntryAt m d (least_point d x (at f.place)) (at f.place)
  entry_of f = holding-entry s (at f.place) (entry-mem d f.place (six s) f.low f.high) f.fits

  pub best-entry : FoundAt m r
  best-entry = go r refl
    where
      go : (q : Option Prime) → r ≡ q → FoundAt m q
      go None e = tt
      go (Some p) e = let f = b.found p e in same-entry m d (least_point d x (at f.place)) (at f.place) p f.degree f.point f.entry (entry_of f)

  -- Where one passes, something was found, and it isn't before what was found.
  passing : (c : Candidate) → Mem c (keep prime (candidates_of m d)) → points_of c x ≡ true
      → (p : Prime) × ((r ≡ Some p) × (Before c (candidate_at d p.point p.entry) → ⊥))
  passing c k t =
      let o = keep-mem prime (candidates_of m d) c k in
      let g = degree-sound m d c o.0 in
      let h = held_at m d x s.few (six s) c g.0 g.1 t in
      let l = b.least h.place h.low h.high h.fits (subst (λ z. prime z ≡ true) h.same o.1) in (
        l.0,
        (
          l.1.0,
          λ z. elim z [
            | inl w ↦ omega (arith, g.1, vectors-length d l.0.entry)
            | inr w ↦ l.1.1 (subst (λ y. Earlier y (candidate_at d l.0.point l.0.entry)) h.same w.1)
          ],
        ),
      )

  passing-not : (p : Prime) → r ≡ Some p → (c : Candidate) → Mem c (keep prime (candidates_of m d)) → points_of c x ≡ true → Before c (candidate_at d p.point p.entry) → ⊥
  passing-not p e c k t =
      let y = passing c k t in
      let q : y.0 ≡ p = cc (y.1.0) in
      subst (λ (z : Prime). Before c (candidate_at d z.point z.entry) → ⊥) q y.1.1

  pub best-first : found_of r ≡ first_holding (keep prime (candidates_of m d)) x
  unfolding found_of
  best-first = go r refl
    where
      nothing : r ≡ None → (c : Candidate) → Mem c (keep prime (candidates_of m d)) → points_of c x ≡ true → ⊥
      nothing a c k t = let y = passing c k t in cc (y.1.0)

      go : (q : Option Prime) → r ≡ q → found_of q ≡ first_holding (keep prime (candidates_of m d)) x
      go None a = sym (first-none (keep prime (candidates_of m d)) x (λ c k. refuted (points_of c x) (nothing a c k)))
      go (Some p) a =
          let f = b.found p a in
          let c = holding d x f.place in
          let e : candidate_at d p.point p.entry ≡ c = ap₂ (λ (z y : ℕ). candidate_at d z y) f.point f.entry in
          let k : Mem c (candidates_of m d) =
          subst (λ (z : ℕ). Mem c (candidates_of m z)) (vectors-length d (at f.place)) (degree-complete m c (entry-candidate (entry_of f))) in
          ap (λ (z : ℕ). candidate_at z p.point p.entry ∷ []) f.degree ∙ ap (λ z. z ∷ []) e
          ∙ sym (first-least Before (keep prime (candidates_of m d)) (ordered-keep Before prime (candidates_of m d) (degree-ordered m d)) x c
          (mem-keep prime (candidates_of m d) c k f.passes) (holding-point s (at f.place) (entry-mem d f.place (six s) f.low f.high))
          (λ z i t w. passing-not p a z i t (subst (Before z) (sym e) w)))
