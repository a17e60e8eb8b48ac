-- Laws of specs.Affine: least point, directions and projection of a non-empty rising list are those of the smallest affine space that holds
-- its points. Read next: Steps.
use mathlib.Core.Path.{◌≡◌, refl, subst}
use mathlib.Core.Bool.{Bool, true}
use mathlib.Core.Logic.{inl, inr}
use mathlib.Core.List.{List, [], ◌∷◌, map}
use Prim.Native.Nat.{ℕ, ◌^◌, ◌≤◌, ◌<◌}
use native.Mathlib.Nat.{lt_of_not-le, le_antisymm}
use native.Mathlib.Decide.{dec_le, ℕ_discrete}
use native.Mathlib.Omega.{arith}
use lib.Arith.{lt_of_le-ne}
use lib.ListN.{length}
use lib.Bits.{xor_comm, xor_lt}
use Rattle.gf2.specs.Bits.{◌⊕◌, lead}
use Rattle.gf2.specs.Finite.{Mem, holds, Rising, In}
use Rattle.gf2.specs.Span.{Span, Coset, Least, Pseudocube}
use Rattle.gf2.specs.Basis.{Reduced, reduce, is_lead, canonical_places}
use Rattle.gf2.proofs.Logic.{same}
use Rattle.gf2.proofs.Finite.{map-mem, mem-map, holds-mem, ordered-map}
use Rattle.gf2.proofs.Xor.{xor-cancel}
use Rattle.gf2.proofs.Leads.{lead-fits, differ-pos}
use Rattle.gf2.proofs.Span.{span-mem, coset-self, coset-directions}
use Rattle.gf2.proofs.Reduce.{reduce-least}
use Rattle.gf2.proofs.Unique.{unique}
use Rattle.gf2.proofs.Insert.{inserts-reduced, inserts-mem, inserts-least}
use Rattle.gf2.proofs.Variables.{mem-places, places-falling, canonical-length, span-is_lead}
use Rattle.space.specs.Restriction.{project}
use Rattle.space.specs.Affine.{directions, least_point, projection, Smallest}
use Rattle.space.proofs.Restriction.{project-below, project-less}
use Rattle.gf2.proofs.Cubes.{coset-reduce, coset-differ, coset-cube, cube-directions, whole-cube}

-- ---- the space: its basis is reduced, it holds the points, and lies in every pseudocube that does

pub directions-reduced : (ps : List ℕ) → Reduced (directions ps)
unfolding directions
directions-reduced [] = tt
directions-reduced (p ∷ ps) = inserts-reduced [] (map (λ q. q ⊕ p) ps) tt

pub affine-has : (ps : List ℕ) (q : ℕ) → Mem q ps → Coset (least_point ps) (directions ps) q
unfolding least_point directions
affine-has [] q h = elim h [ ]
affine-has (p ∷ ps) q (inl e) = (coset-reduce (directions (p ∷ ps)) p q).0 (rw e (coset-self p (directions (p ∷ ps))))
affine-has (p ∷ ps) q (inr m) = (coset-reduce (directions (p ∷ ps)) p q).0 (inserts-mem [] (map (λ z. z ⊕ p) ps) (q ⊕ p) (mem-map (λ z. z ⊕ p) ps q m))

pub affine-within : (n : ℕ) (C : ℕ → Bool) → Pseudocube n C → (p : ℕ) (ps : List ℕ) → ((q : ℕ) → Mem q (p ∷ ps) → In n C q)
    → (x : ℕ) → Coset (least_point (p ∷ ps)) (directions (p ∷ ps)) x → In n C x
unfolding least_point directions
affine-within n C c p ps h x s =
    let i = h p (inl refl) in
    let d = cube-directions n C c p i in
    let r = inserts-least (In n (λ z. C (z ⊕ p))) d [] (map (λ z. z ⊕ p) ps) (λ y e. rw e d.origin) given (x ⊕ p) ((coset-reduce (directions (p ∷ ps)) p x).1 s) in
    (subst (λ (z : ℕ). z < 2 ^ n) (xor-cancel x p) (xor_lt n (x ⊕ p) p r.0 i.0), rw (xor-cancel x p) at r.1)
  where
    given : (v : ℕ) → Mem v (map (λ z. z ⊕ p) ps) → In n (λ z. C (z ⊕ p)) v
    given v m =
        let k = map-mem (λ z. z ⊕ p) ps v m in
        let j = h k.0 (inr k.1) in
        rw k.2 (xor_lt n k.0 p j.0 (h p (inl refl)).0, rw (xor-cancel k.0 p) j.1)

-- So its points are below 2 ^ n, its directions are too, and there are at most n of these.
pub affine-below : (n p : ℕ) (ps : List ℕ) → ((q : ℕ) → Mem q (p ∷ ps) → q < 2 ^ n) → (x : ℕ) → Coset (least_point (p ∷ ps)) (directions (p ∷ ps)) x → x < 2 ^ n
affine-below n p ps h x c = (affine-within n (λ x. true) (whole-cube n) p ps (λ q m. (h q m, refl)) x c).0

coset-below : (n p : ℕ) (bs : List ℕ) → ((x : ℕ) → Coset p bs x → x < 2 ^ n) → (c : ℕ) → Mem c bs → c < 2 ^ n
coset-below n p bs h c m =
    subst (λ (z : ℕ). z < 2 ^ n) (xor-cancel c p) (xor_lt n (c ⊕ p) p (h (c ⊕ p) (rw (xor-cancel c p) (span-mem bs c m))) (h p (coset-self p bs)))

pub directions-below : (n : ℕ) (ps : List ℕ) → ((q : ℕ) → Mem q ps → q < 2 ^ n) → (c : ℕ) → Mem c (directions ps) → c < 2 ^ n
directions-below n [] h c m = unfold directions in absurd m
directions-below n (p ∷ ps) h c m = coset-below n (least_point (p ∷ ps)) (directions (p ∷ ps)) (affine-below n p ps h) c m

-- ---- its least point

pub affine-least : (ps : List ℕ) → Least (Coset (least_point ps) (directions ps)) (least_point ps)
unfolding least_point directions
affine-least [] = record { inside = refl; least = λ x c. omega arith }
affine-least (p ∷ ps) =
    let bs = directions (p ∷ ps) in
    let l = reduce-least bs (directions-reduced (p ∷ ps)) p in
    record { inside = coset-self (reduce bs p) bs; least = λ x c. l.least x ((coset-reduce bs p x).1 c) }

-- ---- the projection: the canonical bits tell the points of a coset apart and keep their order

pub coset-less : (n : ℕ) (bs : List ℕ) → Reduced bs → (u v : ℕ) → u < 2 ^ n → v < 2 ^ n → Span bs (u ⊕ v) → u < v
    → project (canonical_places n bs) u < project (canonical_places n bs) v
coset-less n bs r u v hu hv s h = project-less (canonical_places n bs) (places-falling (is_lead bs) n) u v h
    (mem-places (is_lead bs) n (lead (u ⊕ v)) (lead-fits n (u ⊕ v) (differ-pos u v h) (xor_lt n u v hu hv)) (span-is_lead bs r (u ⊕ v) (differ-pos u v h) s))

pub coset-same : (n : ℕ) (bs : List ℕ) → Reduced bs → (u v : ℕ) → u < 2 ^ n → v < 2 ^ n → Span bs (u ⊕ v)
    → project (canonical_places n bs) u ≡ project (canonical_places n bs) v → u ≡ v
coset-same n bs r u v hu hv s e = go (ℕ_discrete u v) (dec_le u v)
  where
    go : Dec (u ≡ v) → Dec (u ≤ v) → u ≡ v
    go (yes q) d = q
    go (no q) (yes l) = absurd (omega (arith, coset-less n bs r u v hu hv s (lt_of_le-ne l q)))
    go (no q) (no l) = absurd (omega (arith, coset-less n bs r v u hv hu (subst (Span bs) (xor_comm u v) s) (lt_of_not-le l)))

module _ (n p : ℕ) (bs : List ℕ) (r : Reduced bs) (fits : (x : ℕ) → Coset p bs x → x < 2 ^ n) where
  pub projection-rising : (ps : List ℕ) → Rising ps → ((q : ℕ) → Mem q ps → Coset p bs q) → Rising (projection n bs ps)
  unfolding projection
  projection-rising ps o h = ordered-map ◌<◌ ◌<◌ (project (canonical_places n bs)) ps
      (λ u v mu mv l. coset-less n bs r u v (fits u (h u mu)) (fits v (h v mv)) (coset-differ p bs u v (h u mu) (h v mv)) l) o

  pub projection-below : (ps : List ℕ) (y : ℕ) → Mem y (projection n bs ps) → y < 2 ^ length bs
  unfolding projection
  projection-below ps y m =
      let u = map-mem (project (canonical_places n bs)) ps y m in
      subst (λ (l : ℕ). y < 2 ^ l) (canonical-length n bs r (coset-below n p bs fits)) (rw u.2 (project-below (canonical_places n bs) u.0))

  -- The points are those of the space whose projection is among theirs.
  pub projection-through : (ps : List ℕ) → ((q : ℕ) → Mem q ps → Coset p bs q) → (x : ℕ) → Coset p bs x
      → holds (projection n bs ps) (project (canonical_places n bs) x) ≡ holds ps x
  unfolding projection
  projection-through ps h x c = same (holds qs y) (holds ps x)
      (λ e. let u = map-mem (project (canonical_places n bs)) ps y ((holds-mem qs y).0 e) in
      let q = coset-same n bs r x u.0 (fits x c) (fits u.0 (h u.0 u.1)) (coset-differ p bs x u.0 c (h u.0 u.1)) u.2 in
      (holds-mem ps x).1 (rw q u.1))
      (λ e. (holds-mem qs y).1 (mem-map (project (canonical_places n bs)) ps x ((holds-mem ps x).0 e)))
    where
      qs : List ℕ
      qs = map (project (canonical_places n bs)) ps

      y : ℕ
      y = project (canonical_places n bs) x

-- ---- all of it

pub smallest : (n : ℕ) (ps : List ℕ) → 0 < length ps → Rising ps → ((q : ℕ) → Mem q ps → q < 2 ^ n)
    → Smallest n ps (least_point ps) (directions ps) (projection n (directions ps) ps)
smallest n [] l o h = absurd (omega arith)
smallest n (p ∷ ps) l o h = record {
  reduced = r;
  least = affine-least (p ∷ ps);
  affine = coset-cube n (least_point (p ∷ ps)) bs r fits;
  has = affine-has (p ∷ ps);
  within = λ C c i. affine-within n C c p ps i;
  rises = projection-rising n (least_point (p ∷ ps)) bs r fits (p ∷ ps) o (affine-has (p ∷ ps));
  below = projection-below n (least_point (p ∷ ps)) bs r fits (p ∷ ps);
  through = projection-through n (least_point (p ∷ ps)) bs r fits (p ∷ ps) (affine-has (p ∷ ps));
}
  where
    bs : List ℕ
    bs = directions (p ∷ ps)

    r : Reduced bs
    r = directions-reduced (p ∷ ps)

    fits : (x : ℕ) → Coset (least_point (p ∷ ps)) bs x → x < 2 ^ n
    fits = affine-below n p ps h

-- There is one smallest affine space only: each lies in the other.
pub smallest-unique : (n : ℕ) (ps : List ℕ) (p q : ℕ) (bs cs ys zs : List ℕ) → Smallest n ps p bs ys → Smallest n ps q cs zs → (p ≡ q) × (bs ≡ cs)
smallest-unique n ps p q bs cs ys zs a b = (
  le_antisymm (a.least.least q (into q p cs bs zs ys b a q b.least.inside)) (b.least.least p (into p q bs cs ys zs a b p a.least.inside)),
  unique bs cs a.reduced b.reduced (coset-directions p q bs cs (into p q bs cs ys zs a b)) (coset-directions q p cs bs (into q p cs bs zs ys b a)),
)
  where
    into : (u v : ℕ) (ds es ls ms : List ℕ) → Smallest n ps u ds ls → Smallest n ps v es ms → (x : ℕ) → Coset u ds x → Coset v es x
    into u v ds es ls ms s t x c =
        let k = t.affine in
        (k.2 x).0 (s.within k.0 k.1 (λ r m. (k.2 r).1 (t.has r m)) x c)
