-- Laws of specs.Masks: by the lead mask of a reduced basis, the points kept are the restriction and the points projected are the projection;
-- with its places turned over, what was set is clear; by the mask 0 all points of the function are kept as they are. Read next: Dropping.
use mathlib.Core.Path.{◌≡◌, refl, sym, ap, ap₂, ◌∙◌}
use mathlib.Core.Bool.{Bool, true, not, cond, ◌&&◌, not-not}
use mathlib.Core.Logic.{inl, inr}
use mathlib.Core.List.{List, [], ◌∷◌, map}
use Prim.Native.Nat.{ℕ, zero, suc, ◌-◌, ◌*◌, ◌%◌, ◌/◌, ◌^◌, ◌≤◌, ◌<◌}
use native.Mathlib.Nat.{add_comm, zero-mul, one-mul, mod-eq_of_lt}
use native.Mathlib.Numerals.{add-one}
use native.Mathlib.Omega.{arith}
use lib.Dec.{eqb}
use lib.ListN.{length, length-map}
use lib.Pow.{mod-pow-add}
use Rattle.gf2.specs.Bits.{◌⊕◌, bit}
use Rattle.gf2.specs.Finite.{Mem, select}
use Rattle.gf2.specs.Basis.{Reduced, is_lead, lead_mask, places_at, canonical_places, noncanonical_places}
use Rattle.gf2.proofs.Logic.{and-true}
use Rattle.gf2.proofs.Finite.{select-ext, select-mem, select-length}
use Rattle.gf2.proofs.Xor.{bit-zero, bit_is, bit-turned}
use Rattle.gf2.proofs.Variables.{bit-lead_mask, places-ext}
use Rattle.space.specs.Restriction.{project, clean, restriction}
use Rattle.space.specs.Affine.{projection}
use Rattle.space.proofs.Steps.{clean-mask, project-none, project-kept}
use Rattle.projection.specs.Masks.{places_set, places_clear, is_kept, kept, projected}

-- ---- how many there are

pub kept-length : (n leads : ℕ) (f : ℕ → Bool) → length (kept n leads f) ≤ 2 ^ n
unfolding kept
kept-length n leads f = rw length-map (select-length (is_kept leads f) (2 ^ n))

pub projected-length : (n leads : ℕ) (ps : List ℕ) → length (projected n leads ps) ≡ length ps
unfolding projected
projected-length n leads ps = length-map ps (project (places_set n leads))

-- ---- by the lead mask of a reduced basis

pub set-canonical : (n : ℕ) (bs : List ℕ) → Reduced bs → places_set n (lead_mask bs) ≡ canonical_places n bs
set-canonical n bs r = places-ext (λ k. bit k (lead_mask bs)) (is_lead bs) n (λ k h. bit-lead_mask bs r k)

pub clear-noncanonical : (n : ℕ) (bs : List ℕ) → Reduced bs → places_clear n (lead_mask bs) ≡ noncanonical_places n bs
clear-noncanonical n bs r = places-ext (λ k. not (bit k (lead_mask bs))) (λ k. not (is_lead bs k)) n (λ k h. ap not (bit-lead_mask bs r k))

-- The points kept are the restriction.
pub kept-restriction : (n : ℕ) (bs : List ℕ) → Reduced bs → (f : ℕ → Bool) → kept n (lead_mask bs) f ≡ restriction n bs f
unfolding kept is_kept restriction
kept-restriction n bs r f =
    ap (λ (ks : List ℕ). map (project ks) (select (is_kept (lead_mask bs) f) (2 ^ n))) (clear-noncanonical n bs r)
    ∙ ap (map (project (noncanonical_places n bs)))
    (select-ext (is_kept (lead_mask bs) f) (λ w. f w && clean bs w) (2 ^ n) (λ w h. ap (λ t. f w && t) (sym (clean-mask bs r w))))

-- The points projected are the projection.
pub projected-projection : (n : ℕ) (bs : List ℕ) → Reduced bs → (ps : List ℕ) → projected n (lead_mask bs) ps ≡ projection n bs ps
unfolding projected projection
projected-projection n bs r ps = ap (λ (ks : List ℕ). map (project ks) ps) (set-canonical n bs r)

-- ---- by the mask turned over

-- XOR with all places turns the bits of the mask over, so what was set is clear.
pub turned_set : (n mask : ℕ) → places_clear n (mask ⊕ (2 ^ n - 1)) ≡ places_set n mask
turned_set n mask = places-ext (λ k. not (bit k (mask ⊕ (2 ^ n - 1)))) (λ k. bit k mask) n (λ k h. ap not (bit-turned n k mask h) ∙ not-not (bit k mask))

-- ---- by the mask 0

places-all : (q : ℕ → Bool) → ((k : ℕ) → q k ≡ true) → (n : ℕ) → length (places_at n q) ≡ n
unfolding places_at
places-all q h zero = refl
places-all q h (suc n) = rw (h n) (ap suc (places-all q h n))

digit : (x p : ℕ) → x < 2 → cond (eqb x 1) p 0 ≡ x * p
digit zero p h = sym (zero-mul p)
digit (suc zero) p h = sym (one-mul p)
digit (suc (suc x)) p h = absurd (omega arith)

-- All bits of a number are the number itself.
project-all : (q : ℕ → Bool) → ((k : ℕ) → q k ≡ true) → (n w : ℕ) → project (places_at n q) w ≡ w % 2 ^ n
project-all q h zero w = project-none q w ∙ omega arith
project-all q h (suc n) w =
    project-kept q n w (h n)
    ∙ rw (places-all q h n, bit_is n w, project-all q h n w, digit (w / 2 ^ n % 2) (2 ^ n) (omega arith)) (sym (rw (add_comm 1 n, add-one n) at (mod-pow-add w 1 n)))

-- A point of n variables is projected to itself.
pub project-whole : (n w : ℕ) → w < 2 ^ n → project (places_clear n 0) w ≡ w
project-whole n w h = project-all (λ k. not (bit k 0)) (λ k. ap not (bit-zero k)) n w ∙ mod-eq_of_lt h

map-fixed : (g : ℕ → ℕ) (l : List ℕ) → ((x : ℕ) → Mem x l → g x ≡ x) → map g l ≡ l
map-fixed g [] h = refl
map-fixed g (x ∷ l) h = ap₂ ◌∷◌ (h x (inl refl)) (map-fixed g l (λ y m. h y (inr m)))

-- The points kept are those of the function.
pub kept-all : (n : ℕ) (f : ℕ → Bool) → kept n 0 f ≡ select f (2 ^ n)
unfolding kept is_kept
kept-all n f =
    ap (map (project (places_clear n 0))) (select-ext (is_kept 0 f) f (2 ^ n) (λ w h. and-true (f w)))
    ∙ map-fixed (project (places_clear n 0)) (select f (2 ^ n))
    (λ w m. project-whole n w (select-mem f (2 ^ n) w m).0)
