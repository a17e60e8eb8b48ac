-- Laws of specs.CanonicalProduct: the product of a candidate is true exactly at its points, is canonical, and its factors are factors of as
-- many variables. Read next: Substitution.
use mathlib.Core.Path.{◌≡◌, refl, sym, ap, ◌∙◌}
use mathlib.Core.Bool.{Bool, true, false, not, cond}
use mathlib.Core.Logic.{◌↔◌}
use mathlib.Core.List.{List}
use Prim.Native.Nat.{ℕ, ◌+◌, ◌^◌, ◌≤◌, ◌<◌}
use native.Mathlib.Omega.{arith}
use lib.Dec.{eqb}
use lib.ListN.{length, length-map}
use lib.Bits.{xor_self}
use borrow.Author.Tests.{ne_eqb}
use Rattle.gf2.specs.Bits.{◌⊕◌, bit}
use Rattle.gf2.specs.Finite.{Mem}
use Rattle.gf2.specs.Parity.{odd}
use Rattle.gf2.specs.Span.{Coset}
use Rattle.gf2.specs.Basis.{reduce, is_lead, noncanonical_places}
use Rattle.gf2.proofs.Logic.{same}
use Rattle.gf2.proofs.Finite.{map-mem, mem-map, ordered-map}
use Rattle.gf2.proofs.Reduce.{reduce-xor, reduce-le, reduce-zero, reduce-coset}
use Rattle.gf2.proofs.Variables.{places-falling, noncanonical-mem, noncanonical-length}
use Rattle.space.specs.Restriction.{equation}
use Rattle.space.proofs.Restriction.{reduce-bits, reduce-clean, clean-same, equation-below}
use Rattle.product.specs.Product.{Factor, factor, factor_at, product_at, AllFit, LowestApart, Canonical}
use Rattle.product.proofs.LowestBit.{lowest-eq, lowest-pos}
use Rattle.product.proofs.Product.{factor-is, product_is, canonical-separate, canonical-is}
use Rattle.product.proofs.Unique.{canonical-unique}
use Rattle.cubes.specs.Cubes.{Candidate, degree, points_of, IsCandidate}
use Rattle.cubes.proofs.Cubes.{points-are, point-below, vectors-below}
use Rattle.cover.specs.CanonicalProduct.{constant_at, place_factor, canonical_product}
use Rattle.cover.proofs.Equation.{equation-noncanonical, equation-lowest}

constant-is : (t : Bool) → eqb (cond t 1 0) 1 ≡ t
constant-is true = refl
constant-is false = refl

constant-binary : (t : Bool) → cond t 1 0 ≤ 1
constant-binary true = omega arith
constant-binary false = omega arith

-- A factor is true where the mask has the parity of the least point.
pub place-factor : (c : Candidate) (k w : ℕ) → (factor_at (place_factor c k) w ≡ true) ↔ (odd (equation c.vectors k) w ≡ odd (equation c.vectors k) c.point)
unfolding place_factor
place-factor c k w =
    let m = equation c.vectors k in
    let e = factor-is (factor (constant_at m c.point) m) w in
    let q = constant-is (odd m c.point) in
    (λ t. e.0 t ∙ q, λ h. e.1 (h ∙ sym q))

module _ (m : ℕ) (c : Candidate) (k : IsCandidate m c) where
  -- ---- it is true exactly at the points of the candidate

  pub product-coset : (w : ℕ) → w < 2 ^ m → (product_at (canonical_product m c) w ≡ true) ↔ Coset c.point c.vectors w
  unfolding canonical_product
  product-coset w h = (there, back)
    where
      bs : List ℕ
      bs = c.vectors

      p : ℕ
      p = c.point

      there : product_at (canonical_product m c) w ≡ true → Coset p bs w
      there e =
          let q : reduce bs w ≡ reduce bs p = clean-same m bs (reduce bs w) (reduce bs p)
          (omega (arith, reduce-le bs k.reduced w)) (omega (arith, reduce-le bs k.reduced p, point-below m c k))
          (reduce-clean bs k.reduced w) (reduce-clean bs k.reduced p) (λ j i.
          reduce-bits bs k.reduced j w
          ∙ (place-factor c j w).0 ((product_is (canonical_product m c) w).0 e (place_factor c j) (mem-map (place_factor c) (noncanonical_places m bs) j i))
          ∙ sym (reduce-bits bs k.reduced j p)) in
          reduce-zero bs (w ⊕ p) (reduce-xor bs w p ∙ rw q (xor_self (reduce bs p)))

      back : Coset p bs w → product_at (canonical_product m c) w ≡ true
      back s = (product_is (canonical_product m c) w).1 (λ f i.
          let j = map-mem (place_factor c) (noncanonical_places m bs) f i in
          rw j.2 ((place-factor c j.0 w).1
          (sym (reduce-bits bs k.reduced j.0 w) ∙ ap (bit j.0) (reduce-coset bs k.reduced w p s) ∙ reduce-bits bs k.reduced j.0 p)))

  pub product-points : (w : ℕ) → w < 2 ^ m → product_at (canonical_product m c) w ≡ points_of c w
  product-points w h =
      let a = product-coset w h in
      let b = points-are m c k w in
      same (product_at (canonical_product m c) w) (points_of c w) (λ e. (b.1 (a.0 e)).1) (λ e. a.1 (b.0 (h, e)))

  -- ---- it is canonical, and its factors are factors of m variables

  pub product-canonical : Canonical (canonical_product m c)
  unfolding canonical_product place_factor
  product-canonical = (canonical-is (canonical_product m c)).0 ((canonical-separate (canonical_product m c)).1
      (ordered-map (λ (i j : ℕ). j < i) (λ (f g : Factor). LowestApart f.mask g.mask) (place_factor c) (noncanonical_places m c.vectors) separate
      (places-falling (λ i. not (is_lead c.vectors i)) m)))
    where
      separate : (i j : ℕ) → Mem i (noncanonical_places m c.vectors) → Mem j (noncanonical_places m c.vectors) → j < i → LowestApart (equation c.vectors i) (equation c.vectors j)
      separate i j mi mj h =
          let ni = (noncanonical-mem m c.vectors i mi).1 in
          let nj = (noncanonical-mem m c.vectors j mj).1 in
          let ei = lowest-eq i (equation c.vectors i) (equation-lowest c.vectors k.reduced i ni) in
          let ej = lowest-eq j (equation c.vectors j) (equation-lowest c.vectors k.reduced j nj) in
          record {
            falls = rw (ei, ej) h;
            later = rw ei (equation-noncanonical c.vectors j i ni ∙ ne_eqb j i (λ q. omega arith));
            earlier = rw ej (equation-noncanonical c.vectors i j nj ∙ ne_eqb i j (λ q. omega arith));
          }

  pub product-fits : AllFit m (canonical_product m c)
  unfolding canonical_product place_factor
  product-fits f i =
      let j = map-mem (place_factor c) (noncanonical_places m c.vectors) f i in
      let n = noncanonical-mem m c.vectors j.0 j.1 in
      rw j.2 (record {
        binary = constant-binary (odd (equation c.vectors j.0) c.point);
        some = lowest-pos j.0 (equation c.vectors j.0) (equation-lowest c.vectors k.reduced j.0 n.1);
        below = equation-below m c.vectors k.reduced (vectors-below m c k) j.0 n.0;
      })

  -- It has as many factors as there are noncanonical variables.
  pub product-length : length (canonical_product m c) + degree c ≡ m
  unfolding canonical_product
  product-length = rw (length-map (noncanonical_places m c.vectors) (place_factor c)) (noncanonical-length m c.vectors k.reduced (vectors-below m c k))

  -- It is the only canonical product of m variables that is true exactly at these points.
  pub product-only : (fs : List Factor) → Canonical fs → AllFit m fs → ((w : ℕ) → w < 2 ^ m → product_at fs w ≡ points_of c w) → fs ≡ canonical_product m c
  product-only fs d a h = canonical-unique m fs (canonical_product m c) d product-canonical a product-fits (λ w l. h w l ∙ sym (product-points w l))
