-- Laws of specs.Factors: the factors of a candidate's masks at its least point are those of its canonical product, with the equations put in;
-- a product put into a value is read back.
use mathlib.Core.Path.{◌≡◌, refl, sym, ap, ap₂, ◌∙◌, subst}
use mathlib.Core.List.{List, [], ◌∷◌, map, map-map, zip_with}
use Prim.Native.Nat.{ℕ, zero, suc, ◌-◌, ◌≤◌, ◌<◌}
use native.Mathlib.Nat.{le_of_suc-le-suc}
use native.Mathlib.Omega.{arith}
use lib.ListN.{length, get_or, length-map}
use lib.Seq.{get_or-take}
use Rattle.gf2.specs.Limits.{max_variables}
use Rattle.gf2.specs.Finite.{Mem}
use Rattle.gf2.specs.Basis.{noncanonical_places}
use Rattle.gf2.proofs.Finite.{get_d-mem, map-mem}
use Rattle.basis.specs.Short.{listed, short}
use Rattle.basis.proofs.Values.{listed_back, short-again, short-len}
use Rattle.space.specs.Restriction.{equation, equations}
use Rattle.product.specs.Product.{Factor, factor}
use Rattle.cubes.specs.Cubes.{Candidate, candidate, degree, IsCandidate}
use Rattle.cover.specs.CanonicalProduct.{constant_at, place_factor, canonical_product}
use Rattle.cover.specs.Substitution.{substitute_mask, substitute_factor, substitute_product}
use Rattle.cover.specs.WrittenForm.{product_by}
use Rattle.cover.proofs.CanonicalProduct.{product-fits, product-length}
use Rattle.factors.specs.declared.FactorList.{FactorList}
use Rattle.factors.specs.Factors.{constants_of, masks_of, factors_of, factors_at, product_in, IsProduct}
use Rattle.factors.proofs.Steps.{short-few}

-- The masks in the y's of a candidate are the equations of its basis.
module _ (es : List ℕ) (m point : ℕ) (bs : List ℕ) where
  abbrev ks : List ℕ
  ks = noncanonical_places m bs

  same-constants : map (λ mask. constant_at mask point) (equations m bs) ≡ constants_of (product_by es m (candidate point bs))
  unfolding equations canonical_product substitute_product place_factor substitute_factor
  same-constants =
      map-map (λ mask. constant_at mask point) (equation bs) ks
      ∙ sym (ap (map (λ f. f.constant)) (map-map (substitute_factor es) (place_factor (candidate point bs)) ks) ∙ map-map (λ f. f.constant) (λ k. substitute_factor es (place_factor (candidate point bs) k)) ks)

  same-masks : map (substitute_mask es) (equations m bs) ≡ masks_of (product_by es m (candidate point bs))
  unfolding equations canonical_product substitute_product place_factor substitute_factor
  same-masks =
      map-map (substitute_mask es) (equation bs) ks
      ∙ sym (ap (map (λ f. f.mask)) (map-map (substitute_factor es) (place_factor (candidate point bs)) ks) ∙ map-map (λ f. f.mask) (λ k. substitute_factor es (place_factor (candidate point bs) k)) ks)

  pub factors-product : factors_at es (equations m bs) point ≡ factors_of (product_by es m (candidate point bs))
  factors-product = ap₂ (λ (cs ms : List ℕ). record { constants = short cs; masks = short ms }) same-constants same-masks

-- ---- a product by value

pub zip-back : (fs : List Factor) → zip_with factor (constants_of fs) (masks_of fs) ≡ fs
unfolding zip_with
zip-back [] = refl
zip-back (f ∷ fs) = ap (λ l. f ∷ l) (zip-back fs)

zip-at : (constants masks : List ℕ) (i : ℕ) → i < length (zip_with factor constants masks) → get_or (zip_with factor constants masks) i (factor 0 0) ≡ factor (get_or constants i 0) (get_or masks i 0)
unfolding zip_with
zip-at [] masks i h = absurd (omega arith)
zip-at (constant ∷ constants) [] i h = absurd (omega arith)
zip-at (constant ∷ constants) (mask ∷ masks) zero h = refl
zip-at (constant ∷ constants) (mask ∷ masks) (suc i) h = zip-at constants masks i (le_of_suc-le-suc h)

-- The value that stands for a product is read back.
pub product-back : (fs : List Factor) → product_in (factors_of fs) ≡ fs
product-back fs = rw (listed_back (constants_of fs), listed_back (masks_of fs)) (zip-back fs)

pub is-product : (fs : List Factor) → ((f : Factor) → Mem f fs → f.constant ≤ 1) → IsProduct (factors_of fs)
is-product fs h = record {
  packed = ap factors_of (sym (product-back fs));
  binary = λ f i. h f (subst (Mem f) (product-back fs) i);
}

-- The constants and the masks of a product are as many as its factors, and stand at their places.
module _ (r : FactorList) (k : IsProduct r) where
  pub constants-len : r.constants.len ≡ length (product_in r)
  constants-len = short-len r.constants (constants_of (product_in r)) (ap (λ (x : FactorList). x.constants) k.packed) ∙ length-map (product_in r) (λ f. f.constant)

  pub masks-len : r.masks.len ≡ length (product_in r)
  masks-len = short-len r.masks (masks_of (product_in r)) (ap (λ (x : FactorList). x.masks) k.packed) ∙ length-map (product_in r) (λ f. f.mask)

  pub masks-few : length r.masks.values ≡ max_variables → r.masks.len ≤ max_variables
  masks-few l = short-few r.masks (short-again r.masks (masks_of (product_in r)) (ap (λ (x : FactorList). x.masks) k.packed)) l

  module _ (i : ℕ) (h : i < r.masks.len) where
    pub factor-at : get_or (product_in r) i (factor 0 0) ≡ factor (get_or r.constants.values i 0) (get_or r.masks.values i 0)
    factor-at =
        zip-at (listed r.constants) (listed r.masks) i (omega (arith, masks-len))
        ∙ ap₂ factor (get_or-take r.constants.len r.constants.values i 0 (omega (arith, constants-len, masks-len))) (get_or-take r.masks.len r.masks.values i 0 h)

    pub constant-binary : get_or r.constants.values i 0 ≤ 1
    constant-binary =
        subst (λ (f : Factor). f.constant ≤ 1) factor-at (k.binary (get_or (product_in r) i (factor 0 0)) (get_d-mem (product_in r) i (factor 0 0) (omega (arith, masks-len))))

-- ---- the product written for a candidate

module _ (es : List ℕ) (m : ℕ) (c : Candidate) (k : IsCandidate m c) where
  pub product-binary : (f : Factor) → Mem f (product_by es m c) → f.constant ≤ 1
  unfolding substitute_product substitute_factor
  product-binary f i =
      let g = map-mem (substitute_factor es) (canonical_product m c) f i in
      rw g.2 (product-fits m c k g.0 g.1).binary

  pub product-factors : length (product_by es m c) ≡ m - degree c
  unfolding substitute_product
  product-factors = length-map (canonical_product m c) (substitute_factor es) ∙ omega (arith, product-length m c k)
