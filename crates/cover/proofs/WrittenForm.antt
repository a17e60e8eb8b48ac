-- Laws of specs.WrittenForm: the form of a function is true exactly where the function is on, its products are canonical products of n
-- variables, and there are at most 62 of them where the restriction has at most six variables. Read next: Steps.
use mathlib.Core.Path.{◌≡◌, refl, sym, ap, ap₂, ◌∙◌, subst}
use mathlib.Core.Bool.{Bool, true, false, cond, ◌||◌}
use mathlib.Core.Logic.{◌⊎◌, inl, inr, ◌↔◌}
use mathlib.Core.List.{List, [], ◌∷◌, map}
use Prim.Native.Nat.{ℕ, zero, suc, ◌+◌, ◌-◌, ◌^◌, ◌≤◌, ◌<◌, max}
use native.Mathlib.Nat.{lt_of_not-le}
use native.Mathlib.Decide.{dec_le}
use native.Mathlib.Omega.{arith}
use lib.ListN.{length, length-map}
use lib.Pow.{pow_mono, pow_pos}
use borrow.Author.Tests.{ltb-true, lt-ltb, ltb-false}
use Rattle.gf2.specs.Finite.{Mem, Rising, In}
use Rattle.gf2.specs.Span.{Span}
use Rattle.gf2.specs.Basis.{Reduced, places_at, noncanonical_places}
use Rattle.gf2.proofs.Finite.{map-mem}
use Rattle.gf2.proofs.Span.{span-mem}
use Rattle.gf2.proofs.Variables.{noncanonical-length}
use Rattle.space.specs.Closure.{closed, linear_space, degree}
use Rattle.space.specs.Completion.{completed}
use Rattle.space.specs.Restriction.{equations, values, restriction}
use Rattle.space.proofs.Closure.{linear-reduced, linear-span}
use Rattle.space.proofs.Restriction.{equations-length, restriction-through, restriction-rising, restriction-below, restriction-length, restriction-full}
use Rattle.product.specs.Product.{Factor, product_at, some_product_at, AllFit, Canonical}
use Rattle.product.proofs.Unique.{canonical-unique}
use Rattle.cubes.specs.Cubes.{Candidate, candidate, points_of, IsCandidate}
use Rattle.cubes.specs.Cubes as cubes
use Rattle.cubes.specs.Records.{max_listed}
use Rattle.cover.specs.CanonicalProduct.{canonical_product}
use Rattle.cover.specs.Substitution.{substitute_factor, substitute_product}
use Rattle.cover.specs.Choice.{covered, chosen}
use Rattle.cover.specs.WrittenForm.{restricted_variables, written_product, form_of, written_form, form_size_fault}
use Rattle.cover.proofs.CanonicalProduct.{product-points, product-canonical, product-fits, product-length}
use Rattle.cover.proofs.Substitution.{substitute-product, substitute-canonical, substitute-fits}
use Rattle.cover.proofs.Choice.{primes-are, chosen-prime, chosen-points, chosen-length, chosen-fewer, chosen_none, chosen-origin}
use Rattle.cover.proofs.Restriction.{values-below, restriction-fewer}

-- ---- with the equations put in, for a reduced basis of vectors of n variables

module _ (n : ℕ) (bs : List ℕ) (r : Reduced bs) (h : (c : ℕ) → Mem c bs → c < 2 ^ n) where
  -- The y's are as many as the equations, and as the noncanonical variables.
  pub variables-equations : restricted_variables n bs ≡ length (equations n bs)
  variables-equations = omega (arith, equations-length n bs r h)

  pub variables-places : restricted_variables n bs ≡ length (noncanonical_places n bs)
  variables-places = omega (arith, noncanonical-length n bs r h)

  pub values-fit : (w : ℕ) → values (equations n bs) w < 2 ^ restricted_variables n bs
  values-fit w = subst (λ (k : ℕ). values (equations n bs) w < 2 ^ k) (sym variables-equations) (values-below (equations n bs) w)

  pub restriction-fit : (f : ℕ → Bool) (y : ℕ) → Mem y (restriction n bs f) → y < 2 ^ restricted_variables n bs
  restriction-fit f y i = subst (λ (k : ℕ). y < 2 ^ k) (sym variables-equations) (restriction-below n bs f y i)

  module _ (c : Candidate) (k : IsCandidate (restricted_variables n bs) c) where
    -- The product written for a candidate is true at w exactly if the candidate holds the values of the y's there.
    pub written_at : (w : ℕ) → product_at (written_product n bs c) w ≡ points_of c (values (equations n bs) w)
    unfolding written_product
    written_at w =
        substitute-product (equations n bs) (canonical_product (restricted_variables n bs) c) w
        ∙ product-points (restricted_variables n bs) c k (values (equations n bs) w) (values-fit w)

    in-places : AllFit (length (noncanonical_places n bs)) (canonical_product (restricted_variables n bs) c)
    in-places = subst (λ (m : ℕ). AllFit m (canonical_product (restricted_variables n bs) c)) variables-places (product-fits (restricted_variables n bs) c k)

    -- It is a canonical product of n variables.
    pub written-canonical : Canonical (written_product n bs c)
    unfolding written_product
    written-canonical = substitute-canonical n bs r (canonical_product (restricted_variables n bs) c) in-places (product-canonical (restricted_variables n bs) c k)

    pub written-fits : AllFit n (written_product n bs c)
    unfolding written_product
    written-fits = substitute-fits n bs r h (canonical_product (restricted_variables n bs) c) in-places

    -- It is the only one that is true exactly there.
    pub written-only : (fs : List Factor) → Canonical fs → AllFit n fs → ((w : ℕ) → w < 2 ^ n → product_at fs w ≡ points_of c (values (equations n bs) w)) → fs ≡ written_product n bs c
    written-only fs d a e = canonical-unique n fs (written_product n bs c) d written-canonical a written-fits (λ w l. e w l ∙ sym (written_at w))

    -- Its factors and the candidate's vectors are together as many as the y's.
    pub written-length : length (written_product n bs c) + cubes.degree c ≡ restricted_variables n bs
    unfolding written_product substitute_product
    written-length =
        rw (length-map (canonical_product (restricted_variables n bs) c) (substitute_factor (equations n bs))) (product-length (restricted_variables n bs) c k)

  -- The products written for several candidates are true at w where one of these holds the values of the y's.
  pub some-written-at : (cs : List Candidate) → ((c : Candidate) → Mem c cs → IsCandidate (restricted_variables n bs) c)
      → (w : ℕ) → some_product_at (map (written_product n bs) cs) w ≡ covered cs (values (equations n bs) w)
  unfolding some_product_at covered
  some-written-at [] k w = refl
  some-written-at (c ∷ cs) k w = ap₂ ◌||◌ (written_at c (k c (inl refl)) w) (some-written-at cs (λ d i. k d (inr i)) w)

-- ---- the form of a function, for any reduced basis of vectors under which it is closed

module _ (n : ℕ) (f : ℕ → Bool) (bs : List ℕ) (r : Reduced bs) (s : (x : ℕ) → Span bs x → In n (closed n f) x) where
  vectors-fit : (c : ℕ) → Mem c bs → c < 2 ^ n
  vectors-fit c i = (s c (span-mem bs c i)).0

  chosen-candidate : (c : Candidate) → Mem c (chosen (restricted_variables n bs) (restriction n bs f)) → IsCandidate (restricted_variables n bs) c
  chosen-candidate c i =
      (primes-are (restricted_variables n bs) (restriction n bs f) c (chosen-prime (restricted_variables n bs) (restriction n bs f) c i)).0

  -- The form is true exactly where the function is on.
  pub form-at : (w : ℕ) → w < 2 ^ n → some_product_at (form_of n bs f) w ≡ f w
  unfolding form_of
  form-at w l =
      some-written-at n bs r vectors-fit (chosen (restricted_variables n bs) (restriction n bs f)) chosen-candidate w
      ∙ chosen-points (restricted_variables n bs) (restriction n bs f) (restriction-fit n bs r vectors-fit f) (values (equations n bs) w)
      ∙ restriction-through n f bs r s w l

  -- Each product is canonical, and one of n variables.
  pub form-products : (p : List Factor) → Mem p (form_of n bs f) → Canonical p × AllFit n p
  unfolding form_of
  form-products p i =
      let k = map-mem (written_product n bs) (chosen (restricted_variables n bs) (restriction n bs f)) p i in
      let c = chosen-candidate k.0 k.1 in
      rw k.2 (written-canonical n bs r vectors-fit k.0 c, written-fits n bs r vectors-fit k.0 c)

  -- It has at most as many factors as there are y's.
  pub form-factors : (p : List Factor) → Mem p (form_of n bs f) → length p ≤ restricted_variables n bs
  unfolding form_of
  form-factors p i =
      let k = map-mem (written_product n bs) (chosen (restricted_variables n bs) (restriction n bs f)) p i in
      rw k.2 (omega (arith, written-length n bs r vectors-fit k.0 (chosen-candidate k.0 k.1)))

-- ---- the number of products

-- No more than the restriction has points.
pub form-length : (n : ℕ) (bs : List ℕ) (f : ℕ → Bool) → length (form_of n bs f) ≤ length (restriction n bs f)
unfolding form_of
form-length n bs f =
    omega (
      arith,
      length-map (chosen (restricted_variables n bs) (restriction n bs f)) (written_product n bs),
      chosen-length (restricted_variables n bs) (restriction n bs f),
    )

-- Fewer, where the restriction has two points or more.
pub form-fewer : (n : ℕ) (bs : List ℕ) (f : ℕ → Bool) → Reduced bs → ((c : ℕ) → Mem c bs → c < 2 ^ n) → 2 ≤ length (restriction n bs f)
    → suc (length (form_of n bs f)) ≤ length (restriction n bs f)
unfolding form_of
form-fewer n bs f r h two =
    omega (
      arith,
      length-map (chosen (restricted_variables n bs) (restriction n bs f)) (written_product n bs),
      go (restriction n bs f) two (restriction-fit n bs r h f) (restriction-rising n bs f),
    )
  where
    go : (l : List ℕ) → 2 ≤ length l → ((y : ℕ) → Mem y l → y < 2 ^ restricted_variables n bs) → Rising l → suc (length (chosen (restricted_variables n bs) l)) ≤ length l
    go [] t b q = absurd (omega arith)
    go (x ∷ []) t b q = absurd (omega arith)
    go (x ∷ y ∷ xs) t b q = chosen-fewer (restricted_variables n bs) x y xs b q

-- For the linear space itself, with m variables y: one product, or at most 2 ^ m - 2.
module _ (n : ℕ) (f : ℕ → Bool) (bs : List ℕ) (r : Reduced bs) (s : (x : ℕ) → Span bs x ↔ In n (closed n f) x) where
  below : (c : ℕ) → Mem c bs → c < 2 ^ n
  below c i = ((s c).0 (span-mem bs c i)).0

  pub form-most : length (form_of n bs f) ≤ max 1 (2 ^ restricted_variables n bs - 2)
  form-most = go (restricted_variables n bs) (variables-equations n bs r below)
    where
      go : (m : ℕ) → m ≡ length (equations n bs) → length (form_of n bs f) ≤ max 1 (2 ^ m - 2)
      go zero e =
          let q : length (restriction n bs f) ≤ 2 ^ 0 = subst (λ (k : ℕ). length (restriction n bs f) ≤ 2 ^ k) (sym e) (restriction-length n bs f) in
          omega (arith, form-length n bs f)
      go (suc m) e =
          let p : 0 < length (equations n bs) = omega (arith, e) in
          let q : suc (length (restriction n bs f)) ≤ 2 ^ suc m = subst (λ (k : ℕ). suc (length (restriction n bs f)) ≤ 2 ^ k) (sym e) (restriction-fewer n f bs r s p) in
          elim (dec_le 2 (length (restriction n bs f))) [
            | yes t ↦ omega (arith, form-fewer n bs f r below t)
            | no t ↦ omega (arith, form-length n bs f, lt_of_not-le t)
          ]

  -- With six variables at most there are at most 62 products, so the limit of 64 never binds.
  pub form-few : restricted_variables n bs ≤ max_listed → length (form_of n bs f) ≤ 62
  form-few h = omega (arith, form-most, pow_mono h)

-- ---- without variables: no product, or one without factors

pub form-none : (n : ℕ) (bs : List ℕ) (f : ℕ → Bool) → restriction n bs f ≡ [] → form_of n bs f ≡ []
unfolding form_of
form-none n bs f e = ap (λ l. map (written_product n bs) (chosen (restricted_variables n bs) l)) e ∙ ap (map (written_product n bs)) (chosen_none (restricted_variables n bs))

origin-product : (n : ℕ) (bs : List ℕ) → restricted_variables n bs ≡ 0 → written_product n bs (candidate 0 []) ≡ []
unfolding written_product canonical_product substitute_product places_at
origin-product n bs e = ap (λ (m : ℕ). substitute_product (equations n bs) (canonical_product m (candidate 0 []))) e

full-form : (n : ℕ) (bs : List ℕ) (f : ℕ → Bool) → Reduced bs → ((c : ℕ) → Mem c bs → c < 2 ^ n) → restricted_variables n bs ≡ 0
    → (form_of n bs f ≡ []) ⊎ (form_of n bs f ≡ [] ∷ [])
unfolding form_of
full-form n bs f r h e = elim (restriction-full n bs f (sym (variables-equations n bs r h) ∙ e)) [
  | inl q ↦ inl (form-none n bs f q)
  | inr q ↦
      inr (ap₂ (λ (m : ℕ) l. map (written_product n bs) (chosen m l)) e q
      ∙ ap (map (written_product n bs)) chosen-origin
      ∙ ap (λ p. p ∷ []) (origin-product n bs e))
]

-- A function that is on everywhere has one product without factors, one that is off everywhere has none.
pub form-constant : (n : ℕ) (f : ℕ → Bool) (bs : List ℕ) → Reduced bs → ((x : ℕ) → Span bs x → In n (closed n f) x) → restricted_variables n bs ≡ 0
    → form_of n bs f ≡ cond (f 0) ([] ∷ []) []
unfolding some_product_at product_at
form-constant n f bs r s e =
    let g : (l : List (List Factor)) → form_of n bs f ≡ l → some_product_at l 0 ≡ f 0 = λ l q. subst (λ l. some_product_at l 0 ≡ f 0) q (form-at n f bs r s 0 (pow_pos n)) in
    elim (full-form n bs f r (λ c i. (s c (span-mem bs c i)).0) e) [
      | inl q ↦ q ∙ ap (λ t. cond t ([] ∷ []) []) (g [] q)
      | inr q ↦ q ∙ ap (λ t. cond t ([] ∷ []) []) (g ([] ∷ []) q)
    ]

-- ---- the form written for a table

module _ (n : ℕ) (on free : List ℕ) where
  -- It is true exactly at the on points of the completed function.
  pub table-form-at : (w : ℕ) → w < 2 ^ n → some_product_at (written_form n on free) w ≡ completed n on free w
  unfolding written_form
  table-form-at = form-at n (completed n on free) (linear_space n (completed n on free)) (linear-reduced n (completed n on free)) (λ x. (linear-span n (completed n on free) x).0)

  pub table-form-products : (p : List Factor) → Mem p (written_form n on free) → Canonical p × AllFit n p
  unfolding written_form
  table-form-products = form-products n (completed n on free) (linear_space n (completed n on free)) (linear-reduced n (completed n on free)) (λ x. (linear-span n (completed n on free) x).0)

  -- Refusal 5 of a form is given exactly when n - k is above 6.
  pub size_is : (form_size_fault n on free ≡ true) ↔ (max_listed < n - degree n (completed n on free))
  unfolding form_size_fault
  size_is = (ltb-true max_listed (n - degree n (completed n on free)), lt-ltb max_listed (n - degree n (completed n on free)))

  -- A form that is not refused has at most 62 products.
  pub table-form-few : form_size_fault n on free ≡ false → length (written_form n on free) ≤ 62
  unfolding written_form form_size_fault degree
  table-form-few e = form-few n (completed n on free) (linear_space n (completed n on free)) (linear-reduced n (completed n on free)) (linear-span n (completed n on free))
      (ltb-false max_listed (n - length (linear_space n (completed n on free))) e)
