-- The parts of specs.Parts make up the report, and what the functions that write them need to know of each other. Read next: Fitting.
use mathlib.Core.Path.{◌≡◌, refl, sym, ap, ap₂, ◌∙◌, subst}
use mathlib.Core.Bool.{Bool}
use mathlib.Core.List.{List, [], ◌∷◌, ◌++◌, append_assoc, append-nil, map, zip_with, flat_map}
use Prim.Native.Nat.{ℕ, zero, suc, ◌-◌, ◌≤◌, ◌<◌}
use native.Mathlib.Omega.{arith}
use lib.Pow.{pow_mono}
use lib.ListN.{length, length-map}
use borrow.Author.Tests.{lt-ltb, le-ltb}
use Rattle.basis.specs.declared.Basis.{Basis}
use Rattle.basis.specs.declared.ShortList.{ShortList}
use Rattle.basis.specs.Short.{listed, short}
use Rattle.basis.specs.Reduced.{vectors_of, BasisWithin}
use Rattle.basis.proofs.Values.{basis-len, short-listed, short-fits}
use Rattle.table.specs.Refusal.{size_fault}
use Rattle.table.specs.Flags.{max_points}
use Rattle.space.specs.Closure.{linear_space, degree}
use Rattle.space.specs.declared.Completed.{Completed}
use Rattle.space.specs.Completion.{completed, IsCompleted}
use Rattle.space.specs.Witness.{flagged}
use Rattle.space.specs.Restriction.{equations, restriction}
use Rattle.projection.specs.Masks.{kept}
use Rattle.projection.proofs.Masks.{kept-length}
use Rattle.projection.proofs.Restrictions.{points-inside, points-rise, completed-vectors, completed-restriction}
use Rattle.product.specs.Product.{Factor, factor}
use Rattle.cubes.specs.Cubes.{Candidate}
use Rattle.cubes.specs.Records.{max_listed}
use Rattle.cover.specs.WrittenForm.{restricted_variables, product_by, written_product, form_of, written_form, form_size_fault}
use Rattle.factors.specs.declared.FactorList.{FactorList}
use Rattle.factors.specs.Factors.{factors_of}
use Rattle.factors.proofs.Products.{zip-back}
use Rattle.choice.specs.declared.Choice.{Choice}
use Rattle.choice.specs.Chosen.{chosen_at, chosen_by, products_by, Chose}
use Rattle.choice.proofs.Products.{product_at, products-next}
use Rattle.text.proofs.Pieces.{pieces}
use Rattle.lines.specs.Words.{variables_word}
use Rattle.lines.specs.Lines.{number_line, counts_line, product_line, product_lines}
use Rattle.table_report.specs.Text.{refused_line, is_simple, form_text, table_text}
use Rattle.table_report.specs.Parts.{choice_text, form_lines, function_text, Restricts}

-- A product by value is the pairs of its constants and its masks.
module _ (r : FactorList) (fs : List Factor) (e : r ≡ factors_of fs) where
  pub constants-fit : r.constants.len ≤ length r.constants.values
  constants-fit = short-fits r.constants (map (λ f. f.constant) fs) (ap (λ (x : FactorList). x.constants) e)

  pub masks-fit : r.masks.len ≤ length r.masks.values
  masks-fit = short-fits r.masks (map (λ f. f.mask) fs) (ap (λ (x : FactorList). x.masks) e)

  module _ (constants masks : List ℕ) (c : constants ≡ listed r.constants) (m : masks ≡ listed r.masks) where
    constants-are : constants ≡ map (λ f. f.constant) fs
    constants-are = c ∙ short-listed r.constants (map (λ f. f.constant) fs) (ap (λ (x : FactorList). x.constants) e)

    masks-are : masks ≡ map (λ f. f.mask) fs
    masks-are = m ∙ short-listed r.masks (map (λ f. f.mask) fs) (ap (λ (x : FactorList). x.masks) e)

    pub product-same : length constants ≡ length masks
    product-same = ap length constants-are ∙ length-map fs (λ (f : Factor). f.constant) ∙ sym (length-map fs (λ (f : Factor). f.mask)) ∙ sym (ap length masks-are)

    pub product-zip : zip_with factor constants masks ≡ fs
    product-zip = rw (constants-are, masks-are) (zip-back fs)

-- The lines of a choice, one prime at a time.
flat-last : (f : List Factor → List ℕ) (l : List (List Factor)) (a : List Factor) → flat_map f (l ++ (a ∷ [])) ≡ flat_map f l ++ f a
unfolding flat_map
flat-last f [] a = append-nil (f a)
flat-last f (b ∷ l) a = ap (λ (r : List ℕ). f b ++ r) (flat-last f l a) ∙ sym (append_assoc (f b) (flat_map f l) (f a))

pub choice-pieces : (n : ℕ) (es : List ℕ) (m : ℕ) (r : Choice) → choice_text n es m r ≡ pieces (λ i. product_line n (product_by es m (chosen_at r i))) r.count
unfolding choice_text product_lines products_by chosen_by flat_map
choice-pieces n es m r = go r.count
  where
    go : (k : ℕ) → flat_map (product_line n) (products_by es m r k) ≡ pieces (λ i. product_line n (product_by es m (chosen_at r i))) k
    go zero = refl
    go (suc k) =
        ap (flat_map (product_line n)) (products-next es m r k)
        ∙ flat-last (product_line n) (products_by es m r k) (product_at es m r k)
        ∙ ap (λ (t : List ℕ). t ++ product_line n (product_at es m r k)) (go k)

-- The lines of the form.
module _ (n : ℕ) (bs points : List ℕ) where
  pub form-refused : max_listed < restricted_variables n bs → refused_line size_fault ≡ form_lines n bs points
  unfolding form_lines
  form-refused h = rw (lt-ltb max_listed (restricted_variables n bs) h)

  pub form-chosen : restricted_variables n bs ≤ max_listed → (r : Choice) → Chose (restricted_variables n bs) points r
      → choice_text n (equations n bs) (restricted_variables n bs) r ≡ form_lines n bs points
  unfolding form_lines choice_text products_by written_product
  form-chosen h r k =
      rw (le-ltb max_listed (restricted_variables n bs) h) (ap (λ (l : List Candidate). product_lines n (map (product_by (equations n bs) (restricted_variables n bs)) l)) k.same)

-- The report of a table.
pub table-parts : (n : ℕ) (on free : List ℕ) → table_text n on free
    ≡ number_line variables_word n ++ (counts_line (length on) (length free)
    ++ function_text n (is_simple n free) (linear_space n (completed n on free)) (restriction n (linear_space n (completed n on free)) (completed n on free)))
unfolding table_text function_text form_text form_lines form_size_fault written_form form_of degree
table-parts n on free = refl

-- ---- a basis of n variables

module _ {n : ℕ} {b : Basis} (s : BasisWithin n b) where
  spans-len : b.len ≡ length (vectors_of b)
  spans-len = basis-len b s.basis

  -- The restriction by it.
  pub restricts : (f : ℕ → Bool) → Restricts n b (restriction n (vectors_of b) f)
  restricts f = record { spans = s; inside = points-inside s f; rising = points-rise s f }

  -- The form's lines by the basis.
  pub basis-refused : (points : List ℕ) → max_listed < n - b.len → refused_line size_fault ≡ form_lines n (vectors_of b) points
  basis-refused points h = form-refused n (vectors_of b) points (omega (arith, spans-len))

  pub basis-chosen : (points : List ℕ) → n - b.len ≤ max_listed → (r : Choice) → Chose (n - b.len) points r → (es : ShortList) → es ≡ short (equations n (vectors_of b))
      → choice_text n (listed es) (n - b.len) r ≡ form_lines n (vectors_of b) points
  basis-chosen points h r k es q =
      let e : length (vectors_of b) ≡ b.len = sym spans-len in
      ap (λ (l : List ℕ). choice_text n l (n - b.len) r) (short-listed es (equations n (vectors_of b)) q)
      ∙ subst (λ (j : ℕ). n - j ≤ max_listed → Chose (n - j) points r → choice_text n (equations n (vectors_of b)) (n - j) r ≡ form_lines n (vectors_of b) points) e
      (λ l m. form-chosen n (vectors_of b) points l r m) h k

  pub kept-few : (f : ℕ → Bool) (leads : ℕ) → length (kept n leads f) ≤ max_points
  kept-few f leads = omega (arith, kept-length n leads f, pow_mono s.few)

-- ---- the completed function

pub completed-text : {n : ℕ} {on free : List ℕ} {r : Completed} → IsCompleted n on free r → {simple : Bool} → simple ≡ is_simple n free
    → function_text n (is_simple n free) (linear_space n (completed n on free)) (restriction n (linear_space n (completed n on free)) (completed n on free))
    ≡ function_text n simple (vectors_of r.basis) (restriction n (vectors_of r.basis) (flagged r.flags))
completed-text {n} {on} {free} {r} k {simple} e =
    let bs = vectors_of r.basis in
    sym (ap (λ (t : Bool). function_text n t bs (restriction n bs (flagged r.flags))) e
    ∙ ap₂ (function_text n (is_simple n free)) (completed-vectors k) (completed-restriction k))
