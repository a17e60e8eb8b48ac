-- The index of a form as a list: when a list begins with it (`index_is`), and what it is once a product is appended or taken away (`appended-index`,
-- `removed-index`). Read next: Reading.
use mathlib.Core.Path.{◌≡◌, refl, sym, ap, ap₂, ◌∙◌}
use mathlib.Core.Bool.{Bool, true}
use mathlib.Core.Logic.{◌↔◌}
use mathlib.Core.List.{List, [], ◌∷◌, ◌++◌}
use Prim.Native.Nat.{ℕ, zero, suc, ◌<◌, ◌≤◌, ◌^◌}
use native.Mathlib.Nat.{not-suc-le-zero, le_of_suc-le-suc}
use native.Mathlib.Omega.{arith}
use lib.ListN.{length, get_or, take, drop}
use lib.Seq.{get_or-take}
use Rattle.gf2.proofs.Finite.{all-at, all_of}
use Rattle.product.specs.Product.{Factor}
use Rattle.form.specs.Form.{Form}
use Rattle.form.specs.Decoding.{form_variables, form_products, decode_form}
use Rattle.index.specs.declared.PointRecord.{PointRecord}
use Rattle.index.specs.Records.{no_record, point_record_of, tabulate, form_index, same_record, agrees_upto, is_index}
use Rattle.index.specs.Changes.{appended_at, removed_at, map_first}
use Rattle.index.specs.Answers.{without_last, last_of}
use Rattle.index.proofs.Records.{same-is, same_self, record-append, record-remove}

-- ---- values in a row

module _ {A : Type 0} where
  pub tabulate-length : (g : ℕ → A) (k : ℕ) → length (tabulate g k) ≡ k
  unfolding tabulate
  tabulate-length g zero = refl
  tabulate-length g (suc k) = ap suc (tabulate-length (λ w. g (suc w)) k)

  pub tabulate-at : (g : ℕ → A) (k w : ℕ) (d : A) → w < k → get_or (tabulate g k) w d ≡ g w
  unfolding tabulate
  tabulate-at g zero w d h = absurd (not-suc-le-zero h)
  tabulate-at g (suc k) zero d h = refl
  tabulate-at g (suc k) (suc w) d h = tabulate-at (λ v. g (suc v)) k w d (le_of_suc-le-suc h)

  -- One value more stands behind the others.
  pub tabulate-next : (g : ℕ → A) (k : ℕ) → tabulate g (suc k) ≡ tabulate g k ++ (g k ∷ [])
  unfolding tabulate
  tabulate-next g zero = refl
  tabulate-next g (suc k) = ap (λ (l : List A). g 0 ∷ l) (tabulate-next (λ w. g (suc w)) k)

  -- Only the values below k count.
  pub tabulate-same : (g h : ℕ → A) (k : ℕ) → ((w : ℕ) → w < k → g w ≡ h w) → tabulate g k ≡ tabulate h k
  unfolding tabulate
  tabulate-same g h zero e = refl
  tabulate-same g h (suc k) e = ap₂ ◌∷◌ (e 0 (omega arith)) (tabulate-same (λ w. g (suc w)) (λ w. h (suc w)) k (λ w l. e (suc w) (omega arith)))

  -- The first elements of a list are the values if each one is.
  pub tabulate-take : (g : ℕ → A) (k : ℕ) (l : List A) (d : A) → k ≤ length l → ((w : ℕ) → w < k → get_or l w d ≡ g w) → take k l ≡ tabulate g k
  unfolding tabulate
  tabulate-take g zero l d h e = refl
  tabulate-take g (suc k) [] d h e = absurd (not-suc-le-zero h)
  tabulate-take g (suc k) (x ∷ l) d h e = ap₂ ◌∷◌ (e 0 (omega arith)) (tabulate-take (λ w. g (suc w)) k l d (le_of_suc-le-suc h) (λ w m. e (suc w) (omega arith)))

  -- Changed in place, they are the changed values.
  pub tabulate-map : (f : ℕ → A → A) (g : ℕ → A) (k : ℕ) (rest : List A) → map_first f k (tabulate g k ++ rest) ≡ tabulate (λ w. f w (g w)) k ++ rest
  unfolding tabulate map_first
  tabulate-map f g zero rest = refl
  tabulate-map f g (suc k) rest = ap (λ (l : List A). f 0 (g 0) ∷ l) (tabulate-map (λ w. f (suc w)) (λ w. g (suc w)) k rest)

  -- Built in place, a list has the values at its front.
  pub tabulate-built : (g : ℕ → A) (k : ℕ) (l : List A) → k ≤ length l → map_first (λ w x. g w) k l ≡ tabulate g k ++ drop k l
  unfolding tabulate map_first
  tabulate-built g zero l h = refl
  tabulate-built g (suc k) [] h = absurd (not-suc-le-zero h)
  tabulate-built g (suc k) (x ∷ l) h = ap (λ (t : List A). g 0 ∷ t) (tabulate-built (λ w. g (suc w)) k l (le_of_suc-le-suc h))

-- ---- the index

pub index-length : (f : Form) → length (form_index f) ≡ 2 ^ f.variables
unfolding form_index
index-length f = tabulate-length (point_record_of f.products) (2 ^ f.variables)

pub index_at : (f : Form) (w : ℕ) → w < 2 ^ f.variables → get_or (form_index f) w no_record ≡ point_record_of f.products w
unfolding form_index
index_at f w h = tabulate-at (point_record_of f.products) (2 ^ f.variables) w no_record h

-- A list that is long enough begins with the index exactly if the test says so.
pub index_is : (form : List ℕ) (list : List PointRecord) → 2 ^ form_variables form ≤ length list → (is_index form list ≡ true) ↔ (take (2 ^ form_variables form) list ≡ form_index (decode_form form))
unfolding form_index agrees_upto
index_is form list h = (
  λ e. tabulate-take g k list no_record h (λ w l. same-is (get_or list w no_record) (g w) (all-at agree k e w l)),
  λ e. all_of agree k (λ w l. ap (λ (r : PointRecord). same_record r (g w)) (sym (get_or-take k list w no_record l) ∙ ap (λ (t : List PointRecord). get_or t w no_record) e ∙ tabulate-at g k w no_record l) ∙ same_self (g w)),
)
  where
    k : ℕ
    k = 2 ^ form_variables form

    g : ℕ → PointRecord
    g = point_record_of (form_products form)

    agree : ℕ → Bool
    agree w = same_record (get_or list w no_record) (g w)

-- The index changed by an appended product is that of the form with it; what lies behind it stays.
pub appended-index : (n : ℕ) (ps : List (List Factor)) (p : List Factor) (rest : List PointRecord)
    → map_first (appended_at (length ps) p) (2 ^ n) (form_index (record { variables = n; products = ps }) ++ rest) ≡ form_index (record { variables = n; products = ps ++ (p ∷ []) }) ++ rest
unfolding form_index
appended-index n ps p rest =
    tabulate-map (appended_at (length ps) p) (point_record_of ps) (2 ^ n) rest
    ∙ ap (λ (l : List PointRecord). l ++ rest) (tabulate-same (λ w. appended_at (length ps) p w (point_record_of ps w)) (point_record_of (ps ++ (p ∷ []))) (2 ^ n) (λ w l. sym (record-append ps p w)))

-- The index changed by taking the last product away is that of the form without it.
pub removed-index : (n : ℕ) (ps : List (List Factor)) (rest : List PointRecord) → 1 ≤ length ps
    → map_first (removed_at (last_of [] ps)) (2 ^ n) (form_index (record { variables = n; products = ps }) ++ rest) ≡ form_index (record { variables = n; products = without_last ps }) ++ rest
unfolding form_index
removed-index n ps rest h =
    tabulate-map (removed_at (last_of [] ps)) (point_record_of ps) (2 ^ n) rest
    ∙ ap (λ (l : List PointRecord). l ++ rest) (tabulate-same (λ w. removed_at (last_of [] ps) w (point_record_of ps w)) (point_record_of (without_last ps)) (2 ^ n) (λ w l. record-remove ps w h))
