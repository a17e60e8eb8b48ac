-- Laws of specs.Records and specs.Changes at one point: a product appended is counted, and one taken away is no longer (`record-append`, `record-remove`), and
-- counting product after product gives the record (`record-fold`). Read next: InPlace.
use mathlib.Core.Path.{◌≡◌, refl, sym, ap, ap₂, ◌∙◌}
use mathlib.Core.Bool.{Bool, true, false, cond}
use mathlib.Core.Logic.{◌≢◌}
use mathlib.Core.List.{List, [], ◌∷◌, ◌++◌, append_assoc, append-nil}
use Prim.Native.Nat.{ℕ, zero, suc, ◌+◌, ◌-◌, ◌≤◌, ◌<◌}
use native.Mathlib.Nat.{not-suc-le-zero, le_of_suc-le-suc}
use native.Mathlib.Omega.{arith}
use lib.Dec.{eqb, leb}
use lib.ListN.{length, get_or, length-append}
use borrow.Author.Tests.{eqb-true, eqb-false, eq-eqb, ne_eqb, le-leb, lt-leb}
use Rattle.gf2.proofs.Logic.{and_l, and_r}
use Rattle.product.specs.Product.{Factor, product_at}
use Rattle.index.specs.declared.PointRecord.{PointRecord}
use Rattle.index.specs.Records.{no_product, point_record, no_record, holders, first_from, point_record_of, same_record}
use Rattle.index.specs.Changes.{add_holder, appended_at, drop_holder, removed_at}
use Rattle.index.specs.Answers.{without_last, last_of}

-- ---- two records

pub same-is : (r s : PointRecord) → same_record r s ≡ true → r ≡ s
unfolding same_record
same-is r s e =
    let counts = eqb-true r.count s.count (and_l (eqb r.count s.count) (eqb r.first s.first) e) in
    let firsts = eqb-true r.first s.first (and_r (eqb r.count s.count) (eqb r.first s.first) e) in
    ap₂ point_record counts firsts

pub same_self : (r : PointRecord) → same_record r r ≡ true
unfolding same_record
same_self r = rw (eq-eqb r.count r.count refl, eq-eqb r.first r.first refl)

-- ---- a product at the end of the others

module _ (p : List Factor) (w : ℕ) where
  holders-append : (ps : List (List Factor)) → holders (ps ++ (p ∷ [])) w ≡ cond (product_at p w) (holders ps w + 1) (holders ps w)
  unfolding holders
  holders-append [] = refl
  holders-append (q ∷ ps) = rw (holders-append ps) (go (product_at q w) (product_at p w))
    where
      go : (t u : Bool) → cond t (suc (cond u (holders ps w + 1) (holders ps w))) (cond u (holders ps w + 1) (holders ps w)) ≡ cond u (cond t (suc (holders ps w)) (holders ps w) + 1) (cond t (suc (holders ps w)) (holders ps w))
      go true true = omega arith
      go true false = refl
      go false true = refl
      go false false = refl

  -- Where none of the others holds the point, none of them is the first, and the product is if it holds it.
  first-append : (k : ℕ) (ps : List (List Factor))
      → first_from k (ps ++ (p ∷ [])) w ≡ cond (eqb (holders ps w) 0) (cond (product_at p w) (k + length ps) no_product) (first_from k ps w)
  unfolding holders first_from
  first-append k [] = let same : k ≡ k + 0 = omega arith in ap (λ (number : ℕ). cond (product_at p w) number no_product) same
  first-append k (q ∷ ps) =
      let same : suc k + length ps ≡ k + suc (length ps) = omega arith in
      rw (first-append (suc k) ps, same) (go (product_at q w))
    where
      go : (t : Bool) → cond t k (cond (eqb (holders ps w) 0) (cond (product_at p w) (k + suc (length ps)) no_product) (first_from (suc k) ps w))
          ≡ cond (eqb (cond t (suc (holders ps w)) (holders ps w)) 0) (cond (product_at p w) (k + suc (length ps)) no_product) (cond t k (first_from (suc k) ps w))
      go true = rw (ne_eqb (suc (holders ps w)) 0 (λ z. omega arith))
      go false = refl

-- Where no product holds the point, none is the first.
pub unheld-first : (k : ℕ) (ps : List (List Factor)) (w : ℕ) → holders ps w ≡ 0 → first_from k ps w ≡ no_product
unfolding holders first_from
unheld-first k [] w e = refl
unheld-first k (p ∷ ps) w e = go (product_at p w) (unheld-first (suc k) ps w) e
  where
    go : (t : Bool) → (holders ps w ≡ 0 → first_from (suc k) ps w ≡ no_product) → cond t (suc (holders ps w)) (holders ps w) ≡ 0 → cond t k (first_from (suc k) ps w) ≡ no_product
    go true none e = absurd (omega arith)
    go false none e = none e

-- The record with one product more is the change of the record.
pub record-append : (ps : List (List Factor)) (p : List Factor) (w : ℕ) → point_record_of (ps ++ (p ∷ [])) w ≡ appended_at (length ps) p w (point_record_of ps w)
record-append ps p w = rw (holders-append p w ps, first-append p w 0 ps) (go (product_at p w) (eqb (holders ps w) 0) refl)
  where
    start : 0 + length ps ≡ length ps
    start = omega arith

    go : (t u : Bool) → eqb (holders ps w) 0 ≡ u
        → point_record (cond t (holders ps w + 1) (holders ps w)) (cond u (cond t (0 + length ps) no_product) (first_from 0 ps w))
        ≡ cond t (point_record (holders ps w + 1) (cond u (length ps) (first_from 0 ps w))) (point_record_of ps w)
    go true true e = ap (point_record (holders ps w + 1)) start
    go true false e = refl
    go false true e = ap (point_record (holders ps w)) (sym (unheld-first 0 ps w (eqb-true (holders ps w) 0 e)))
    go false false e = refl

-- ---- the last product taken away

-- A list is what stands before its last element, and that element.
pub last_apart : {A : Type 0} (x : A) (l : List A) → 1 ≤ length l → l ≡ without_last l ++ (last_of x l ∷ [])
last_apart x [] h = absurd (omega arith)
last_apart x (y ∷ []) h = refl
last_apart {A} x (y ∷ z ∷ l) h = ap (λ (t : List A). y ∷ t) (last_apart y (z ∷ l) (omega arith))

-- What was counted in is counted out.
counted_back : (number : ℕ) (r : PointRecord) → (r.count ≡ 0 → r.first ≡ no_product) → drop_holder (add_holder number r) ≡ r
counted_back number r h = go (eqb r.count 0) refl
  where
    count : r.count + 1 - 1 ≡ r.count
    count = omega arith

    go : (t : Bool) → eqb r.count 0 ≡ t → point_record (r.count + 1 - 1) (cond (leb (r.count + 1) 1) no_product (cond t number r.first)) ≡ r
    go true e =
        let z = eqb-true r.count 0 e in
        let one : leb (r.count + 1) 1 ≡ true = le-leb (r.count + 1) 1 (omega arith) in
        let first : cond (leb (r.count + 1) 1) no_product number ≡ r.first = rw one (sym (h z)) in
        ap₂ point_record count first
    go false e =
        let some : r.count ≢ 0 = eqb-false r.count 0 e in
        let more : leb (r.count + 1) 1 ≡ false = lt-leb (r.count + 1) 1 (omega (arith, some)) in
        let first : cond (leb (r.count + 1) 1) no_product r.first ≡ r.first = rw more in
        ap₂ point_record count first

pub record-remove : (ps : List (List Factor)) (w : ℕ) → 1 ≤ length ps → removed_at (last_of [] ps) w (point_record_of ps w) ≡ point_record_of (without_last ps) w
record-remove ps w h =
    let qs = without_last ps in
    let p = last_of [] ps in
    ap (λ (l : List (List Factor)). removed_at p w (point_record_of l w)) (last_apart [] ps h) ∙ ap (removed_at p w) (record-append qs p w) ∙ go (product_at p w) (point_record_of qs w) (unheld-first 0 qs w)
  where
    go : (t : Bool) (r : PointRecord) → (r.count ≡ 0 → r.first ≡ no_product) → cond t (drop_holder (cond t (add_holder (length (without_last ps)) r) r)) (cond t (add_holder (length (without_last ps)) r) r) ≡ r
    go true r e = counted_back (length (without_last ps)) r e
    go false r e = refl

-- Where it holds a point, it is one of those that are counted.
pub last-counted : (ps : List (List Factor)) (w : ℕ) → 1 ≤ length ps → product_at (last_of [] ps) w ≡ true → 1 ≤ holders ps w
last-counted ps w h e =
    let qs = without_last ps in
    let p = last_of [] ps in
    let one : cond (product_at p w) (holders qs w + 1) (holders qs w) ≡ holders qs w + 1 = rw e in
    let more = ap (λ (l : List (List Factor)). holders l w) (last_apart [] ps h) ∙ holders-append p w qs ∙ one in
    omega (arith, more)

-- ---- the first product

-- Where a product holds the point, the first is one of them; no product before the first holds it.
pub first_holds : (k : ℕ) (ps : List (List Factor)) (w : ℕ) → holders ps w ≢ 0
    → (j : ℕ) × (j < length ps) × (first_from k ps w ≡ k + j) × (product_at (get_or ps j []) w ≡ true)
unfolding holders first_from
first_holds k [] w n = absurd (n refl)
first_holds k (p ∷ ps) w n = go (product_at p w) refl n (first_holds (suc k) ps w)
  where
    go : (t : Bool) → product_at p w ≡ t → cond t (suc (holders ps w)) (holders ps w) ≢ 0
        → (holders ps w ≢ 0 → (j : ℕ) × (j < length ps) × (first_from (suc k) ps w ≡ suc k + j) × (product_at (get_or ps j []) w ≡ true))
        → (j : ℕ) × (j < suc (length ps)) × (cond t k (first_from (suc k) ps w) ≡ k + j) × (product_at (get_or (p ∷ ps) j []) w ≡ true)
    go true e n later = (0, omega arith, omega arith, e)
    go false e n later = let r = later n in (suc r.0, omega (arith, r.1), omega (arith, r.2), r.3)

pub first-before : (k : ℕ) (ps : List (List Factor)) (w i : ℕ) → i < length ps → k + i < first_from k ps w → product_at (get_or ps i []) w ≡ false
unfolding first_from
first-before k [] w i h l = absurd (not-suc-le-zero h)
first-before k (p ∷ ps) w i h l = go i h (product_at p w) refl l (first-before (suc k) ps w)
  where
    go : (i : ℕ) → i < suc (length ps) → (t : Bool) → product_at p w ≡ t → k + i < cond t k (first_from (suc k) ps w)
        → ((j : ℕ) → j < length ps → suc k + j < first_from (suc k) ps w → product_at (get_or ps j []) w ≡ false) → product_at (get_or (p ∷ ps) i []) w ≡ false
    go i h true e l later = absurd (omega arith)
    go zero h false e l later = e
    go (suc i) h false e l later = later i (le_of_suc-le-suc h) (omega arith)

-- ---- product after product

-- The record after these products too, the first of which has the given number.
unfoldable pub record_from : ℕ → PointRecord → List (List Factor) → ℕ → PointRecord
record_from k r [] w = r
record_from k r (p ∷ ps) w = record_from (k + 1) (appended_at k p w r) ps w

pub record-fold : (qs ps : List (List Factor)) (k w : ℕ) → k ≡ length qs → record_from k (point_record_of qs w) ps w ≡ point_record_of (qs ++ ps) w
unfolding record_from
record-fold qs [] k w e = ap (λ (l : List (List Factor)). point_record_of l w) (sym (append-nil qs))
record-fold qs (p ∷ ps) k w e =
    let next : appended_at k p w (point_record_of qs w) ≡ point_record_of (qs ++ (p ∷ [])) w = rw e (sym (record-append qs p w)) in
    let more : k + 1 ≡ length (qs ++ (p ∷ [])) = omega (arith, length-append qs (p ∷ [])) in
    rw next (record-fold (qs ++ (p ∷ [])) ps (k + 1) w more ∙ ap (λ (l : List (List Factor)). point_record_of l w) (append_assoc qs (p ∷ []) ps))

pub record-none : (w : ℕ) → point_record_of [] w ≡ no_record
unfolding holders first_from
record-none w = refl

-- ---- how large the numbers are

pub holders-few : (ps : List (List Factor)) (w : ℕ) → holders ps w ≤ length ps
unfolding holders
holders-few [] w = omega arith
holders-few (p ∷ ps) w = go (product_at p w) (holders-few ps w)
  where
    go : (t : Bool) → holders ps w ≤ length ps → cond t (suc (holders ps w)) (holders ps w) ≤ suc (length ps)
    go true h = omega arith
    go false h = omega arith
