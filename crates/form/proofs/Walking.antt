-- Laws of specs.Walk and specs.Counting: what a whole record says of the bytes that are left, and the walk as the loop meets it, a record
-- more at a time. Read next: Ruling.
use mathlib.Core.Path.{◌≡◌, refl, sym, ap, ◌∙◌, subst}
use mathlib.Core.Bool.{true, false, cond, ◌&&◌, and_assoc}
use mathlib.Core.List.{List, [], ◌∷◌, ◌++◌}
use mathlib.Core.Logic.{inl, inr}
use Prim.Native.Nat.{ℕ, suc, ◌≤◌, ◌<◌, ◌+◌, ◌-◌}
use native.Mathlib.Nat.{not-suc-le-zero}
use native.Mathlib.Numerals.{add-one}
use native.Mathlib.Omega.{arith}
use lib.Dec.{ltb, eqb}
use borrow.Author.Tests.{ltb-true}
use lib.ListN.{length, drop, get_or, length-drop}
use lib.Seq.{drop-drop}
use Rattle.gf2.proofs.Logic.{and-true}
use Rattle.gf2.proofs.Finite.{mem-snoc, snoc-mem}
use Rattle.records.specs.declared.Kind.{Kind}
use Rattle.records.specs.declared.Kind.TheVariants.{Variables, Product, Factor as FactorKind, End, On, Free}
use Rattle.records.specs.Kinds.{kind_byte, body_length}
use Rattle.records.proofs.Walking.{pass}
use Rattle.table.specs.Table.{bad_count}
use Rattle.product.specs.Product.{Factor, AllFit, fits, apart_masks, apart, agrees}
use Rattle.product.proofs.Product.{fits-is}
use Rattle.records.specs.Walks.{body_step, end_step, bytes_missing}
use Rattle.records.proofs.Whole.{body-length, failed-test, head-whole, not-whole, passed-test}
use Rattle.form.specs.declared.Counts.{Counts}
use Rattle.form.specs.Form.{max_products}
use Rattle.form.specs.Decoding.{factor_of}
use Rattle.form.specs.Walk.{variables_step, first_form_kind, first_form_step, product_step, judge_step, factor_step, Behind, behind, later_form_kind, form_step, passed, walk_form_from, walked_form}
use Rattle.form.specs.Counting.{factor_length, factors_before, behind_by, counts_after, Counted}
use Rattle.table.specs.declared.BytesFault.TheVariants.{WrongKind, Missing, WrongVariables, WrongFactor, NotCanonical, TooMany}
use Rattle.records.specs.Walks.{Walk, Step}
use Rattle.std.specs.Prelude.{Err}
use Rattle.std.specs.declared.ops.ControlFlow.TheVariants.{Continue, Break}

-- The first: its body is one byte, and n is that of a table.
pub first-whole : (byte : ℕ) (rest : List ℕ) (l : ℕ) → first_form_step byte rest ≡ Continue l → (l ≡ 1) × (1 ≤ length rest) × (bad_count (get_or rest 0 0) ≡ false)
first-whole byte rest l e = let h = head-whole byte 0 (λ k m. first_form_kind k m rest) e in kinds h.0 h.2
  where
    go : (s : Step) → body_step 1 0 rest ≡ s → variables_step s rest ≡ Continue l → (l ≡ 1) × (1 ≤ length rest) × (bad_count (get_or rest 0 0) ≡ false)
    go (Break fault) p q = not-whole q
    go (Continue m) p q =
        let h = failed-test (bad_count (get_or rest 0 0)) (Continue m) (Err (WrongVariables 1)) q in
        let b = body-length 1 0 rest m p in
        let same : l ≡ m = cc h.1 in
        (same ∙ b.0, b.1, h.0)

    kinds : (k : Kind) → first_form_kind k (body_length k) rest ≡ Continue l → (l ≡ 1) × (1 ≤ length rest) × (bad_count (get_or rest 0 0) ≡ false)
    kinds Variables q = go (body_step 1 0 rest) refl q
    kinds Product q = not-whole q
    kinds FactorKind q = not-whole q
    kinds End q = not-whole q
    kinds On q = not-whole q
    kinds Free q = not-whole q

-- A product: it has no body, and there are not too many.
pub product_whole : (products place : ℕ) (rest : List ℕ) (l : ℕ) → product_step products 0 place rest ≡ Continue l → (l ≡ 0) × (products < max_products)
product_whole products place rest l e =
    let h = passed-test (ltb products max_products) (body_step 0 place rest) (Err (TooMany place)) e in
    ((body-length 0 place rest l h.1).0, ltb-true products max_products h.0)

-- A factor: a product has begun, its body is three bytes, it fits and agrees.
pub record WholeFactor (n products : ℕ) (earlier : List Factor) (rest : List ℕ) (l : ℕ) : Type 0 where
  pub long : l ≡ 3
  pub there : 3 ≤ length rest
  pub inside : eqb products 0 ≡ false
  pub fitting : fits n (factor_of rest) ≡ true
  pub agreeing : agrees earlier (factor_of rest) ≡ true

pub factor-whole : (n products : ℕ) (earlier : List Factor) (place : ℕ) (rest : List ℕ) (l : ℕ) → factor_step n products earlier 3 place rest ≡ Continue l → WholeFactor n products earlier rest l
factor-whole n products earlier place rest l e =
    let h = failed-test (eqb products 0) (judge_step (body_step 3 place rest) n earlier place (factor_of rest)) (Err (WrongKind place)) e in
    go h.0 (body_step 3 place rest) refl h.1
  where
    go : eqb products 0 ≡ false → (s : Step) → body_step 3 place rest ≡ s → judge_step s n earlier place (factor_of rest) ≡ Continue l → WholeFactor n products earlier rest l
    go i (Break fault) p q = not-whole q
    go i (Continue m) p q =
        let f = passed-test (fits n (factor_of rest)) (cond (agrees earlier (factor_of rest)) (Continue m) (Break (Err (NotCanonical (place + 1))))) (Err (WrongFactor (place + 1))) q in
        let a = passed-test (agrees earlier (factor_of rest)) (Continue m) (Err (NotCanonical (place + 1))) f.1 in
        let b = body-length 3 place rest m p in
        let same : l ≡ m = cc a.1 in
        record { long = same ∙ b.0; there = b.1; inside = i; fitting = f.0; agreeing = a.0 }

-- The end is never passed.
pub end_whole : {A : Type 0} (s : Step) (products place : ℕ) (rest : List ℕ) (l : ℕ) → end_step s products place rest ≡ Continue l → A
end_whole (Break fault) products place rest l e = not-whole e
end_whole (Continue m) products place rest l e = not-whole e

-- Any record that is passed leaves its body behind.
kind-whole : (n : ℕ) (b : Behind) (k : Kind) (place : ℕ) (rest : List ℕ) (l : ℕ) → later_form_kind n b k (body_length k) place rest ≡ Continue l → l ≤ length rest
kind-whole n b Product place rest l e = let h = product_whole b.products place rest l e in omega (arith, h.0)
kind-whole n b FactorKind place rest l e = let h = factor-whole n b.products b.factors place rest l e in omega (arith, h.long, h.there)
kind-whole n b End place rest l e = end_whole (body_step 2 place rest) b.products place rest l e
kind-whole n b Variables place rest l e = not-whole e
kind-whole n b On place rest l e = not-whole e
kind-whole n b Free place rest l e = not-whole e

pub record-whole : (n : ℕ) (b : Behind) (byte place : ℕ) (rest : List ℕ) (l : ℕ) → form_step n b byte place rest ≡ Continue l → l ≤ length rest
record-whole n b byte place rest l e =
    let h = head-whole byte place (λ k m. later_form_kind n b k m place rest) e in
    kind-whole n b h.0 place rest l h.2

-- ---- the walk over a whole input

-- It ends at the first record, or goes on after it.
pub walk_none : (s : List ℕ) → length s ≡ 0 → walked_form s ≡ Err (Missing 0)
unfolding walked_form
walk_none [] h = refl
walk_none (c ∷ rest) h = absurd (omega arith)

pub first_ends : (s : List ℕ) (w : Walk) → 0 < length s → first_form_step (get_or s 0 0) (drop 1 s) ≡ Break w → walked_form s ≡ w
unfolding walked_form
first_ends [] w h e = absurd (not-suc-le-zero h)
first_ends (c ∷ rest) w h e = rw e

pub first_goes : (s : List ℕ) (l : ℕ) → 0 < length s → first_form_step (get_or s 0 0) (drop 1 s) ≡ Continue l
    → walked_form s ≡ walk_form_from (get_or s 1 0) 0 (behind 0 []) (1 + l) (drop (1 + l) s)
unfolding walked_form
first_goes [] l h e = absurd (not-suc-le-zero h)
first_goes (c ∷ rest) l h e =
    let w = first-whole c rest l e in
    let there : l ≤ length rest = omega (arith, w.0, w.1) in
    rw e (pass (form_step (get_or rest 0 0)) passed bytes_missing l (behind 0 []) 1 rest there ∙ ap (walk_form_from (get_or rest 0 0) 0 (behind 0 []) (1 + l)) (drop-drop l 1 (c ∷ rest)))

-- ---- the counts, a record more

-- The factors before a place, one record more.
pub factors-more : (k : ℕ) (bytes : List ℕ) (place : ℕ) → factors_before (suc k) bytes (place + factor_length) ≡ factors_before k bytes place ++ (factor_of (drop (place + 1) bytes) ∷ [])
unfolding factors_before
factors-more k bytes place =
    let e : place + factor_length - factor_length ≡ place = omega arith in
    rw e

-- A record that is passed: the counts are again those of a walk, and say what lies behind it then.
pub record Carried (n : ℕ) (bytes : List ℕ) (kind : ℕ) (counts : Counts) (place l : ℕ) : Type 0 where
  pub counted : Counted n bytes (counts_after kind counts) (place + 1 + l)
  pub behind_then : behind_by bytes (counts_after kind counts) (place + 1 + l) ≡ passed (behind_by bytes counts place) kind (drop (place + 1) bytes)

pub none-fit : (n : ℕ) (bytes : List ℕ) (place : ℕ) → AllFit n (factors_before 0 bytes place)
unfolding factors_before
none-fit n bytes place f m = absurd m

no-factors : (bytes : List ℕ) (place : ℕ) → factors_before 0 bytes place ≡ []
unfolding factors_before
no-factors bytes place = refl

module _ (n : ℕ) (bytes : List ℕ) (counts : Counts) (place : ℕ) (c : Counted n bytes counts place) (h : place < length bytes) where
  carried-kind : (k : Kind) (l : ℕ) → later_form_kind n (behind_by bytes counts place) k (body_length k) place (drop (place + 1) bytes) ≡ Continue l → Carried n bytes (kind_byte k) counts place l
  carried-kind Product l e =
      let w = product_whole counts.products place (drop (place + 1) bytes) l e in
      record {
        counted = record { few = c.few; within = omega (arith, w.0); begun = omega (arith, c.begun); room = omega arith; fitting = none-fit n bytes (place + 1 + l) };
        behind_then = ap (behind (counts.products + 1)) (no-factors bytes (place + 1 + l));
      }
  carried-kind FactorKind l e =
      let w = factor-whole n counts.products (factors_before counts.factors bytes place) place (drop (place + 1) bytes) l e in
      let next : place + 1 + l ≡ place + factor_length = omega (arith, w.long) in
      let more : factors_before (counts.factors + 1) bytes (place + 1 + l) ≡ factors_before counts.factors bytes place ++ (factor_of (drop (place + 1) bytes) ∷ [])
      = rw (next, add-one counts.factors) (factors-more counts.factors bytes place) in
      record {
        counted = record {
          few = c.few;
          within = omega (arith, w.long, w.there, length-drop (place + 1) bytes);
          begun = omega (arith, c.begun);
          room = omega (arith, w.long, c.room);
          fitting = subst (AllFit n) (sym more)
              (λ f m. elim (mem-snoc f (factors_before counts.factors bytes place) (factor_of (drop (place + 1) bytes)) m) [
                | inl k ↦ c.fitting f k
                | inr q ↦ rw q ((fits-is n (factor_of (drop (place + 1) bytes))).0 w.fitting)
              ]);
        };
        behind_then = ap (behind counts.products) more;
      }
  carried-kind End l e = end_whole (body_step 2 place (drop (place + 1) bytes)) counts.products place (drop (place + 1) bytes) l e
  carried-kind Variables l e = not-whole e
  carried-kind On l e = not-whole e
  carried-kind Free l e = not-whole e

  pub carried : (byte l : ℕ) → form_step n (behind_by bytes counts place) byte place (drop (place + 1) bytes) ≡ Continue l → Carried n bytes byte counts place l
  carried byte l e =
      let h = head-whole byte place (λ k m. later_form_kind n (behind_by bytes counts place) k m place (drop (place + 1) bytes)) e in
      subst (λ (kind : ℕ). Carried n bytes kind counts place l) (sym h.1) (carried-kind h.0 l h.2)

-- ---- the factors before a place, from the last to the first

agrees-snoc : (fs : List Factor) (f g : Factor) → agrees (fs ++ (f ∷ [])) g ≡ agrees fs g && apart_masks f.mask g.mask
unfolding agrees apart
agrees-snoc [] f g = and-true (apart_masks f.mask g.mask)
agrees-snoc (h ∷ fs) f g = rw (agrees-snoc fs f g) (sym (and_assoc (apart_masks h.mask g.mask) (agrees fs g) (apart_masks f.mask g.mask)))

module _ (left : ℕ) (bytes : List ℕ) (at : ℕ) (h : 0 < left) where
  factors-last : factors_before left bytes at ≡ factors_before (left - 1) bytes (at - factor_length) ++ (factor_of (drop (at - factor_length + 1) bytes) ∷ [])
  unfolding factors_before
  factors-last = let e : left ≡ suc (left - 1) = omega arith in subst (λ (k : ℕ). factors_before k bytes at ≡ factors_before (left - 1) bytes (at - factor_length) ++ (factor_of (drop (at - factor_length + 1) bytes) ∷ [])) (sym e) refl

  -- The last of them fits, and so do the others.
  pub last_fits : (n : ℕ) → AllFit n (factors_before left bytes at) → 0 < (factor_of (drop (at - factor_length + 1) bytes)).mask
  last_fits n a = (a (factor_of (drop (at - factor_length + 1) bytes)) (rw factors-last (snoc-mem _ (factors_before (left - 1) bytes (at - factor_length)) _ (inr refl)))).some

  pub others-fit : (n : ℕ) → AllFit n (factors_before left bytes at) → AllFit n (factors_before (left - 1) bytes (at - factor_length))
  others-fit n a f m = a f (rw factors-last (snoc-mem f (factors_before (left - 1) bytes (at - factor_length)) _ (inl m)))

  pub agrees-last : (g : Factor) → agrees (factors_before left bytes at) g
      ≡ agrees (factors_before (left - 1) bytes (at - factor_length)) g && apart_masks (factor_of (drop (at - factor_length + 1) bytes)).mask g.mask
  agrees-last g = ap (λ (fs : List Factor). agrees fs g) factors-last ∙ agrees-snoc (factors_before (left - 1) bytes (at - factor_length)) (factor_of (drop (at - factor_length + 1) bytes)) g

pub agrees-none : (bytes : List ℕ) (at : ℕ) (g : Factor) → agrees (factors_before 0 bytes at) g ≡ true
unfolding factors_before agrees
agrees-none bytes at g = refl
