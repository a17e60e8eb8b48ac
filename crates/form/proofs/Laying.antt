-- What it means that the walk finds a form: the records stand one after the other, as `Laying` and `LaidAs` say. The walk finds one exactly
-- then (`laid`, `walk-laid`), and with bytes after it a byte after the end (`walk-longer`). Read next: Encodings.
use mathlib.Core.Path.{◌≡◌, refl, sym, ap, ◌∙◌, subst}
use mathlib.Core.Bool.{Bool, true, false, cond}
use mathlib.Core.List.{List, [], ◌∷◌, ◌++◌, append-nil}
use mathlib.Core.Logic.{◌≢◌}
use Prim.Native.Nat.{ℕ, zero, suc, ◌≤◌, ◌<◌, ◌+◌}
use native.Mathlib.Nat.{le_of_suc-le-suc, not-suc-le-zero, le_refl}
use native.Mathlib.Omega.{arith}
use lib.Dec.{leb, ltb, eqb}
use borrow.Author.Tests.{le-leb, lt-ltb, ltb-true, eqb-true, eqb-false, eq-eqb, ne_eqb}
use lib.ListN.{length, drop, get_or}
use Rattle.gf2.proofs.Logic.{clash}
use Rattle.records.specs.declared.Kind.{Kind}
use Rattle.records.specs.declared.Kind.TheVariants.{Variables, Product, Factor as FactorKind, End, On, Free}
use Rattle.records.specs.Kinds.{kind_byte, variables_kind, product_kind, factor_kind, end_kind, body_length, word_of}
use Rattle.records.proofs.KindBytes.{head_byte}
use Rattle.table.specs.Table.{bad_count}
use Rattle.product.specs.Product.{Factor, factor, fits, agrees}
use Rattle.records.specs.Walks.{body_step, after_end, end_step, go_on, walk_by, is_fault}
use Rattle.records.proofs.Whole.{not-whole, body-length, faulty, head-goes}
use Rattle.form.specs.Form.{max_products}
use Rattle.form.specs.Decoding.{factor_of}
use Rattle.form.specs.Walk.{variables_step, first_form_kind, product_step, judge_step, factor_step, behind, later_form_kind, passed, walk_form_from, walked_form}
use Rattle.form.specs.Refusal.{IsForm}
use Rattle.table.specs.declared.BytesFault.TheVariants.{WrongKind, Missing, WrongVariables, WrongFactor, NotCanonical, WrongCount, After, TooMany}
use Rattle.records.specs.Walks.{Walk, Step}
use Rattle.std.specs.Prelude.{Ok, Err}
use Rattle.std.specs.declared.ops.ControlFlow.TheVariants.{Continue, Break}

-- The bytes, with a number of products behind them and the factors of the last of these, are whole records of products and factors and
-- the end, which gives the number of all products; each factor fits and agrees with those before it.
pub data Laying : ℕ → List ℕ → ℕ → List Factor → ℕ → Type 0 where
  ends : {n byte low high products all : ℕ} {earlier : List Factor} → byte ≡ end_kind → word_of low high ≡ products → products ≡ all
      → Laying n (byte ∷ low ∷ high ∷ []) products earlier all
  begins : {n byte products all : ℕ} {rest : List ℕ} {earlier : List Factor} → byte ≡ product_kind → products < max_products
      → Laying n rest (products + 1) [] all → Laying n (byte ∷ rest) products earlier all
  holds : {n byte constant low high products all : ℕ} {rest : List ℕ} {earlier : List Factor} → byte ≡ factor_kind → products ≢ 0
      → fits n (factor constant (word_of low high)) ≡ true → agrees earlier (factor constant (word_of low high)) ≡ true
      → Laying n rest products (earlier ++ (factor constant (word_of low high) ∷ [])) all → Laying n (byte ∷ constant ∷ low ∷ high ∷ rest) products earlier all

-- The bytes are those of a form with that many products.
pub data LaidAs : List ℕ → ℕ → Type 0 where
  form : {byte n : ℕ} {rest : List ℕ} {all : ℕ} → byte ≡ variables_kind → bad_count n ≡ false → Laying n rest 0 [] all → LaidAs (byte ∷ n ∷ rest) all

-- ---- from the walk to the records

-- A test in front of a step: where it ends the walk with a fault, no form is found.
module _ {all : ℕ} (s : Step) (w : Walk) (bad : is_fault w ≡ true) (next : ℕ → Walk) where
  kept : (t : Bool) → go_on (cond t s (Break w)) next ≡ Ok all → (t ≡ true) × (go_on s next ≡ Ok all)
  kept true e = (refl, e)
  kept false e = faulty bad e

  left : (t : Bool) → go_on (cond t (Break w) s) next ≡ Ok all → (t ≡ false) × (go_on s next ≡ Ok all)
  left true e = faulty bad e
  left false e = (refl, e)

module _ (products place all : ℕ) (next : ℕ → Walk) where
  product-goes : (rest : List ℕ) → go_on (product_step products 0 place rest) next ≡ Ok all → (products < max_products) × (next 0 ≡ Ok all)
  product-goes rest e =
      let h = kept (body_step 0 place rest) (Err (TooMany place)) refl next (ltb products max_products) e in
      (ltb-true products max_products h.0, (kept (Continue 0) (Err (Missing (place + 1 + length rest))) refl next (leb 0 (length rest)) h.1).1)

-- A body that is cut is a fault.
body-stops : (m place : ℕ) (rest : List ℕ) (w : Walk) → body_step m place rest ≡ Break w → is_fault w ≡ true
body-stops m place rest w = go (leb m (length rest))
  where
    go : (t : Bool) → cond t (Continue m) (Break (Err (Missing (place + 1 + length rest)))) ≡ Break w → is_fault w ≡ true
    go true e = not-whole (sym e)
    go false e = let same : w ≡ Err (Missing (place + 1 + length rest)) = cc in ap is_fault same

module _ (n products : ℕ) (earlier : List Factor) (place all : ℕ) (rest : List ℕ) (next : ℕ → Walk) where
  judge-goes : (s : Step) → body_step 3 place rest ≡ s → go_on (judge_step s n earlier place (factor_of rest)) next ≡ Ok all
      → (3 ≤ length rest) × (fits n (factor_of rest) ≡ true) × (agrees earlier (factor_of rest) ≡ true) × (next 3 ≡ Ok all)
  judge-goes (Break fault) p e = faulty (body-stops 3 place rest fault p) e
  judge-goes (Continue m) p e =
      let b = body-length 3 place rest m p in
      let f = kept (cond (agrees earlier (factor_of rest)) (Continue m) (Break (Err (NotCanonical (place + 1))))) (Err (WrongFactor (place + 1))) refl next (fits n (factor_of rest)) e in
      let a = kept (Continue m) (Err (NotCanonical (place + 1))) refl next (agrees earlier (factor_of rest)) f.1 in
      (b.1, f.0, a.0, sym (ap next b.0) ∙ a.1)

  pub factor-goes : go_on (factor_step n products earlier 3 place rest) next ≡ Ok all
      → (products ≢ 0) × ((3 ≤ length rest) × (fits n (factor_of rest) ≡ true) × (agrees earlier (factor_of rest) ≡ true) × (next 3 ≡ Ok all))
  factor-goes e =
      let h = left (judge_step (body_step 3 place rest) n earlier place (factor_of rest)) (Err (WrongKind place)) refl next (eqb products 0) e in
      (eqb-false products 0 h.0, judge-goes (body_step 3 place rest) refl h.1)

  end_goes : (s : Step) → body_step 2 place rest ≡ s → go_on (end_step s products place rest) next ≡ Ok all
      → (2 ≤ length rest) × (word_of (get_or rest 0 0) (get_or rest 1 0) ≡ products) × (after_end products (place + 1 + 2) (drop 2 rest) ≡ Ok all)
  end_goes (Break fault) p e = faulty (body-stops 2 place rest fault p) e
  end_goes (Continue m) p e =
      let b = body-length 2 place rest m p in
      let h = numbered (eqb (word_of (get_or rest 0 0) (get_or rest 1 0)) products) e in
      (b.1, eqb-true (word_of (get_or rest 0 0) (get_or rest 1 0)) products h.0, sym (ap (λ (l : ℕ). after_end products (place + 1 + l) (drop l rest)) b.0) ∙ h.1)
    where
      numbered : (t : Bool) → cond t (after_end products (place + 1 + m) (drop m rest)) (Err (WrongCount (place + 1))) ≡ Ok all → (t ≡ true) × (after_end products (place + 1 + m) (drop m rest) ≡ Ok all)
      numbered true e = (refl, e)
      numbered false e = faulty refl e

-- After the end nothing stands.
nothing-after : (products place all : ℕ) (rest : List ℕ) → after_end products place rest ≡ Ok all → (rest ≡ []) × (products ≡ all)
nothing-after products place all [] e = (refl, cc)
nothing-after products place all (b ∷ rest) e = faulty refl e

-- The records from a place on, by the number of bytes that are left.
laying-in : (k n : ℕ) (rest : List ℕ) (products : ℕ) (earlier : List Factor) (place all : ℕ) → length rest ≤ k
    → walk_form_from n 0 (behind products earlier) place rest ≡ Ok all → Laying n rest products earlier all
unfolding walk_by
laying-in zero n [] products earlier place all h e = faulty refl e
laying-in zero n (byte ∷ rest) products earlier place all h e = absurd (not-suc-le-zero h)
laying-in (suc k) n [] products earlier place all h e = faulty refl e
laying-in (suc k) n (byte ∷ rest) products earlier place all h e =
    let d = head-goes byte place (λ t l. later_form_kind n (behind products earlier) t l place rest) (λ l. walk_form_from n l (passed (behind products earlier) byte rest) (place + 1) rest) e in
    go d.0 d.1 rest (le_of_suc-le-suc h) (λ r p f l i g. laying-in k n r p f l all i g)
    (subst (λ (b : ℕ). go_on (later_form_kind n (behind products earlier) d.0 (body_length d.0) place rest) (λ l. walk_form_from n l (passed (behind products earlier) b rest) (place + 1) rest) ≡ Ok all) d.1 d.2)
  where
    go : (t : Kind) → byte ≡ kind_byte t → (rest : List ℕ) → length rest ≤ k
        → ((rest : List ℕ) (products : ℕ) (earlier : List Factor) (place : ℕ) → length rest ≤ k → walk_form_from n 0 (behind products earlier) place rest ≡ Ok all → Laying n rest products earlier all)
        → go_on (later_form_kind n (behind products earlier) t (body_length t) place rest) (λ l. walk_form_from n l (passed (behind products earlier) (kind_byte t) rest) (place + 1) rest) ≡ Ok all → Laying n (byte ∷ rest) products earlier all
    go Product q rest h later e =
        let g = product-goes products place all (λ l. walk_form_from n l (behind (products + 1) []) (place + 1) rest) rest e in
        begins q g.0 (later rest (products + 1) [] (place + 1) h g.1)
    go FactorKind q [] h later e = absurd (not-suc-le-zero (factor-goes n products earlier place all [] (λ l. walk_form_from n l (behind products (earlier ++ (factor_of [] ∷ []))) (place + 1) []) e).1.0)
    go FactorKind q (a ∷ []) h later e = absurd (omega (arith, (factor-goes n products earlier place all (a ∷ []) (λ l. walk_form_from n l (behind products (earlier ++ (factor_of (a ∷ []) ∷ []))) (place + 1) (a ∷ [])) e).1.0))
    go FactorKind q (a ∷ b ∷ []) h later e = absurd (omega (arith, (factor-goes n products earlier place all (a ∷ b ∷ []) (λ l. walk_form_from n l (behind products (earlier ++ (factor_of (a ∷ b ∷ []) ∷ []))) (place + 1) (a ∷ b ∷ [])) e).1.0))
    go FactorKind q (constant ∷ low ∷ high ∷ rest) h later e =
        let g = factor-goes n products earlier place all (constant ∷ low ∷ high ∷ rest) (λ l. walk_form_from n l (behind products (earlier ++ (factor_of (constant ∷ low ∷ high ∷ rest) ∷ []))) (place + 1) (constant ∷ low ∷ high ∷ rest)) e in
        holds q g.0 g.1.1 g.1.2 (later rest products (earlier ++ (factor constant (word_of low high) ∷ [])) (place + 1 + 1 + 1 + 1) (omega arith) g.1.3)
    go End q [] h later e = absurd (not-suc-le-zero (end_goes n products earlier place all [] (λ l. walk_form_from n l (behind products earlier) (place + 1) []) (body_step 2 place []) refl e).0)
    go End q (a ∷ []) h later e = absurd (omega (arith, (end_goes n products earlier place all (a ∷ []) (λ l. walk_form_from n l (behind products earlier) (place + 1) (a ∷ [])) (body_step 2 place (a ∷ [])) refl e).0))
    go End q (low ∷ high ∷ rest) h later e =
        let g = end_goes n products earlier place all (low ∷ high ∷ rest) (λ l. walk_form_from n l (behind products earlier) (place + 1) (low ∷ high ∷ rest)) (body_step 2 place (low ∷ high ∷ rest)) refl e in
        let r = nothing-after products (place + 1 + 2) all rest g.2 in
        subst (λ (l : List ℕ). Laying n (byte ∷ low ∷ high ∷ l) products earlier all) (sym r.0) (ends q g.1 r.1)
    go Variables q rest h later e = faulty refl e
    go On q rest h later e = faulty refl e
    go Free q rest h later e = faulty refl e

-- The first record, then the others.
pub laid : (bytes : List ℕ) (all : ℕ) → walked_form bytes ≡ Ok all → LaidAs bytes all
unfolding walked_form walk_by
laid [] all e = faulty refl e
laid (byte ∷ rest) all e = let d = head-goes byte 0 (λ k l. first_form_kind k l rest) (λ l. walk_form_from (get_or rest 0 0) l (behind 0 []) 1 rest) e in go d.0 d.1 rest d.2
  where
    first : (rest : List ℕ) (next : ℕ → Walk) (s : Step) → body_step 1 0 rest ≡ s → go_on (variables_step s rest) next ≡ Ok all → (1 ≤ length rest) × (bad_count (get_or rest 0 0) ≡ false) × (next 1 ≡ Ok all)
    first rest next (Break fault) p e = faulty (body-stops 1 0 rest fault p) e
    first rest next (Continue m) p e =
        let b = body-length 1 0 rest m p in
        let h = left (Continue m) (Err (WrongVariables 1)) refl next (bad_count (get_or rest 0 0)) e in
        (b.1, h.0, sym (ap next b.0) ∙ h.1)

    go : (k : Kind) → byte ≡ kind_byte k → (rest : List ℕ) → go_on (first_form_kind k (body_length k) rest) (λ l. walk_form_from (get_or rest 0 0) l (behind 0 []) 1 rest) ≡ Ok all → LaidAs (byte ∷ rest) all
    go Variables q [] e = absurd (not-suc-le-zero (first [] (λ l. walk_form_from 0 l (behind 0 []) 1 []) (body_step 1 0 []) refl e).0)
    go Variables q (n ∷ rest) e =
        let f = first (n ∷ rest) (λ l. walk_form_from n l (behind 0 []) 1 (n ∷ rest)) (body_step 1 0 (n ∷ rest)) refl e in
        form q f.1 (laying-in (length rest) n rest 0 [] 2 all (le_refl (length rest)) f.2)
    go Product q rest e = faulty refl e
    go FactorKind q rest e = faulty refl e
    go End q rest e = faulty refl e
    go On q rest e = faulty refl e
    go Free q rest e = faulty refl e

-- ---- from the records to the walk

-- The walk over the records and any bytes after them.
pub walk-laying : {n : ℕ} {rest : List ℕ} {products : ℕ} {earlier : List Factor} {all : ℕ} → Laying n rest products earlier all → (place : ℕ) (more : List ℕ)
    → walk_form_from n 0 (behind products earlier) place (rest ++ more) ≡ after_end all (place + length rest) more
unfolding walk_by
walk-laying {products = products} (ends {low = low} {high = high} q w a) place more =
    let e : place + 1 + 2 ≡ place + 3 = omega arith in
    rw (q, head_byte End place, le-leb 2 (length (low ∷ high ∷ more)) (omega arith), eq-eqb _ products w) (ap (λ (p : ℕ). after_end products p more) e ∙ ap (λ (p : ℕ). after_end p (place + 3) more) a)
walk-laying {products = products} {all = all} (begins {rest = rest} q h r) place more =
    let e : place + 1 + length rest ≡ place + suc (length rest) = omega arith in
    rw (q, head_byte Product place, lt-ltb products max_products h, le-leb 0 (length (rest ++ more)) (omega arith)) (walk-laying r (place + 1) more ∙ ap (λ (p : ℕ). after_end all p more) e)
walk-laying {products = products} {all = all} (holds {constant = constant} {low = low} {high = high} {rest = rest} q nz f a r) place more =
    let e : place + 1 + 1 + 1 + 1 + length rest ≡ place + suc (suc (suc (suc (length rest)))) = omega arith in
    rw (q, head_byte FactorKind place, ne_eqb products 0 nz, le-leb 3 (length (constant ∷ low ∷ high ∷ (rest ++ more))) (omega arith), f, a) (walk-laying r (place + 1 + 1 + 1 + 1) more ∙ ap (λ (p : ℕ). after_end all p more) e)

pub walk-longer : {bytes : List ℕ} {all : ℕ} → LaidAs bytes all → (more : List ℕ) → walked_form (bytes ++ more) ≡ after_end all (length bytes) more
unfolding walked_form walk_by
walk-longer {all = all} (form {n = n} {rest = rest} q b r) more =
    let e : 2 + length rest ≡ suc (suc (length rest)) = omega arith in
    rw (q, head_byte Variables 0, le-leb 1 (length (n ∷ (rest ++ more))) (omega arith), b) (walk-laying r 2 more ∙ ap (λ (p : ℕ). after_end all p more) e)

pub walk-laid : {bytes : List ℕ} {all : ℕ} → LaidAs bytes all → walked_form bytes ≡ Ok all
walk-laid {bytes} l = ap walked_form (sym (append-nil bytes)) ∙ walk-longer l []

pub is-form : {bytes : List ℕ} {all : ℕ} → LaidAs bytes all → IsForm bytes
is-form l = ap is_fault (walk-laid l)

pub form-laid : (bytes : List ℕ) → IsForm bytes → (all : ℕ) × LaidAs bytes all
form-laid bytes h = go (walked_form bytes) refl h
  where
    go : (found : Walk) → walked_form bytes ≡ found → is_fault found ≡ false → (all : ℕ) × LaidAs bytes all
    go (Ok all) e h = (all, laid bytes all e)
    go (Err (WrongKind place)) e h = clash refl h
    go (Err (Missing place)) e h = clash refl h
    go (Err (WrongVariables place)) e h = clash refl h
    go (Err (WrongFactor place)) e h = clash refl h
    go (Err (NotCanonical place)) e h = clash refl h
    go (Err (WrongCount place)) e h = clash refl h
    go (Err (After place)) e h = clash refl h
    go (Err (TooMany place)) e h = clash refl h
