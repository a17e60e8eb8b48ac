-- The walk over a form goes by the rules of specs.Faults (`form-ruled`), so what it reports is the first fault by these rules (`form-first`). Read next: Laying.
use mathlib.Core.Path.{◌≡◌, refl, sym, ap, ◌∙◌, subst}
use mathlib.Core.Bool.{Bool, true, false, cond, not, ◌&&◌}
use mathlib.Core.Logic.{inl, inr, ◌⊎◌}
use mathlib.Core.List.{List, [], ◌∷◌, ◌++◌}
use Prim.Native.Nat.{ℕ, ◌+◌, ◌≤◌}
use native.Mathlib.Omega.{arith}
use lib.Dec.{eqb, ltb, leb}
use lib.ListN.{length, get_or, take}
use lib.Seq.{length-take-le, get_or-take}
use borrow.Author.Tests.{ltb-true, ltb-false, le-leb, lt-leb, leb-false}
use Rattle.records.specs.declared.Kind.{Kind}
use Rattle.records.specs.declared.Kind.TheVariants.{Variables, Product, Factor as FactorKind, End, On, Free}
use Rattle.records.specs.Kinds.{kind_byte, body_length, known, head_of, Bytes, encode_end}
use Rattle.records.specs.Walks.{head_step, body_step, go_on, walk_by}
use Rattle.records.specs.Faults.{Record, record_of, IsWhole, records_bytes, place_after, is_end, ended, record_count, counted_in}
use Rattle.records.proofs.KindBytes.{head-cases, end-bytes, shortest, shortest-bytes}
use Rattle.records.proofs.Whole.{not-whole, head-whole}
use Rattle.records.proofs.Walking.{walk-alike}
use Rattle.records.proofs.Places.{place-snoc, ended-snoc, counted-snoc}
use Rattle.records.proofs.Ruling.{first_stop, kind_flags, head_rule, rule_step, pushed, pushed-kind, walk_rules, end-ruled}
use Rattle.records.proofs.Paths.{walk_after, Found, end-laid, ruled}
use Rattle.table.specs.Table.{bad_count}
use Rattle.product.specs.Product.{Factor, fits, agrees}
use Rattle.form.specs.Form.{max_products}
use Rattle.form.specs.Decoding.{factor_of}
use Rattle.form.specs.Walk.{variables_step, first_form_kind, first_form_step, product_step, factor_step, Behind, behind, later_form_kind, form_step, passed, walk_form_from, walked_form}
use Rattle.form.specs.Faults.{is_product, products_in, later_admits, form_admits, variables_in, factors_passed, factors_since, last_factors, form_rules}
use Rattle.form.proofs.Walking.{first-whole, product_whole, factor-whole, end_whole}
use Rattle.records.specs.Walks.{Step}
use Rattle.std.specs.Prelude.{Ok}
use Rattle.std.specs.declared.ops.ControlFlow.TheVariants.{Continue, Break}

-- ---- the two walks agree

-- The factor of a body is that of the bytes that begin with it.
factor-body : (rest : List ℕ) → factor_of (take 3 rest) ≡ factor_of rest
factor-body rest = rw (get_or-take 3 rest 0 0 (omega arith), get_or-take 3 rest 1 0 (omega arith), get_or-take 3 rest 2 0 (omega arith))

-- What lies behind the walk over a form of n variables, and the records behind the walk by the rules.
record Alike (n : ℕ) (b : Behind) (before : List Record) (place : ℕ) : Type 0 where
  first : Record
  others : List Record
  begins : before ≡ first ∷ others
  variables : get_or first.body 0 0 ≡ n
  here : place ≡ place_after before
  products : products_in before ≡ b.products
  factors : last_factors before ≡ b.factors
  awaits : ended before ≡ false

module _ {n : ℕ} {b : Behind} {before : List Record} {place : ℕ} (a : Alike n b before place) where
  admitted : (kind : Kind) → form_admits before kind ≡ later_admits b.products kind
  admitted kind = ap (λ (l : List Record). form_admits l kind) a.begins ∙ ap (λ (l : List Record). later_admits (products_in l) kind) (sym a.begins) ∙ ap (λ (k : ℕ). later_admits k kind) a.products

  variables-same : variables_in before ≡ n
  variables-same = ap variables_in a.begins ∙ a.variables

-- One is too many exactly where none is left.
full : (products : ℕ) (t : Bool) → ltb products max_products ≡ t → leb max_products products ≡ not t
full products true e = lt-leb max_products products (ltb-true products max_products e)
full products false e = le-leb max_products products (ltb-false products max_products e)

later_same : (n : ℕ) (b : Behind) (before : List Record) (byte place : ℕ) (rest : List ℕ) → Alike n b before place → form_step n b byte place rest ≡ rule_step form_rules before byte place rest
unfolding first_stop
later_same n b before byte place rest a =
    head-cases (λ h. head_step h (λ kind l. later_form_kind n b kind l place rest) ≡ first_stop (kind_flags form_rules before place h) (head_rule form_rules before place h rest)) byte place
    (λ kind q. kinds kind) (rw a.awaits)
  where
    product : (t : Bool) → ltb b.products max_products ≡ t
        → product_step b.products 0 place rest ≡ first_stop (kind_flags form_rules before place (known Product)) (head_rule form_rules before place (known Product) rest)
    product true q = rw (a.awaits, admitted a Product, a.products, q, full b.products true q)
    product false q = rw (a.awaits, admitted a Product, a.products, q, full b.products false q)

    factor : (none long fit agree : Bool) → eqb b.products 0 ≡ none → leb 3 (length rest) ≡ long → fits n (factor_of rest) ≡ fit → agrees b.factors (factor_of rest) ≡ agree
        → factor_step n b.products b.factors 3 place rest ≡ first_stop (kind_flags form_rules before place (known FactorKind)) (head_rule form_rules before place (known FactorKind) rest)
    factor true long fit agree p q r s = rw (a.awaits, admitted a FactorKind, p)
    factor false false fit agree p q r s = rw (a.awaits, admitted a FactorKind, p, q)
    factor false true false agree p q r s = rw (a.awaits, admitted a FactorKind, p, q, factor-body rest, variables-same a, r)
    factor false true true false p q r s = rw (a.awaits, admitted a FactorKind, p, q, factor-body rest, variables-same a, a.factors, r, s)
    factor false true true true p q r s = rw (a.awaits, admitted a FactorKind, p, q, factor-body rest, variables-same a, a.factors, r, s)

    kinds : (kind : Kind) → later_form_kind n b kind (body_length kind) place rest ≡ first_stop (kind_flags form_rules before place (known kind)) (head_rule form_rules before place (known kind) rest)
    kinds Product = product (ltb b.products max_products) refl
    kinds FactorKind = factor (eqb b.products 0) (leb 3 (length rest)) (fits n (factor_of rest)) (agrees b.factors (factor_of rest)) refl refl refl refl
    kinds End = rw (a.awaits, admitted a End) (end-ruled form_rules before b.products place rest a.products)
    kinds Variables = rw (a.awaits, admitted a Variables)
    kinds On = rw (a.awaits, admitted a On)
    kinds Free = rw (a.awaits, admitted a Free)

-- The factors of a record more.
factors-snoc : (earlier : List Factor) (before : List Record) (r : Record) → factors_since earlier (before ++ (r ∷ [])) ≡ factors_passed (factors_since earlier before) r.kind r.body
unfolding factors_since
factors-snoc earlier [] r = refl
factors-snoc earlier (c ∷ before) r = factors-snoc (factors_passed earlier c.kind c.body) before r

-- A record that is passed lies behind both walks.
again : (n : ℕ) (b : Behind) (before : List Record) (byte place : ℕ) (rest : List ℕ) (l : ℕ) → Alike n b before place → form_step n b byte place rest ≡ Continue l
    → Alike n (passed b byte rest) (pushed before byte rest) (place + 1 + l)
again n b before byte place rest l a e =
    let h = head-whole byte place (λ k m. later_form_kind n b k m place rest) e in
    let same : pushed before byte rest ≡ before ++ (record_of h.0 (take (body_length h.0) rest) ∷ []) = ap (λ (x : ℕ). pushed before x rest) h.1 ∙ pushed-kind before h.0 rest in
    subst (λ (c : List Record). Alike n (passed b byte rest) c (place + 1 + l)) (sym same)
    (subst (λ (x : ℕ). Alike n (passed b x rest) (before ++ (record_of h.0 (take (body_length h.0) rest) ∷ [])) (place + 1 + l)) (sym h.1) (kinds h.0 h.2))
  where
    kinds : (kind : Kind) → later_form_kind n b kind (body_length kind) place rest ≡ Continue l
        → Alike n (passed b (kind_byte kind) rest) (before ++ (record_of kind (take (body_length kind) rest) ∷ [])) (place + 1 + l)
    kinds Product q =
        let w = product_whole b.products place rest l q in
        let r = record_of Product (take 0 rest) in
        record {
          first = a.first;
          others = a.others ++ (r ∷ []);
          begins = ap (λ (x : List Record). x ++ (r ∷ [])) a.begins;
          variables = a.variables;
          here = omega (arith, a.here, w.0, place-snoc before r);
          products = counted-snoc is_product before r ∙ omega (arith, a.products);
          factors = factors-snoc [] before r;
          awaits = ended-snoc before r ∙ rw a.awaits;
        }
    kinds FactorKind q =
        let w = factor-whole n b.products b.factors place rest l q in
        let r = record_of FactorKind (take 3 rest) in
        record {
          first = a.first;
          others = a.others ++ (r ∷ []);
          begins = ap (λ (x : List Record). x ++ (r ∷ [])) a.begins;
          variables = a.variables;
          here = omega (arith, a.here, w.long, place-snoc before r, length-take-le 3 rest w.there);
          products = counted-snoc is_product before r ∙ omega (arith, a.products);
          factors = factors-snoc [] before r ∙ rw (a.factors, factor-body rest);
          awaits = ended-snoc before r ∙ rw a.awaits;
        }
    kinds End q = end_whole (body_step 2 place rest) b.products place rest l q
    kinds Variables q = not-whole q
    kinds On q = not-whole q
    kinds Free q = not-whole q

-- The first record.
first-same : (byte : ℕ) (rest : List ℕ) → first_form_step byte rest ≡ rule_step form_rules [] byte 0 rest
unfolding first_stop ended
first-same byte rest =
    head-cases (λ h. head_step h (λ kind l. first_form_kind kind l rest) ≡ first_stop (kind_flags form_rules [] 0 h) (head_rule form_rules [] 0 h rest)) byte 0
    (λ kind q. kinds kind) refl
  where
    body : get_or (take 1 rest) 0 0 ≡ get_or rest 0 0
    body = get_or-take 1 rest 0 0 (omega arith)

    variables : (t bad : Bool) → leb 1 (length rest) ≡ t → bad_count (get_or rest 0 0) ≡ bad
        → variables_step (body_step 1 0 rest) rest ≡ first_stop (kind_flags form_rules [] 0 (known Variables)) (head_rule form_rules [] 0 (known Variables) rest)
    variables true true p q = rw (p, body, q)
    variables true false p q = rw (p, body, q)
    variables false bad p q = rw p

    kinds : (kind : Kind) → first_form_kind kind (body_length kind) rest ≡ first_stop (kind_flags form_rules [] 0 (known kind)) (head_rule form_rules [] 0 (known kind) rest)
    kinds Variables = variables (leb 1 (length rest)) (bad_count (get_or rest 0 0)) refl refl
    kinds Product = refl
    kinds FactorKind = refl
    kinds End = refl
    kinds On = refl
    kinds Free = refl

begins-alike : (byte : ℕ) (rest : List ℕ) (l : ℕ) → first_form_step byte rest ≡ Continue l → Alike (get_or rest 0 0) (behind 0 []) (pushed [] byte rest) (1 + l)
unfolding records_bytes ended record_count factors_since
begins-alike byte rest l e =
    let h = head-whole byte 0 (λ k m. first_form_kind k m rest) e in
    let w = first-whole byte rest l e in
    let same : pushed [] byte rest ≡ record_of h.0 (take (body_length h.0) rest) ∷ [] = ap (λ (b : ℕ). pushed [] b rest) h.1 ∙ pushed-kind [] h.0 rest in
    subst (λ (b : List Record). Alike (get_or rest 0 0) (behind 0 []) b (1 + l)) (sym same) (kinds h.0 h.2 w.0 w.1)
  where
    kinds : (kind : Kind) → first_form_kind kind (body_length kind) rest ≡ Continue l → l ≡ 1 → 1 ≤ length rest → Alike (get_or rest 0 0) (behind 0 []) (record_of kind (take (body_length kind) rest) ∷ []) (1 + l)
    kinds Variables q one there =
        let r = record_of Variables (take 1 rest) in
        record {
          first = r;
          others = [];
          begins = refl;
          variables = get_or-take 1 rest 0 0 (omega arith);
          here = omega (arith, one, length-take-le 1 rest there, place-snoc [] r);
          products = refl;
          factors = refl;
          awaits = refl;
        }
    kinds Product q one there = not-whole q
    kinds FactorKind q one there = not-whole q
    kinds End q one there = not-whole q
    kinds On q one there = not-whole q
    kinds Free q one there = not-whole q

pub form-ruled : (bytes : List ℕ) → walked_form bytes ≡ walk_rules form_rules 0 [] 0 bytes
unfolding walked_form walk_by
form-ruled [] = refl
form-ruled (byte ∷ rest) = rw (sym (first-same byte rest)) (go (first_form_step byte rest) refl)
  where
    go : (s : Step) → first_form_step byte rest ≡ s
        → go_on s (λ l. walk_form_from (get_or rest 0 0) l (behind 0 []) 1 rest) ≡ go_on s (λ l. walk_rules form_rules l (pushed [] byte rest) 1 rest)
    go (Break w) e = refl
    go (Continue l) e =
        let n = get_or rest 0 0 in
        walk-alike (form_step n) passed (rule_step form_rules) pushed (Alike n) (later_same n) (again n) l (behind 0 []) (pushed [] byte rest) 1 rest (begins-alike byte rest l e)

-- ---- what the walk keeps

-- Nothing lies behind, or n and no more products than a form may have.
record Kept (before : List Record) : Type 0 where
  first : Record
  others : List Record
  begins : before ≡ first ∷ others
  few : products_in before ≤ max_products

abbrev Before : List Record → Type 0
Before before = (before ≡ []) ⊎ Kept before

keeps : (before : List Record) (r : Record) → Before before → IsWhole r → false ≡ false → form_admits before r.kind ≡ true → is_product r.kind && leb max_products (products_in before) ≡ false
    → is_end r.kind ≡ false → Before (before ++ (r ∷ []))
unfolding record_count
keeps before r (inl e) w l a s n =
    inr (subst (λ (b : List Record). Kept (b ++ (r ∷ []))) (sym e) (record { first = r; others = []; begins = refl; few = one (is_product r.kind) }))
  where
    one : (t : Bool) → cond t 1 0 + 0 ≤ max_products
    one true = omega arith
    one false = omega arith
keeps before r (inr k) w l a s n =
    inr (record {
      first = k.first;
      others = k.others ++ (r ∷ []);
      begins = ap (λ (x : List Record). x ++ (r ∷ [])) k.begins;
      few = omega (arith, counted-snoc is_product before r, more (is_product r.kind) s);
    })
  where
    more : (t : Bool) → t && leb max_products (products_in before) ≡ false → products_in before + cond t 1 0 ≤ max_products
    more true q = omega (arith, leb-false max_products (products_in before) q)
    more false q = omega (arith, k.few)

-- The shortest input is a form.
shortest-laid : walked_form shortest ≡ Ok 0
unfolding walked_form walk_by head_of bad_count
shortest-laid = refl

-- Any such records can be followed by the end; before all of them stands n.
completes : (before : List Record) → Before before → ended before ≡ false → false ≡ false → (more : List ℕ) × Bytes more × (count : ℕ) × (walk_after form_rules before more ≡ Ok count)
unfolding records_bytes
completes before (inl e) a l = (shortest, shortest-bytes, 0, subst (λ (b : List Record). walk_after form_rules b shortest ≡ Ok 0) (sym e) (sym (form-ruled shortest) ∙ shortest-laid))
completes before (inr k) a l =
    let count = counted_in form_rules before in
    let ends : form_admits before End ≡ true = ap (λ (b : List Record). form_admits b End) k.begins in
    (encode_end count, end-bytes count (omega (arith, k.few)), count, end-laid form_rules before a refl ends refl)

-- ---- the walk reports the first fault

pub form-first : (bytes : List ℕ) → Found form_rules [] bytes (walked_form bytes)
form-first bytes = subst (Found form_rules [] bytes) (sym (form-ruled bytes)) (ruled form_rules Before keeps completes (inl refl) bytes)
