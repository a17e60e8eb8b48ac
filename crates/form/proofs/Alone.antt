-- A product alone (document 02, No. 5): the walk over its bytes goes by the steps of a form (`alone-whole`), its faults are those of `product_faults`
-- (`product-told`), and it is accepted exactly if it encodes a canonical product (`product-exactly`). Read next: Examples.
use mathlib.Core.Path.{◌≡◌, refl, sym, ap, ◌∙◌, subst}
use mathlib.Core.Bool.{Bool, true, false, cond, not, ◌&&◌}
use mathlib.Core.Logic.{inl, inr, ◌↔◌}
use mathlib.Core.List.{List, [], ◌∷◌, ◌++◌, append_assoc, append-nil}
use Prim.Native.Nat.{ℕ, zero, suc, ◌≤◌, ◌<◌, ◌+◌}
use native.Mathlib.Nat.{le_of_suc-le-suc, not-suc-le-zero, le_refl}
use native.Mathlib.Omega.{arith}
use lib.Dec.{leb, eqb}
use borrow.Author.Tests.{le-leb, eqb-true}
use lib.ListN.{length, drop}
use Rattle.gf2.specs.Limits.{max_variables}
use Rattle.gf2.specs.Finite.{Mem, holds}
use Rattle.gf2.proofs.Logic.{clash, and_i, and_r}
use Rattle.table.specs.Refusal.{Fault}
use Rattle.table.specs.Refusal.{fault_of, Numbered}
use Rattle.table.proofs.FirstFault.{numbered}
use Rattle.records.specs.declared.Kind.TheVariants.{Product, Factor as FactorKind}
use Rattle.records.specs.Kinds.{product_kind, factor_kind, word_of, low_byte, high_byte, Bytes}
use Rattle.records.specs.Walks.{body_step, go_on, walk_by, fault_number, fault_found, is_fault}
use Rattle.records.proofs.KindBytes.{head_byte, low-of-word, high-of-word}
use Rattle.records.proofs.Whole.{failed-test, faulty}
use Rattle.records.proofs.Numbers.{no_number, none-fault, layout-found}
use Rattle.product.specs.Product.{Factor, factor, fits, AllFit, Canonical, canonical, agrees}
use Rattle.product.proofs.Product.{fits-is, canonical-is, canonical-next, canonical-prefix}
use Rattle.form.specs.Encoding.{encode_factors, encode_product, EncodedProduct}
use Rattle.form.specs.Decoding.{factor_of, Parts, parts_from, decode_product, WholeFactors, over, further}
use Rattle.form.specs.Walk.{judge_step, factor_step, Behind, behind, form_step, passed, awaited_kind, record_step, walk_records_from, walked_product}
use Rattle.form.specs.Refusal.{IsProduct, product_faults, product_tests, product_fault}
use Rattle.form.proofs.Laying.{factor-goes}
use Rattle.form.proofs.Encodings.{parts-factor, same-factor, factors-bytes}
use Rattle.table.specs.declared.BytesFault.TheVariants.{WrongKind, Missing, WrongVariables, WrongFactor, NotCanonical, WrongCount, After, TooMany}
use Rattle.records.specs.Walks.{Walk, Step}
use Rattle.std.specs.Prelude.{Ok, Err}
use Rattle.std.specs.declared.ops.ControlFlow.TheVariants.{Continue, Break}

-- A record that is passed in a product alone is passed in a form.
pub alone-whole : (alone : Bool) (n : ℕ) (b : Behind) (byte place : ℕ) (rest : List ℕ) (l : ℕ) → record_step alone n b byte place rest ≡ Continue l → form_step n b byte place rest ≡ Continue l
alone-whole alone n b byte place rest l e = (failed-test (alone && not (eqb byte (awaited_kind b.products))) (form_step n b byte place rest) (Err (WrongKind place)) e).1

-- ---- the numbers of its faults

-- What a walk found is no fault, or one that a product alone can have.
abbrev Known : Walk → Type 0
Known found = is_fault found ≡ true → Mem (fault_number found) product_faults

abbrev StopKnown : Step → Type 0
StopKnown (Continue l) = Unit {0}
StopKnown (Break found) = Known found

wrong-kind : (place : ℕ) → Known (Err (WrongKind place))
wrong-kind place e = inl refl

missing : (place : ℕ) → Known (Err (Missing place))
missing place e = inr (inl refl)

either-known : (t : Bool) (a b : Step) → StopKnown a → StopKnown b → StopKnown (cond t a b)
either-known true a b p q = p
either-known false a b p q = q

goes-known : (s : Step) (next : ℕ → Walk) → StopKnown s → ((l : ℕ) → Known (next l)) → Known (go_on s next)
goes-known (Continue l) next p q = q l
goes-known (Break found) next p q = p

body-known : (l place : ℕ) (rest : List ℕ) → StopKnown (body_step l place rest)
body-known l place rest = either-known (leb l (length rest)) (Continue l) (Break (Err (Missing (place + 1 + length rest)))) tt (missing (place + 1 + length rest))

judge-known : (s : Step) (n : ℕ) (earlier : List Factor) (place : ℕ) (f : Factor) → StopKnown s → StopKnown (judge_step s n earlier place f)
judge-known (Break found) n earlier place f p = p
judge-known (Continue l) n earlier place f p =
    either-known (fits n f) (cond (agrees earlier f) (Continue l) (Break (Err (NotCanonical (place + 1))))) (Break (Err (WrongFactor (place + 1))))
    (either-known (agrees earlier f) (Continue l) (Break (Err (NotCanonical (place + 1)))) tt (λ e. inr (inr (inr (inl refl))))) (λ e. inr (inr (inl refl)))

-- The first record is a product's beginning, of which there is none before it; every later one is a factor.
begin-known : (n : ℕ) (b : Behind) (byte place : ℕ) (rest : List ℕ) → b.products ≡ 0 → byte ≡ product_kind → StopKnown (form_step n b byte place rest)
begin-known n b byte place rest z q = rw (q, head_byte Product place, z) (body-known 0 place rest)

factor-known : (n : ℕ) (b : Behind) (byte place : ℕ) (rest : List ℕ) → byte ≡ factor_kind → StopKnown (form_step n b byte place rest)
factor-known n b byte place rest q =
    rw (q, head_byte FactorKind place)
    (either-known (eqb b.products 0) (Break (Err (WrongKind place))) (judge_step (body_step 3 place rest) n b.factors place (factor_of rest)) (wrong-kind place) (judge-known (body_step 3 place rest) n b.factors place (factor_of rest) (body-known 3 place rest)))

record-known : (n : ℕ) (b : Behind) (byte place : ℕ) (rest : List ℕ) → StopKnown (record_step true n b byte place rest)
record-known n b byte place rest = go (eqb byte (awaited_kind b.products)) refl
  where
    later : (t : Bool) → eqb b.products 0 ≡ t → eqb byte (cond t product_kind factor_kind) ≡ true → StopKnown (form_step n b byte place rest)
    later true z q = begin-known n b byte place rest (eqb-true b.products 0 z) (eqb-true byte product_kind q)
    later false z q = factor-known n b byte place rest (eqb-true byte factor_kind q)

    go : (t : Bool) → eqb byte (awaited_kind b.products) ≡ t → StopKnown (cond (not t) (Break (Err (WrongKind place))) (form_step n b byte place rest))
    go true q = later (eqb b.products 0) refl q
    go false q = wrong-kind place

walk-known : (n skip : ℕ) (b : Behind) (place : ℕ) (bytes : List ℕ) → Known (walk_records_from true n skip b place bytes)
unfolding walk_by
walk-known n skip b place [] = go (eqb b.products 0)
  where
    go : (t : Bool) → Known (cond (not t) (Ok b.products) (Err (Missing place)))
    go true = missing place
    go false = λ e. clash e refl
walk-known n zero b place (byte ∷ rest) =
    goes-known (record_step true n b byte place rest) (λ l. walk_records_from true n l (passed b byte rest) (place + 1) rest) (record-known n b byte place rest)
    (λ l. walk-known n l (passed b byte rest) (place + 1) rest)
walk-known n (suc skip) b place (byte ∷ rest) = walk-known n skip b (place + 1) rest

-- No test of a product's bytes gives 0, and the tests give what the walk found.
pub product-numbered : (n : ℕ) (bytes : List ℕ) → Numbered (product_tests n bytes)
unfolding holds
product-numbered n bytes = numbered (product_tests n bytes) refl

pub product-told : (n : ℕ) (bytes : List ℕ) → fault_of (product_tests n bytes) ≡ fault_found (walked_product n bytes)
unfolding holds walked_product
product-told n bytes = let h = layout-found (walked_product n bytes) product_faults refl (walk-known n 0 (behind 0 []) 0 bytes) in cc (h.0, h.1)

-- There is no refusal exactly where the bytes are a product.
pub accepted-product : (n : ℕ) (bytes : List ℕ) → (product_fault n bytes ≡ 0) ↔ IsProduct n bytes
unfolding product_fault
accepted-product n bytes =
    let number = ap (λ (f : Fault). f.number) (product-told n bytes) in
    (λ e. none-fault (walked_product n bytes) (sym number ∙ e), λ h. number ∙ no_number (walked_product n bytes) h)

-- ---- what is read is a canonical product, and was written so

-- Bytes after the beginning of a product and some of its factors are whole records of further factors, which fit and agree.
record FactorsLaid (n : ℕ) (bytes : List ℕ) (earlier : List Factor) : Type 0 where
  fitting : AllFit n (parts_from 0 bytes).factors
  agreeing : canonical (earlier ++ (parts_from 0 bytes).factors) ≡ true
  written : Bytes bytes → bytes ≡ encode_factors (parts_from 0 bytes).factors
  whole : WholeFactors bytes

none-laid : (n : ℕ) (earlier : List Factor) → canonical earlier ≡ true → FactorsLaid n [] earlier
unfolding parts_from encode_factors
none-laid n earlier can = record { fitting = λ f m. absurd m; agreeing = ap canonical (append-nil earlier) ∙ can; written = λ b. refl; whole = over }

encoded-next : (f : Factor) (fs : List Factor) → encode_factors (f ∷ fs) ≡ factor_kind ∷ f.constant ∷ low_byte f.mask ∷ high_byte f.mask ∷ encode_factors fs
unfolding encode_factors
encoded-next f fs = refl

one-laid : (n byte constant low high : ℕ) (rest : List ℕ) (earlier : List Factor) → byte ≡ factor_kind → fits n (factor constant (word_of low high)) ≡ true
    → FactorsLaid n rest (earlier ++ (factor constant (word_of low high) ∷ [])) → FactorsLaid n (byte ∷ constant ∷ low ∷ high ∷ rest) earlier
one-laid n byte constant low high rest earlier q fit later =
    let g = factor constant (word_of low high) in
    let fs = (parts_from 0 rest).factors in
    let read : (parts_from 0 (byte ∷ constant ∷ low ∷ high ∷ rest)).factors ≡ g ∷ fs = ap (λ (p : Parts). p.factors) (parts-factor byte constant low high rest q) in
    record {
      fitting = subst (AllFit n) (sym read) (λ f m. elim m [ inl e ↦ rw e ((fits-is n g).0 fit) | inr k ↦ later.fitting f k ]);
      agreeing = ap (λ (l : List Factor). canonical (earlier ++ l)) read ∙ sym (ap canonical (append_assoc earlier (g ∷ []) fs)) ∙ later.agreeing;
      written = λ b.
          let second : low ≡ low_byte (word_of low high) = sym (low-of-word low high (b low (inr (inr (inl refl))))) in
          let third : high ≡ high_byte (word_of low high) = sym (high-of-word low high (b low (inr (inr (inl refl))))) in
          let rests = later.written (λ x m. b x (inr (inr (inr (inr m))))) in
          rw (read, encoded-next g fs) (cc);
      whole = further q later.whole;
    }

-- The walk over them, by the number of bytes that are left.
factors-laid : (k n : ℕ) (bytes : List ℕ) (earlier : List Factor) (place all : ℕ) → length bytes ≤ k → canonical earlier ≡ true
    → walk_records_from true n 0 (behind 1 earlier) place bytes ≡ Ok all → FactorsLaid n bytes earlier
unfolding walk_by
factors-laid zero n [] earlier place all h can e = none-laid n earlier can
factors-laid zero n (byte ∷ rest) earlier place all h can e = absurd (not-suc-le-zero h)
factors-laid (suc k) n [] earlier place all h can e = none-laid n earlier can
factors-laid (suc k) n (byte ∷ rest) earlier place all h can e =
    let kind = awaited (eqb byte factor_kind) refl e in
    go rest (le_of_suc-le-suc h) (λ r l i f a g. factors-laid k n r l i all f a g) kind.0 kind.1
  where
    next : List ℕ → ℕ → Walk
    next rest l = walk_records_from true n l (behind 1 (earlier ++ (factor_of rest ∷ []))) (place + 1) rest

    awaited : (t : Bool) → eqb byte factor_kind ≡ t
        → go_on (cond (not t) (Break (Err (WrongKind place))) (form_step n (behind 1 earlier) byte place rest)) (λ l. walk_records_from true n l (passed (behind 1 earlier) byte rest) (place + 1) rest) ≡ Ok all
        → (byte ≡ factor_kind) × (go_on (factor_step n 1 earlier 3 place rest) (next rest) ≡ Ok all)
    awaited false q e = faulty refl e
    awaited true q e =
        let same = eqb-true byte factor_kind q in
        (same, rw (same, head_byte FactorKind place) at e)

    go : (rest : List ℕ) → length rest ≤ k
        → ((rest : List ℕ) (earlier : List Factor) (place : ℕ) → length rest ≤ k → canonical earlier ≡ true → walk_records_from true n 0 (behind 1 earlier) place rest ≡ Ok all → FactorsLaid n rest earlier)
        → byte ≡ factor_kind → go_on (factor_step n 1 earlier 3 place rest) (next rest) ≡ Ok all → FactorsLaid n (byte ∷ rest) earlier
    go [] h later q e = absurd (not-suc-le-zero (factor-goes n 1 earlier place all [] (next []) e).1.0)
    go (a ∷ []) h later q e = absurd (omega (arith, (factor-goes n 1 earlier place all (a ∷ []) (next (a ∷ [])) e).1.0))
    go (a ∷ b ∷ []) h later q e = absurd (omega (arith, (factor-goes n 1 earlier place all (a ∷ b ∷ []) (next (a ∷ b ∷ [])) e).1.0))
    go (constant ∷ low ∷ high ∷ rest) h later q e =
        let g = factor-goes n 1 earlier place all (constant ∷ low ∷ high ∷ rest) (next (constant ∷ low ∷ high ∷ rest)) e in
        let f = factor constant (word_of low high) in
        let more : canonical (earlier ++ (f ∷ [])) ≡ true = canonical-next earlier f ∙ and_i (canonical earlier) (agrees earlier f) can g.1.2 in
        one-laid n byte constant low high rest earlier q g.1.1 (later rest (earlier ++ (f ∷ [])) (place + 1 + 1 + 1 + 1) (omega arith) more g.1.3)

-- What an accepted product's bytes are.
pub record ProductLaid (n : ℕ) (bytes : List ℕ) : Type 0 where
  pub some : 0 < length bytes
  pub fitting : AllFit n (decode_product bytes)
  pub canonicals : Canonical (decode_product bytes)
  pub written : Bytes bytes → bytes ≡ encode_product (decode_product bytes)
  pub whole : WholeFactors (drop 1 bytes)

no-factor : canonical [] ≡ true
unfolding canonical
no-factor = refl

laid-product : (n : ℕ) (bytes : List ℕ) (all : ℕ) → walked_product n bytes ≡ Ok all → ProductLaid n bytes
unfolding walked_product walk_by
laid-product n [] all e = faulty refl e
laid-product n (byte ∷ rest) all e = go (eqb byte product_kind) refl e
  where
    go : (t : Bool) → eqb byte product_kind ≡ t
        → go_on (cond (not t) (Break (Err (WrongKind 0))) (form_step n (behind 0 []) byte 0 rest)) (λ l. walk_records_from true n l (passed (behind 0 []) byte rest) 1 rest) ≡ Ok all → ProductLaid n (byte ∷ rest)
    go false q e = faulty refl e
    go true q e =
        let same = eqb-true byte product_kind q in
        let on : walk_records_from true n 0 (behind 1 []) 1 rest ≡ Ok all = rw (same, head_byte Product 0, le-leb 0 (length rest) (omega arith)) at e in
        let l = factors-laid (length rest) n rest [] 1 all (le_refl (length rest)) no-factor on in
        record {
          some = omega arith;
          fitting = l.fitting;
          canonicals = (canonical-is (parts_from 0 rest).factors).0 l.agreeing;
          written = λ b. let rests = l.written (λ x m. b x (inr m)) in cc;
          whole = l.whole;
        }

pub product-laid : (n : ℕ) (bytes : List ℕ) → IsProduct n bytes → ProductLaid n bytes
product-laid n bytes h = go (walked_product n bytes) refl h
  where
    go : (found : Walk) → walked_product n bytes ≡ found → is_fault found ≡ false → ProductLaid n bytes
    go (Ok all) e h = laid-product n bytes all e
    go (Err (WrongKind place)) e h = clash refl h
    go (Err (Missing place)) e h = clash refl h
    go (Err (WrongVariables place)) e h = clash refl h
    go (Err (WrongFactor place)) e h = clash refl h
    go (Err (NotCanonical place)) e h = clash refl h
    go (Err (WrongCount place)) e h = clash refl h
    go (Err (After place)) e h = clash refl h
    go (Err (TooMany place)) e h = clash refl h

-- ---- exactly the encodings are accepted

factors-walked : (n : ℕ) (fs : List Factor) (earlier : List Factor) (place : ℕ) → AllFit n fs → canonical (earlier ++ fs) ≡ true
    → walk_records_from true n 0 (behind 1 earlier) place (encode_factors fs) ≡ Ok 1
unfolding encode_factors walk_by
factors-walked n [] earlier place fit can = refl
factors-walked n (f ∷ fs) earlier place fit can =
    let same = same-factor f in
    let split : (earlier ++ (f ∷ [])) ++ fs ≡ earlier ++ (f ∷ fs) = append_assoc earlier (f ∷ []) fs in
    let all : canonical ((earlier ++ (f ∷ [])) ++ fs) ≡ true = ap canonical split ∙ can in
    let first : canonical (earlier ++ (f ∷ [])) ≡ true = canonical-prefix (earlier ++ (f ∷ [])) fs all in
    let agreed : agrees earlier f ≡ true = and_r (canonical earlier) (agrees earlier f) (sym (canonical-next earlier f) ∙ first) in
    rw (head_byte FactorKind place)
    (rw (le-leb 3 (suc (suc (suc (length (encode_factors fs))))) (omega arith)) (rw (same, (fits-is n f).1 (fit f (inl refl)), agreed)
    (factors-walked n fs (earlier ++ (f ∷ [])) (place + 1 + 1 + 1 + 1) (λ g m. fit g (inr m)) all)))

pub encoded-product : (n : ℕ) (p : List Factor) → AllFit n p → Canonical p → IsProduct n (encode_product p)
unfolding walked_product walk_by
encoded-product n p fit can =
    let found : walked_product n (encode_product p) ≡ Ok 1 = rw (head_byte Product 0, le-leb 0 (length (encode_factors p)) (omega arith)) (factors-walked n p [] 1 fit ((canonical-is p).1 can)) in
    ap is_fault found

-- A list of bytes is accepted as a product of n variables exactly if it encodes a canonical one.
pub product-exactly : (n : ℕ) (bytes : List ℕ) → n ≤ max_variables → (Bytes bytes × IsProduct n bytes) ↔ EncodedProduct n bytes
product-exactly n bytes few = (
  λ h. let l = product-laid n bytes h.1 in (decode_product bytes, l.fitting, l.canonicals, l.written h.0),
  λ e. subst (λ (l : List ℕ). Bytes l × IsProduct n l) (sym e.3) (product-bytes e.0 e.1, encoded-product n e.0 e.1 e.2),
)
  where
    product-bytes : (p : List Factor) → AllFit n p → Bytes (encode_product p)
    product-bytes p fit x (inl e) = omega arith
    product-bytes p fit x (inr m) = factors-bytes n p [] few fit (λ y k. absurd k) x (rw (append-nil (encode_factors p)) m)
