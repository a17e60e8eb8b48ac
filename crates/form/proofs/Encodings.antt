-- Reading is exact. What is written is read (`decoded`), what is read is a valid form and was written so (`form-valid`,
-- `rewritten-same`), so that bytes are accepted exactly if they encode a valid form (`form-exactly`). Read next: Accepting.
use mathlib.Core.Path.{◌≡◌, refl, sym, ap, ◌∙◌, subst}
use mathlib.Core.Bool.{true}
use mathlib.Core.Logic.{◌≢◌, inl, inr, ◌↔◌}
use mathlib.Core.List.{List, [], ◌∷◌, ◌++◌, append_assoc, append-nil}
use Prim.Native.Nat.{ℕ, ◌≤◌, ◌<◌, ◌+◌, ◌^◌}
use native.Mathlib.Nat.{lt_of_lt_of_le}
use native.Mathlib.Omega.{arith}
use lib.Pow.{pow_mono}
use lib.ListN.{length}
use Rattle.gf2.specs.Limits.{max_variables}
use Rattle.gf2.specs.Finite.{Mem}
use Rattle.gf2.proofs.Logic.{and_r, and_i}
use Rattle.records.specs.Kinds.{product_kind, factor_kind, end_kind, word_of, low_byte, high_byte, Bytes, encode_end}
use Rattle.records.proofs.KindBytes.{word-of-bytes, low-of-word, high-of-word, end-bytes}
use Rattle.table.proofs.Table.{good-count}
use Rattle.product.specs.Product.{Factor, factor, fits, AllFit, Canonical, canonical, agrees}
use Rattle.product.proofs.Product.{fits-is, canonical-is, canonical-next, canonical-prefix}
use Rattle.form.specs.Form.{max_products, Form, ValidForm}
use Rattle.form.specs.Encoding.{encode_factors, encode_products, encode_form, EncodedForm}
use Rattle.form.specs.Decoding.{Parts, no_parts, parts_from, decode_form}
use Rattle.form.specs.Refusal.{IsForm}
use Rattle.form.proofs.Laying.{Laying, ends, begins, holds, LaidAs, form, is-form, form-laid}

-- ---- the parts of each record and of those that follow

pub parts-end : (byte : ℕ) (rest : List ℕ) → byte ≡ end_kind → parts_from 0 (byte ∷ rest) ≡ no_parts
unfolding parts_from
parts-end byte rest q = rw q

pub parts-product : (byte : ℕ) (rest : List ℕ) → byte ≡ product_kind → parts_from 0 (byte ∷ rest) ≡ record { factors = []; products = (parts_from 0 rest).factors ∷ (parts_from 0 rest).products }
unfolding parts_from
parts-product byte rest q = rw q

pub parts-factor : (byte constant low high : ℕ) (rest : List ℕ) → byte ≡ factor_kind
    → parts_from 0 (byte ∷ constant ∷ low ∷ high ∷ rest) ≡ record { factors = factor constant (word_of low high) ∷ (parts_from 0 rest).factors; products = (parts_from 0 rest).products }
unfolding parts_from
parts-factor byte constant low high rest q = rw q

-- ---- what is written is read

-- A factor is the one that its bytes give.
pub same-factor : (f : Factor) → factor f.constant (word_of (low_byte f.mask) (high_byte f.mask)) ≡ f
same-factor f = ap (factor f.constant) (word-of-bytes f.mask)

factors-laying : (n : ℕ) (fs : List Factor) (rest : List ℕ) (products : ℕ) (earlier : List Factor) (all : ℕ) → products ≢ 0 → AllFit n fs → canonical (earlier ++ fs) ≡ true
    → Laying n rest products (earlier ++ fs) all → Laying n (encode_factors fs ++ rest) products earlier all
unfolding encode_factors
factors-laying n [] rest products earlier all nz fit can r = subst (λ (l : List Factor). Laying n rest products l all) (append-nil earlier) r
factors-laying n (f ∷ fs) rest products earlier all nz fit can r =
    let same = same-factor f in
    let split : (earlier ++ (f ∷ [])) ++ fs ≡ earlier ++ (f ∷ fs) = append_assoc earlier (f ∷ []) fs in
    let next : canonical (earlier ++ (f ∷ [])) ≡ true = canonical-prefix (earlier ++ (f ∷ [])) fs (ap canonical split ∙ can) in
    let agreed : agrees earlier f ≡ true = and_r (canonical earlier) (agrees earlier f) (sym (canonical-next earlier f) ∙ next) in
    let later = factors-laying n fs rest products (earlier ++ (f ∷ [])) all nz (λ g m. fit g (inr m)) (ap canonical split ∙ can) (subst (λ (l : List Factor). Laying n rest products l all) (sym split) r) in
    holds refl nz (ap (fits n) same ∙ (fits-is n f).1 (fit f (inl refl))) (ap (agrees earlier) same ∙ agreed)
    (subst (λ (g : Factor). Laying n (encode_factors fs ++ rest) products (earlier ++ (g ∷ [])) all) (sym same) later)

products-laying : (n : ℕ) (ps : List (List Factor)) (products : ℕ) (earlier : List Factor) (all : ℕ) → products + length ps ≡ all → all ≤ max_products
    → ((p : List Factor) → Mem p ps → AllFit n p) → ((p : List Factor) → Mem p ps → Canonical p) → Laying n (encode_products ps ++ encode_end all) products earlier all
unfolding encode_products
products-laying n [] products earlier all e few fit can =
    let same : all ≡ products = omega arith in
    ends refl (word-of-bytes all ∙ same) (sym same)
products-laying n (p ∷ ps) products earlier all e few fit can =
    let later = products-laying n ps (products + 1) p all (omega arith) few (λ q m. fit q (inr m)) (λ q m. can q (inr m)) in
    let room : products < max_products = omega arith in
    let body : Laying n ((encode_factors p ++ encode_products ps) ++ encode_end all) (products + 1) [] all =
    rw (append_assoc (encode_factors p) (encode_products ps) (encode_end all))
    (factors-laying n p (encode_products ps ++ encode_end all) (products + 1) [] all (λ z. omega arith) (fit p (inl refl)) ((canonical-is p).1 (can p (inl refl))) later) in
    begins refl room body

pub encoded-laid : (f : Form) → ValidForm f → LaidAs (encode_form f) (length f.products)
unfolding encode_form
encoded-laid f v =
    form refl ((good-count f.variables).1 (v.some, v.few))
    (products-laying f.variables f.products 0 [] (length f.products) (omega arith) v.short v.fitting v.canonicals)

factors-read : (fs : List Factor) (rest : List ℕ) → parts_from 0 (encode_factors fs ++ rest) ≡ record { factors = fs ++ (parts_from 0 rest).factors; products = (parts_from 0 rest).products }
unfolding encode_factors
factors-read [] rest = refl
factors-read (f ∷ fs) rest =
    parts-factor factor_kind f.constant (low_byte f.mask) (high_byte f.mask) (encode_factors fs ++ rest) refl ∙ rw (factors-read fs rest, same-factor f)

products-read : (ps : List (List Factor)) (all : ℕ) → parts_from 0 (encode_products ps ++ encode_end all) ≡ record { factors = []; products = ps }
unfolding encode_products
products-read [] all = parts-end end_kind (low_byte all ∷ high_byte all ∷ []) refl
products-read (p ∷ ps) all =
    parts-product product_kind ((encode_factors p ++ encode_products ps) ++ encode_end all) refl
    ∙ rw (append_assoc (encode_factors p) (encode_products ps) (encode_end all), factors-read p (encode_products ps ++ encode_end all), products-read ps all, append-nil p)

-- The form that was written is read.
pub decoded : (f : Form) → decode_form (encode_form f) ≡ f
unfolding encode_form
decoded f = ap (λ (p : Parts). record { variables = f.variables; products = p.products }) (products-read f.products (length f.products))

-- So the bytes of a valid form are accepted, its points are read back, and it is written as it was.
pub encoded-form : (f : Form) → ValidForm f → IsForm (encode_form f)
encoded-form f v = is-form (encoded-laid f v)

-- ---- what is read is a valid form

-- What the parts of laid records are, after the factors before them in their product.
record Sound (n : ℕ) (earlier : List Factor) (p : Parts) : Type 0 where
  factors-fit : AllFit n p.factors
  factors-canonical : canonical (earlier ++ p.factors) ≡ true
  products-fit : (q : List Factor) → Mem q p.products → AllFit n q
  products-canonical : (q : List Factor) → Mem q p.products → Canonical q

no-factor : canonical [] ≡ true
unfolding canonical
no-factor = refl

laying-sound : {n : ℕ} {rest : List ℕ} {products : ℕ} {earlier : List Factor} {all : ℕ} → canonical earlier ≡ true → Laying n rest products earlier all → Sound n earlier (parts_from 0 rest)
laying-sound {n = n} {earlier = earlier} can (ends {byte = byte} {low = low} {high = high} q w a) =
    subst (Sound n earlier) (sym (parts-end byte (low ∷ high ∷ []) q))
    (record { factors-fit = λ f m. absurd m; factors-canonical = ap canonical (append-nil earlier) ∙ can; products-fit = λ p m. absurd m; products-canonical = λ p m. absurd m })
laying-sound {n = n} {earlier = earlier} can (begins {byte = byte} {rest = rest} q h r) =
    let s = laying-sound no-factor r in
    subst (Sound n earlier) (sym (parts-product byte rest q))
    (record {
      factors-fit = λ f m. absurd m;
      factors-canonical = ap canonical (append-nil earlier) ∙ can;
      products-fit = λ p m. elim m [ inl e ↦ rw e s.factors-fit | inr k ↦ s.products-fit p k ];
      products-canonical = λ p m. elim m [ inl e ↦ rw e ((canonical-is (parts_from 0 rest).factors).0 s.factors-canonical) | inr k ↦ s.products-canonical p k ];
    })
laying-sound {n = n} {earlier = earlier} can (holds {byte = byte} {constant = constant} {low = low} {high = high} {rest = rest} q nz f a r) =
    let g = factor constant (word_of low high) in
    let s = laying-sound (canonical-next earlier g ∙ and_i (canonical earlier) (agrees earlier g) can a) r in
    subst (Sound n earlier) (sym (parts-factor byte constant low high rest q))
    (record {
      factors-fit = λ h m. elim m [ inl e ↦ rw e ((fits-is n g).0 f) | inr k ↦ s.factors-fit h k ];
      factors-canonical = sym (ap canonical (append_assoc earlier (g ∷ []) (parts_from 0 rest).factors)) ∙ s.factors-canonical;
      products-fit = s.products-fit;
      products-canonical = s.products-canonical;
    })

laying-count : {n : ℕ} {rest : List ℕ} {products : ℕ} {earlier : List Factor} {all : ℕ} → Laying n rest products earlier all → products + length (parts_from 0 rest).products ≡ all
laying-count (ends {byte = byte} {low = low} {high = high} q w a) = rw (parts-end byte (low ∷ high ∷ []) q) (omega arith)
laying-count (begins {byte = byte} {rest = rest} q h r) = rw (parts-product byte rest q) (omega (arith, laying-count r))
laying-count (holds {byte = byte} {constant = constant} {low = low} {high = high} {rest = rest} q nz f a r) = rw (parts-factor byte constant low high rest q) (laying-count r)

laying-few : {n : ℕ} {rest : List ℕ} {products : ℕ} {earlier : List Factor} {all : ℕ} → products ≤ max_products → Laying n rest products earlier all → all ≤ max_products
laying-few h (ends q w a) = omega arith
laying-few h (begins q l r) = laying-few (omega arith) r
laying-few h (holds q nz f a r) = laying-few h r

as-valid : {bytes : List ℕ} {all : ℕ} → LaidAs bytes all → ValidForm (decode_form bytes)
as-valid (form {n = n} {rest = rest} q b r) =
    let s = laying-sound no-factor r in
    record {
      some = ((good-count n).0 b).0;
      few = ((good-count n).0 b).1;
      short = omega (arith, laying-count r, laying-few (omega arith) r);
      fitting = s.products-fit;
      canonicals = s.products-canonical;
    }

-- Accepted bytes stand for a valid form.
pub form-valid : (bytes : List ℕ) → IsForm bytes → ValidForm (decode_form bytes)
form-valid bytes h = as-valid (form-laid bytes h).1

-- ---- what is read was written so

-- The bytes that parts are written as, before the end.
abbrev written : Parts → ℕ → List ℕ
written p all = encode_factors p.factors ++ (encode_products p.products ++ encode_end all)

written-product : (fs : List Factor) (ps : List (List Factor)) (all : ℕ) → written (record { factors = []; products = fs ∷ ps }) all ≡ product_kind ∷ written (record { factors = fs; products = ps }) all
unfolding encode_factors encode_products
written-product fs ps all = ap (λ (l : List ℕ). product_kind ∷ l) (append_assoc (encode_factors fs) (encode_products ps) (encode_end all))

written-factor : (f : Factor) (p : Parts) (all : ℕ)
    → written (record { factors = f ∷ p.factors; products = p.products }) all ≡ factor_kind ∷ f.constant ∷ low_byte f.mask ∷ high_byte f.mask ∷ written p all
unfolding encode_factors
written-factor f p all = refl

written-end : (all : ℕ) → written no_parts all ≡ encode_end all
unfolding encode_factors encode_products
written-end all = refl

laying-written : {n : ℕ} {rest : List ℕ} {products : ℕ} {earlier : List Factor} {all : ℕ} → Bytes rest → Laying n rest products earlier all → rest ≡ written (parts_from 0 rest) all
laying-written {all = all} b (ends {byte = byte} {low = low} {high = high} q w a) =
    let second : low ≡ low_byte all = sym (low-of-word low high (b low (inr (inl refl)))) ∙ ap low_byte (w ∙ a) in
    let third : high ≡ high_byte all = sym (high-of-word low high (b low (inr (inl refl)))) ∙ ap high_byte (w ∙ a) in
    rw (parts-end byte (low ∷ high ∷ []) q, written-end all) (cc)
laying-written {all = all} b (begins {byte = byte} {rest = rest} q h r) =
    let later = laying-written (λ x m. b x (inr m)) r in
    rw (parts-product byte rest q, written-product (parts_from 0 rest).factors (parts_from 0 rest).products all) (cc)
laying-written {all = all} b (holds {byte = byte} {constant = constant} {low = low} {high = high} {rest = rest} q nz f a r) =
    let third : low ≡ low_byte (word_of low high) = sym (low-of-word low high (b low (inr (inr (inl refl))))) in
    let fourth : high ≡ high_byte (word_of low high) = sym (high-of-word low high (b low (inr (inr (inl refl))))) in
    let later = laying-written (λ x m. b x (inr (inr (inr (inr m))))) r in
    rw (parts-factor byte constant low high rest q, written-factor (factor constant (word_of low high)) (parts_from 0 rest) all) (cc)

-- No factor stands before the first product.
pub laying-first : {n : ℕ} {rest : List ℕ} {products : ℕ} {earlier : List Factor} {all : ℕ} → products ≡ 0 → Laying n rest products earlier all → (parts_from 0 rest).factors ≡ []
laying-first z (ends {byte = byte} {low = low} {high = high} q w a) = ap (λ (p : Parts). p.factors) (parts-end byte (low ∷ high ∷ []) q)
laying-first z (begins {byte = byte} {rest = rest} q h r) = ap (λ (p : Parts). p.factors) (parts-product byte rest q)
laying-first z (holds q nz f a r) = absurd (nz z)

no-encoding : encode_factors [] ≡ []
unfolding encode_factors
no-encoding = refl

as_written : {bytes : List ℕ} {all : ℕ} → Bytes bytes → LaidAs bytes all → encode_form (decode_form bytes) ≡ bytes
unfolding encode_form
as_written b (form {byte = byte} {n = n} {rest = rest} {all = all} q v r) =
    let later = laying-written (λ x m. b x (inr (inr m))) r in
    let none : encode_factors (parts_from 0 rest).factors ≡ [] = ap encode_factors (laying-first refl r) ∙ no-encoding in
    let count : length (parts_from 0 rest).products ≡ all = omega (arith, laying-count r) in
    let others : rest ≡ encode_products (parts_from 0 rest).products ++ encode_end all = later ∙ ap (λ (l : List ℕ). l ++ (encode_products (parts_from 0 rest).products ++ encode_end all)) none in
    rw count (cc)

-- Writing what was read gives the same bytes.
pub rewritten-same : (bytes : List ℕ) → Bytes bytes → IsForm bytes → encode_form (decode_form bytes) ≡ bytes
rewritten-same bytes b h = as_written b (form-laid bytes h).1

-- ---- exactly the encodings are accepted

pub factors-bytes : (n : ℕ) (fs : List Factor) (rest : List ℕ) → n ≤ max_variables → AllFit n fs → Bytes rest → Bytes (encode_factors fs ++ rest)
unfolding encode_factors
factors-bytes n [] rest few fit b x k = b x k
factors-bytes n (f ∷ fs) rest few fit b x (inl e) = omega arith
factors-bytes n (f ∷ fs) rest few fit b x (inr (inl e)) = omega (arith, (fit f (inl refl)).binary)
factors-bytes n (f ∷ fs) rest few fit b x (inr (inr (inl e))) = omega arith
factors-bytes n (f ∷ fs) rest few fit b x (inr (inr (inr (inl e)))) =
    let small : f.mask < 2 ^ max_variables = lt_of_lt_of_le (fit f (inl refl)).below (pow_mono few) in
    omega arith
factors-bytes n (f ∷ fs) rest few fit b x (inr (inr (inr (inr k)))) = factors-bytes n fs rest few (λ g m. fit g (inr m)) b x k

products-bytes : (n : ℕ) (ps : List (List Factor)) (rest : List ℕ) → n ≤ max_variables → ((p : List Factor) → Mem p ps → AllFit n p) → Bytes rest → Bytes (encode_products ps ++ rest)
unfolding encode_products
products-bytes n [] rest few fit b x k = b x k
products-bytes n (p ∷ ps) rest few fit b x (inl e) = omega arith
products-bytes n (p ∷ ps) rest few fit b x (inr k) =
    factors-bytes n p (encode_products ps ++ rest) few (fit p (inl refl)) (products-bytes n ps rest few (λ q m. fit q (inr m)) b) x (rw (append_assoc (encode_factors p) (encode_products ps) rest) at k)

pub encoded-bytes : (f : Form) → ValidForm f → Bytes (encode_form f)
unfolding encode_form
encoded-bytes f v x (inl e) = omega arith
encoded-bytes f v x (inr (inl e)) = omega (arith, v.few)
encoded-bytes f v x (inr (inr k)) =
    products-bytes f.variables f.products (encode_end (length f.products)) v.few v.fitting (end-bytes (length f.products) (omega (arith, v.short))) x k

-- A list of bytes is accepted exactly if it is the encoding of a valid form.
pub form-exactly : (bytes : List ℕ) → (Bytes bytes × IsForm bytes) ↔ EncodedForm bytes
form-exactly bytes = (
  λ h. (decode_form bytes, form-valid bytes h.1, sym (rewritten-same bytes h.0 h.1)),
  λ e. subst (λ (l : List ℕ). Bytes l × IsForm l) (sym e.2) (encoded-bytes e.0 e.1, encoded-form e.0 e.1),
)
