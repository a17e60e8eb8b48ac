-- How long the lines can be. Crate `table_report` adds them up. Read next: Examples.
use mathlib.Core.Path.{◌≡◌, refl}
use mathlib.Core.Bool.{Bool, true, false}
use mathlib.Core.Logic.{inl, inr}
use mathlib.Core.List.{List, [], ◌∷◌, ◌++◌, flat_map}
use Prim.Native.Nat.{ℕ, suc, ◌+◌, ◌-◌, ◌*◌, ◌≤◌, ◌<◌}
use native.Mathlib.Nat.{mul-suc, le_trans, mul-le-mul_left}
use native.Mathlib.Omega.{arith}
use lib.ListN.{length, length-append, length-map}
use Rattle.gf2.specs.Bits.{bit}
use Rattle.gf2.specs.Finite.{Mem}
use Rattle.gf2.specs.Basis.{places_at, variables_at}
use Rattle.gf2.proofs.Finite.{map-mem}
use Rattle.gf2.proofs.Variables.{places_count}
use Rattle.table.specs.Refusal.{has_place}
use Rattle.product.specs.Product.{Factor}
use Rattle.text.specs.Decimal.{decimal}
use Rattle.text.specs.Pieces.{labelled, spaced_number, spaced, name, names}
use Rattle.text.proofs.Decimal.{decimal-length}
use Rattle.lines.specs.Words.{free_word, degree_word, simple_word, refused_word, at_word, equals_word, plus_word, plus_sign, equals_sign, line_end}
use Rattle.lines.proofs.Lines.{fault-placed, fault-alone, degree-marked, degree-plain}
use Rattle.lines.specs.Lines.{number_line, fault_line, counts_line, degree_line, numbers_text, numbers_line, variables_text, equation_line, equation_lines, factor_text, product_text, product_line, product_lines}

-- Texts of at most b bytes each.
pub flat-length : {A : Type 0} (f : A → List ℕ) (b : ℕ) (l : List A) → ((a : A) → Mem a l → length (f a) ≤ b) → length (flat_map f l) ≤ b * length l
unfolding flat_map
flat-length f b [] h = omega arith
flat-length f b (a ∷ l) h = omega (arith, length-append (f a) (flat_map f l), h a (inl refl), flat-length f b l (λ c m. h c (inr m)))

-- Numbers below 100 and below 10,000.
pub two_digits : (n : ℕ) → n < 100 → length (decimal n) ≤ 2
two_digits n h = decimal-length 1 n h

pub four-digits : (n : ℕ) → n < 10000 → length (decimal n) ≤ 4
four-digits n h = decimal-length 3 n h

pub number-length : (word : List ℕ) (n k : ℕ) → length (decimal n) ≤ k → length (number_line word n) ≤ length word + k + 1
unfolding number_line
number-length word n k h = omega (arith, length-append (labelled word n) line_end, length-append word (decimal n))

-- A refusal below 100 with a place below 100,000.
pub fault-length : (number place : ℕ) → number < 100 → place < 100000 → length (fault_line number place) ≤ 20
fault-length number place h k = go (has_place number) refl
  where
    go : (t : Bool) → has_place number ≡ t → length (fault_line number place) ≤ 20
    go true e =
        rw (← fault-placed number place e)
        (omega (
          arith,
          length-append (labelled refused_word number) (number_line at_word place),
          length-append refused_word (decimal number),
          two_digits number h,
          number-length at_word place 5 (decimal-length 4 place k),
        ))
    go false e = rw (← fault-alone number place e) (omega (arith, number-length refused_word number 2 (two_digits number h)))

pub counts-length : (on free : ℕ) → on < 10000 → free < 10000 → length (counts_line on free) ≤ 18
unfolding counts_line
counts-length on free h k =
    omega (
      arith,
      length-append (decimal on) (number_line free_word free),
      four-digits on h,
      number-length free_word free 4 (four-digits free k),
    )

-- A degree, marked or not.
pub degree-length : (simple : Bool) (k : ℕ) → k < 100 → length (degree_line simple k) ≤ 17
degree-length true k h =
    rw (← degree-marked true k refl)
    (omega (arith, length-append (labelled degree_word k) (simple_word ++ line_end), length-append degree_word (decimal k), two_digits k h))
degree-length false k h = rw (← degree-plain false k refl) (omega (arith, number-length degree_word k 2 (two_digits k h)))

pub numbers-length : (word ps : List ℕ) → ((p : ℕ) → Mem p ps → p < 10000) → length (numbers_line word ps) ≤ length word + 5 * length ps + 3
unfolding numbers_line spaced
numbers-length word ps h = omega (arith, length-append word (numbers_text ps ++ line_end), length-append (numbers_text ps) line_end, text ps h)
  where
    text : (qs : List ℕ) → ((p : ℕ) → Mem p qs → p < 10000) → length (numbers_text qs) ≤ 5 * length qs + 2
    text [] k = omega arith
    text (q ∷ qs) k = omega (arith, flat-length spaced_number 5 (q ∷ qs) (λ p m. omega (arith, four-digits p (k p m))))

-- The names of at most 12 variables.
pub names-length : (between is : List ℕ) → ((i : ℕ) → Mem i is → i < 100) → length (names between is) ≤ (3 + length between) * length is
unfolding names
names-length between [] h = omega arith
names-length between (i ∷ is) h =
    let first : length (name i) ≤ 3 = omega (arith, two_digits i (h i (inl refl))) in
    let rest : length (flat_map (λ other. between ++ name other) is) ≤ (3 + length between) * length is =
    flat-length (λ other. between ++ name other) (3 + length between) is (λ j m. omega (arith, length-append between (name j), two_digits j (h j (inr m)))) in
    let more : (3 + length between) * suc (length is) ≡ (3 + length between) * length is + (3 + length between) = mul-suc (3 + length between) (length is) in
    omega (arith, length-append (name i) (flat_map (λ other. between ++ name other) is))

places-few : (n : ℕ) (q : ℕ → Bool) → length (places_at n q) ≤ n
places-few n q = omega (arith, places_count q n)

pub variables-few : (n : ℕ) (q : ℕ → Bool) → length (variables_at n (places_at n q)) ≤ n
variables-few n q = rw (length-map (places_at n q) (λ k. n - k)) (places-few n q)

pub variables-below : (n : ℕ) (ks : List ℕ) (i : ℕ) → Mem i (variables_at n ks) → i ≤ n
variables-below n ks i m = let k = map-mem (λ k. n - k) ks i m in omega (arith, k.2)

pub variables-length : (between : List ℕ) (n mask : ℕ) → n ≤ 12 → length (variables_text between n mask) ≤ (3 + length between) * 12
unfolding variables_text
variables-length between n mask h =
    let is = variables_at n (places_at n (λ k. bit k mask)) in
    le_trans (names-length between is (λ i m. omega (arith, variables-below n (places_at n (λ k. bit k mask)) i m)))
    (mul-le-mul_left (3 + length between) (omega (arith, variables-few n (λ k. bit k mask))))

pub equation-length : (n index mask : ℕ) → n ≤ 12 → index < 100 → length (equation_line n index mask) ≤ 79
unfolding equation_line
equation-length n index mask h k =
    let rest = variables_text plus_word n mask ++ line_end in
    omega (
      arith,
      length-append (decimal index) (equals_word ++ rest),
      length-append (variables_text plus_word n mask) line_end,
      two_digits index k,
      variables-length plus_word n mask h,
    )

pub equations-length : (n index : ℕ) (masks : List ℕ) → n ≤ 12 → index + length masks ≤ 100 → length (equation_lines n index masks) ≤ 79 * length masks
unfolding equation_lines
equations-length n index [] h k = omega arith
equations-length n index (m ∷ ms) h k =
    omega (
      arith,
      length-append (equation_line n index m) (equation_lines n (index + 1) ms),
      equation-length n index m h (omega arith),
      equations-length n (index + 1) ms h (omega arith),
    )

pub factor-length : (n : ℕ) (f : Factor) → n ≤ 12 → f.constant ≤ 1 → length (factor_text n f) ≤ 52
unfolding factor_text
factor-length n f h k =
    omega (
      arith,
      length-append (variables_text plus_sign n f.mask) (equals_sign ++ decimal f.constant),
      variables-length plus_sign n f.mask h,
      two_digits f.constant (omega arith),
    )

pub product-length : (n : ℕ) (fs : List Factor) → n ≤ 12 → ((f : Factor) → Mem f fs → f.constant ≤ 1) → length (product_line n fs) ≤ 52 * length fs + 10
unfolding product_line
product-length n fs h k = omega (arith, length-append (product_text n fs) line_end, text fs k)
  where
    text : (gs : List Factor) → ((f : Factor) → Mem f gs → f.constant ≤ 1) → length (product_text n gs) ≤ 52 * length gs + 2
    text [] l = omega arith
    text (g ∷ gs) l = omega (arith, flat-length (factor_text n) 52 (g ∷ gs) (λ f m. factor-length n f h (l f m)))

pub products-length : (n b : ℕ) (ps : List (List Factor)) → ((p : List Factor) → Mem p ps → length (product_line n p) ≤ b) → length (product_lines n ps) ≤ b * length ps
unfolding product_lines
products-length n b ps h = flat-length (product_line n) b ps h
