-- The report of a table has at most 21,573 bytes: with n - k above 6 there are at most 4,096 points of at most 5 bytes each and no product line, otherwise
-- at most 64 points and at most 62 products of at most 6 factors of at most 12 variables. Read next: Examples.
use mathlib.Core.Path.{◌≡◌, refl}
use mathlib.Core.Bool.{Bool, true, false, cond}
use mathlib.Core.List.{List, ◌++◌}
use Prim.Native.Nat.{ℕ, ◌+◌, ◌-◌, ◌*◌, ◌^◌, ◌≤◌, ◌<◌}
use native.Mathlib.Nat.{le_trans, mul-le-mul_left}
use native.Mathlib.Omega.{arith}
use lib.Pow.{pow_mono}
use lib.ListN.{length, length-append}
use borrow.Author.Tests.{ltb-false}
use Rattle.gf2.specs.Finite.{Mem}
use Rattle.gf2.specs.Basis.{canonical_places, variables_at, is_lead}
use Rattle.gf2.proofs.Finite.{rising-length}
use Rattle.table.specs.Refusal.{size_fault}
use Rattle.table.specs.Table.{Accepted}
use Rattle.space.specs.Closure.{linear_space, degree}
use Rattle.space.specs.Completion.{completed}
use Rattle.space.specs.Restriction.{equations, restriction}
use Rattle.space.proofs.Closure.{linear-reduced, linear-span}
use Rattle.space.proofs.Restriction.{linear-equations, restriction-below, restriction-length}
use Rattle.product.specs.Product.{Factor}
use Rattle.cubes.specs.Records.{max_listed}
use Rattle.cover.specs.WrittenForm.{written_form, form_size_fault}
use Rattle.cover.proofs.WrittenForm.{form-factors, table-form-products, table-form-few}
use Rattle.lines.specs.Words.{variables_word, canonical_word, restriction_word, refused_word}
use Rattle.lines.specs.Lines.{number_line, counts_line, degree_line, numbers_line, equation_lines, product_line, product_lines}
use Rattle.lines.proofs.Lengths.{two_digits, number-length, counts-length, degree-length, numbers-length, variables-few, variables-below, equations-length, product-length, products-length}
use Rattle.table_report.specs.Text.{refused_line, is_simple, space_text, form_text, table_text}

-- `refused N`
pub refused-fits : (number : ℕ) → number < 100 → length (refused_line number) ≤ 11
refused-fits number h = number-length refused_word number 2 (two_digits number h)

module _ (n : ℕ) (on free : List ℕ) (a : Accepted n on free) where
  f : ℕ → Bool
  f = completed n on free

  bs : List ℕ
  bs = linear_space n f

  points : List ℕ
  points = restriction n bs f

  left : length (equations n bs) + degree n f ≡ n
  unfolding f bs
  left = linear-equations n f

  -- All lines of the space but for the points of its restriction.
  space-fits : (simple : Bool) → length (space_text n simple bs points) ≤ 1051 + 5 * length points
  unfolding space_text f bs points degree
  space-fits simple =
      let vs = variables_at n (canonical_places n bs) in
      let few : n ≤ 12 = a.few in
      let big : 2 ^ length (equations n bs) ≤ 4096 = pow_mono {j = 12} (omega (arith, left)) in
      omega (
        arith,
        length-append (degree_line simple (length bs)) (numbers_line canonical_word vs ++ (equation_lines n 1 (equations n bs) ++ numbers_line restriction_word points)),
        length-append (numbers_line canonical_word vs) (equation_lines n 1 (equations n bs) ++ numbers_line restriction_word points),
        length-append (equation_lines n 1 (equations n bs)) (numbers_line restriction_word points),
        degree-length simple (length bs) (omega (arith, left)),
        numbers-length canonical_word vs (λ i m. omega (arith, variables-below n (canonical_places n bs) i m)),
        variables-few n (is_lead bs),
        equations-length n 1 (equations n bs) few (omega (arith, left)),
        numbers-length restriction_word points (λ p m. omega (arith, restriction-below n bs f p m)),
        left,
      )

  -- One product.
  product-fits : form_size_fault n on free ≡ false → (p : List Factor) → Mem p (written_form n on free) → length (product_line n p) ≤ 322
  unfolding written_form form_size_fault degree
  product-fits e p m =
      let factors : length p ≤ n - length (linear_space n (completed n on free)) =
      form-factors n (completed n on free) (linear_space n (completed n on free)) (linear-reduced n (completed n on free)) (λ x. (linear-span n (completed n on free) x).0) p m in
      let six : n - length (linear_space n (completed n on free)) ≤ 6 = ltb-false max_listed (n - length (linear_space n (completed n on free))) e in
      omega (arith, product-length n p a.few (λ g k. ((table-form-products n on free p m).1 g k).binary))

  -- The restriction and the form.
  form-fits : (t : Bool) → form_size_fault n on free ≡ t → 5 * length points + length (cond t (refused_line size_fault) (product_lines n (written_form n on free))) ≤ 20491
  unfolding f bs points degree form_size_fault
  form-fits true e =
      let big : 2 ^ length (equations n bs) ≤ 4096 = pow_mono {j = 12} (omega (arith, left, a.few)) in
      omega (arith, restriction-length n bs f, refused-fits size_fault (omega arith))
  form-fits false e =
      let six : n - length (linear_space n (completed n on free)) ≤ 6 = ltb-false max_listed (n - length (linear_space n (completed n on free))) e in
      let small : 2 ^ length (equations n bs) ≤ 64 = pow_mono {j = 6} (omega (arith, left)) in
      let products : length (product_lines n (written_form n on free)) ≤ 322 * 62 =
      le_trans (products-length n 322 (written_form n on free) (product-fits e)) (mul-le-mul_left 322 (table-form-few n on free e)) in
      omega (arith, restriction-length n bs f)

  points-few : (ps : List ℕ) → length ps ≤ 2 ^ n → length ps < 10000
  points-few ps h = let big : 2 ^ n ≤ 4096 = pow_mono {j = 12} a.few in omega arith

  pub table_fits : length (table_text n on free) ≤ 21573
  unfolding table_text form_text f bs points
  table_fits =
      let simple = is_simple n free in
      omega (
        arith,
        length-append (number_line variables_word n) (counts_line (length on) (length free) ++ (space_text n simple bs points ++ form_text n on free)),
        length-append (counts_line (length on) (length free)) (space_text n simple bs points ++ form_text n on free),
        length-append (space_text n simple bs points) (form_text n on free),
        number-length variables_word n 2 (two_digits n (omega (arith, a.few))),
        counts-length (length on) (length free) (points-few on (rising-length on (2 ^ n) a.on-rising a.on_below))
            (points-few free (rising-length free (2 ^ n) a.free-rising a.free-below)),
        space-fits simple,
        form-fits (form_size_fault n on free) refl,
      )
