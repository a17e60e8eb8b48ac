-- Worked examples, computed: lines of document 01's P4 and P5, and the degrees of document 02, No. 4. x1 is the highest of n places.
use mathlib.Core.Path.{◌≡◌, refl}
use mathlib.Core.Bool.{true, false}
use mathlib.Core.List.{[], ◌∷◌, flat_map}
use Rattle.gf2.specs.Bits.{bit}
use Rattle.gf2.specs.Basis.{places_at}
use Rattle.product.specs.Product.{factor}
use Rattle.text.specs.Decimal.{decimal_in, decimal}
use Rattle.text.specs.Pieces.{spaced, names}
use Rattle.lines.specs.Words.{canonical_word}
use Rattle.lines.specs.Lines.{number_line, degree_line, numbers_line, variables_text, equation_line, factor_text}

-- `y3 = x3 + x4`, the equation of mask 3 of four variables.
equation : equation_line 4 3 3 ≡ 121 ∷ 51 ∷ 32 ∷ 61 ∷ 32 ∷ 120 ∷ 51 ∷ 32 ∷ 43 ∷ 32 ∷ 120 ∷ 52 ∷ 10 ∷ []
unfolding equation_line variables_text names flat_map places_at bit decimal decimal_in
equation = refl

-- ` x1+x3+x4=0`, the factor of mask 11 and constant 0.
written : factor_text 4 (factor 0 11) ≡ 32 ∷ 120 ∷ 49 ∷ 43 ∷ 120 ∷ 51 ∷ 43 ∷ 120 ∷ 52 ∷ 61 ∷ 48 ∷ []
unfolding factor_text variables_text names flat_map places_at bit decimal decimal_in
written = refl

-- `canonical 1 2`, and `canonical -` where there are none.
listed : numbers_line canonical_word (1 ∷ 2 ∷ []) ≡ 99 ∷ 97 ∷ 110 ∷ 111 ∷ 110 ∷ 105 ∷ 99 ∷ 97 ∷ 108 ∷ 32 ∷ 49 ∷ 32 ∷ 50 ∷ 10 ∷ []
unfolding numbers_line spaced flat_map decimal decimal_in
listed = refl

none : numbers_line canonical_word [] ≡ 99 ∷ 97 ∷ 110 ∷ 111 ∷ 110 ∷ 105 ∷ 99 ∷ 97 ∷ 108 ∷ 32 ∷ 45 ∷ 10 ∷ []
unfolding numbers_line
none = refl

-- `degree 3 simple`, and `degree 3` where the mark is not asked for.
marked : degree_line true 3 ≡ 100 ∷ 101 ∷ 103 ∷ 114 ∷ 101 ∷ 101 ∷ 32 ∷ 51 ∷ 32 ∷ 115 ∷ 105 ∷ 109 ∷ 112 ∷ 108 ∷ 101 ∷ 10 ∷ []
unfolding degree_line decimal decimal_in
marked = refl

plain : degree_line false 3 ≡ 100 ∷ 101 ∷ 103 ∷ 114 ∷ 101 ∷ 101 ∷ 32 ∷ 51 ∷ 10 ∷ []
unfolding degree_line number_line decimal decimal_in
plain = refl
