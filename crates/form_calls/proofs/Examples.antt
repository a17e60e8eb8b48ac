-- Worked examples, computed: the points of the forms of document 01's P1, P3 and P5, and that the last is written as it was read.
use mathlib.Core.Path.{◌≡◌, refl}
use mathlib.Core.List.{[], ◌∷◌}
use Rattle.gf2.specs.Bits.{bit}
use Rattle.gf2.specs.Finite.{select}
use Rattle.gf2.specs.Parity.{odd_in, odd}
use Rattle.product.specs.Product.{factor_at, product_at, some_product_at}
use Rattle.form.specs.Form.{form_points}
use Rattle.form.specs.Encoding.{encode_factors, encode_products, encode_form}
use Rattle.form.specs.Decoding.{parts_from}
use Rattle.form.proofs.Examples.{one, three, five}
use Rattle.form_calls.specs.Reading.{points_read, rewritten}

pub record Examples : Type 0 where
  pub p1-points : points_read one ≡ []
  pub p3-points : points_read three ≡ 0 ∷ 1 ∷ []
  pub p5-points : points_read five ≡ 4 ∷ 5 ∷ 6 ∷ 7 ∷ 9 ∷ 10 ∷ 12 ∷ 13 ∷ 14 ∷ 15 ∷ []
  pub p5-again : rewritten five ≡ five

pub examples : Examples
unfolding parts_from form_points select some_product_at product_at factor_at odd odd_in bit encode_form encode_products encode_factors
examples = record { p1-points = refl; p3-points = refl; p5-points = refl; p5-again = refl }
