-- Worked examples, computed: the line of degree 3 in the reports of tables of 9 and of 8 variables (document 02, No. 4).
use mathlib.Core.Path.{◌≡◌, refl}
use mathlib.Core.List.{[], ◌∷◌}
use Rattle.text.specs.Decimal.{decimal_in, decimal}
use Rattle.lines.specs.Lines.{number_line, degree_line}
use Rattle.table_report.specs.Text.{is_simple}

-- `degree 3 simple` for 9 variables and a free point.
marked : degree_line (is_simple 9 (511 ∷ [])) 3 ≡ 100 ∷ 101 ∷ 103 ∷ 114 ∷ 101 ∷ 101 ∷ 32 ∷ 51 ∷ 32 ∷ 115 ∷ 105 ∷ 109 ∷ 112 ∷ 108 ∷ 101 ∷ 10 ∷ []
unfolding is_simple degree_line decimal decimal_in
marked = refl

-- `degree 3` for 9 variables without a free point, and for 8 with one.
complete : degree_line (is_simple 9 []) 3 ≡ 100 ∷ 101 ∷ 103 ∷ 114 ∷ 101 ∷ 101 ∷ 32 ∷ 51 ∷ 10 ∷ []
unfolding is_simple degree_line number_line decimal decimal_in
complete = refl

searched : degree_line (is_simple 8 (255 ∷ [])) 3 ≡ 100 ∷ 101 ∷ 103 ∷ 114 ∷ 101 ∷ 101 ∷ 32 ∷ 51 ∷ 10 ∷ []
unfolding is_simple degree_line number_line decimal decimal_in
searched = refl
