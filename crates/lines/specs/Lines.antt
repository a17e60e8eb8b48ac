-- The lines of the printed report, each with its newline (document 01, "The printed report").
-- Read next: crate `table_report`, which puts them together.
use Rattle.std.specs.Prelude.{Bool, cond, ℕ, ◌+◌}
use mathlib.Core.List.{List, [], ◌∷◌, ◌++◌, flat_map}
use Rattle.gf2.specs.Bits.{bit}
use Rattle.gf2.specs.Basis.{places_at, variables_at}
use Rattle.table.specs.Refusal.{has_place}
use Rattle.product.specs.Product.{Factor}
use Rattle.text.specs.Pieces.{labelled, blank_word, spaced, names}
use Rattle.lines.specs.Words.{on_word, free_word, degree_word, simple_word, equation_letter, equals_word, plus_word, none_word, product_word, one_word, plus_sign, equals_sign, refused_word, at_word, line_end}

-- A word and a number: `variables 4`, `degree 1`, `refused 5`.
unfoldable pub number_line : List ℕ → ℕ → List ℕ
number_line word n = labelled word n ++ line_end

-- A refusal with its place, `refused 21 at 0`, or without one, `refused 3` (document 02, No. 3).
unfoldable pub fault_line : ℕ → ℕ → List ℕ
fault_line number place = cond (has_place number) (labelled refused_word number ++ number_line at_word place) (number_line refused_word number)

-- `on 10 free 0`
unfoldable pub counts_line : ℕ → ℕ → List ℕ
counts_line on free = labelled on_word on ++ number_line free_word free

-- `degree 3`, and `degree 3 simple` where the degree is marked as that of the simple way (document 02, No. 4).
unfoldable pub degree_line : Bool → ℕ → List ℕ
degree_line simple k = cond simple (labelled degree_word k ++ (simple_word ++ line_end)) (number_line degree_word k)

-- The text of a list, or a word of its own for an empty one.
abbrev pub list_text : {A : Type 0} → List ℕ → (List A → List ℕ) → List A → List ℕ
list_text empty some [] = empty
list_text empty some (a ∷ rest) = some (a ∷ rest)

-- Numbers, each after one blank; an empty list prints as `-`.
abbrev pub numbers_text : List ℕ → List ℕ
numbers_text ps = list_text none_word spaced ps

-- A word and a list of numbers: `restriction 2 3 5 6 7`, `canonical -`.
unfoldable pub numbers_line : List ℕ → List ℕ → List ℕ
numbers_line word ps = word ++ (numbers_text ps ++ line_end)

-- The names of the variables of a mask, in index order: x1 is the highest of n places.
unfoldable pub variables_text : List ℕ → ℕ → ℕ → List ℕ
variables_text between n mask = names between (variables_at n (places_at n (λ k. bit k mask)))

-- `y3 = x3 + x4`
unfoldable pub equation_line : ℕ → ℕ → ℕ → List ℕ
equation_line n index mask = labelled equation_letter index ++ (equals_word ++ (variables_text plus_word n mask ++ line_end))

-- One such line for each mask, from the given index on.
unfoldable pub equation_lines : ℕ → ℕ → List ℕ → List ℕ
equation_lines n index [] = []
equation_lines n index (mask ∷ masks) = equation_line n index mask ++ equation_lines n (index + 1) masks

-- ` x1+x3+x4=0`, a factor after its blank.
unfoldable pub factor_text : ℕ → Factor → List ℕ
factor_text n f = blank_word ++ (variables_text plus_sign n f.mask ++ labelled equals_sign f.constant)

-- The factors in their order; a product without factors prints as `1`.
abbrev pub product_text : ℕ → List Factor → List ℕ
product_text n fs = list_text one_word (flat_map (factor_text n)) fs

-- `product x1+x2=1 x1+x3+x4=0`
unfoldable pub product_line : ℕ → List Factor → List ℕ
product_line n fs = product_word ++ (product_text n fs ++ line_end)

-- One such line for each product.
unfoldable pub product_lines : ℕ → List (List Factor) → List ℕ
product_lines n products = flat_map (product_line n) products
