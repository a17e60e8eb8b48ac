-- Pieces of a line: numbers, each after one blank, and names of variables with a text between two (document 01, "The printed report").
-- Read next: Writing.
use mathlib.Core.List.{List, [], ◌∷◌, ◌++◌, flat_map}
use Rattle.std.specs.Prelude.{ℕ}
use Rattle.text.specs.Decimal.{decimal}

-- A word and a number in decimal after it.
abbrev pub labelled : List ℕ → ℕ → List ℕ
labelled word n = word ++ decimal n

-- ` `
abbrev pub blank_word : List ℕ
blank_word = 32 ∷ []

-- `x`
abbrev pub variable_letter : List ℕ
variable_letter = 120 ∷ []

-- A number in decimal after one blank.
abbrev pub spaced_number : ℕ → List ℕ
spaced_number p = labelled blank_word p

-- The numbers in decimal, each after one blank.
unfoldable pub spaced : List ℕ → List ℕ
spaced ps = flat_map spaced_number ps

-- The name of the variable of an index: `x3`.
abbrev pub name : ℕ → List ℕ
name index = labelled variable_letter index

-- The names of variables with the given text between two: `x1+x3`.
unfoldable pub names : List ℕ → List ℕ → List ℕ
names between [] = []
names between (index ∷ rest) = name index ++ flat_map (λ other. between ++ name other) rest
