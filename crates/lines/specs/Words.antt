-- The words of the printed report in ASCII (document 01, "The printed report"); the comment above each shows its text. Read next: Lines.
use Rattle.std.specs.Prelude.{List, [], ◌∷◌, ℕ}

-- `variables `
abbrev pub variables_word : List ℕ
variables_word = 118 ∷ 97 ∷ 114 ∷ 105 ∷ 97 ∷ 98 ∷ 108 ∷ 101 ∷ 115 ∷ 32 ∷ []

-- `on `
abbrev pub on_word : List ℕ
on_word = 111 ∷ 110 ∷ 32 ∷ []

-- ` free `
abbrev pub free_word : List ℕ
free_word = 32 ∷ 102 ∷ 114 ∷ 101 ∷ 101 ∷ 32 ∷ []

-- `degree `
abbrev pub degree_word : List ℕ
degree_word = 100 ∷ 101 ∷ 103 ∷ 114 ∷ 101 ∷ 101 ∷ 32 ∷ []

-- ` simple`
abbrev pub simple_word : List ℕ
simple_word = 32 ∷ 115 ∷ 105 ∷ 109 ∷ 112 ∷ 108 ∷ 101 ∷ []

-- `canonical`
abbrev pub canonical_word : List ℕ
canonical_word = 99 ∷ 97 ∷ 110 ∷ 111 ∷ 110 ∷ 105 ∷ 99 ∷ 97 ∷ 108 ∷ []

-- `y`
abbrev pub equation_letter : List ℕ
equation_letter = 121 ∷ []

-- ` = `
abbrev pub equals_word : List ℕ
equals_word = 32 ∷ 61 ∷ 32 ∷ []

-- ` + `
abbrev pub plus_word : List ℕ
plus_word = 32 ∷ 43 ∷ 32 ∷ []

-- `restriction`
abbrev pub restriction_word : List ℕ
restriction_word = 114 ∷ 101 ∷ 115 ∷ 116 ∷ 114 ∷ 105 ∷ 99 ∷ 116 ∷ 105 ∷ 111 ∷ 110 ∷ []

-- ` -`
abbrev pub none_word : List ℕ
none_word = 32 ∷ 45 ∷ []

-- `product`
abbrev pub product_word : List ℕ
product_word = 112 ∷ 114 ∷ 111 ∷ 100 ∷ 117 ∷ 99 ∷ 116 ∷ []

-- ` 1`
abbrev pub one_word : List ℕ
one_word = 32 ∷ 49 ∷ []

-- `+`
abbrev pub plus_sign : List ℕ
plus_sign = 43 ∷ []

-- `=`
abbrev pub equals_sign : List ℕ
equals_sign = 61 ∷ []

-- `refused `
abbrev pub refused_word : List ℕ
refused_word = 114 ∷ 101 ∷ 102 ∷ 117 ∷ 115 ∷ 101 ∷ 100 ∷ 32 ∷ []

-- ` at `
abbrev pub at_word : List ℕ
at_word = 32 ∷ 97 ∷ 116 ∷ 32 ∷ []

-- one newline
abbrev pub line_end : List ℕ
line_end = 10 ∷ []
