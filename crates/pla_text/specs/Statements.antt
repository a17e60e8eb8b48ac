-- The statement that a line makes, by the words before its comment. Read next: crate `pla_cubes`.
use Rattle.std.specs.Prelude.{Bool, true, false, cond, ◌||◌, List, [], ◌∷◌, ℕ, eqb, length, get_or}
use Rattle.std.specs.Prelude.{Option, None, Some}
use Rattle.std.specs.Str.{bytes_eq}
use Rattle.pla_text.specs.declared.Statement.{Statement}
use Rattle.pla_text.specs.declared.Statement.TheVariants.{Empty, Wrong, Inputs, Outputs, Products, Meaning, Names, End, Cube}
use Rattle.pla_text.specs.declared.TableType.{TableType}
use Rattle.pla_text.specs.declared.TableType.TheVariants.{F, Fd, Fr}
use Rattle.pla_text.specs.Numbers.{number_of}

-- A directive begins with a full stop.
abbrev pub full_stop : ℕ
full_stop = 46

-- The names of the directives.
abbrev pub inputs_name : List ℕ
inputs_name = 46 ∷ 105 ∷ []  -- .i

abbrev pub outputs_name : List ℕ
outputs_name = 46 ∷ 111 ∷ []  -- .o

abbrev pub products_name : List ℕ
products_name = 46 ∷ 112 ∷ []  -- .p

abbrev pub type_name : List ℕ
type_name = 46 ∷ 116 ∷ 121 ∷ 112 ∷ 101 ∷ []  -- .type

abbrev pub end_name : List ℕ
end_name = 46 ∷ 101 ∷ []  -- .e

abbrev pub long_end_name : List ℕ
long_end_name = 46 ∷ 101 ∷ 110 ∷ 100 ∷ []  -- .end

abbrev pub input_names_name : List ℕ
input_names_name = 46 ∷ 105 ∷ 108 ∷ 98 ∷ []  -- .ilb

abbrev pub output_names_name : List ℕ
output_names_name = 46 ∷ 111 ∷ 98 ∷ []  -- .ob

-- The type that a word names, if it does.
unfoldable pub type_of : List ℕ → Option TableType
type_of word =
    cond (bytes_eq word (102 ∷ [])) (Some F)
    (cond (bytes_eq word (102 ∷ 100 ∷ [])) (Some Fd)
    (cond (bytes_eq word (102 ∷ 114 ∷ [])) (Some Fr) None))

-- The end has no word after it.
unfoldable pub end_of : ℕ → Statement
end_of count = cond (eqb count 0) End Wrong

-- A directive with one word after it.
unfoldable pub operand_of : List ℕ → List ℕ → Statement
operand_of name word =
    cond (bytes_eq name inputs_name) (Inputs (number_of word))
    (cond (bytes_eq name outputs_name) (Outputs (number_of word))
    (cond (bytes_eq name products_name) (Products (number_of word))
    (cond (bytes_eq name type_name) (Meaning (type_of word)) Wrong)))

-- A directive by its name and the words that follow it.
unfoldable pub directive_of : List ℕ → List (List ℕ) → Statement
directive_of name words =
    cond (bytes_eq name input_names_name || bytes_eq name output_names_name) Names
    (cond (bytes_eq name end_name || bytes_eq name long_end_name) (end_of (length words))
    (cond (eqb (length words) 1) (operand_of name (get_or words 0 [])) Wrong))

-- A line without words is empty; one whose first word begins with a full stop is a directive; any other is a cube.
unfoldable pub statement_of : List (List ℕ) → Statement
statement_of [] = Empty
statement_of (word ∷ words) = cond (eqb (get_or word 0 0) full_stop) (directive_of word words) Cube

-- Words as far as they matter: none, one, or the first and another. That they do for a directive is `directive-told`.
unfoldable pub words_told : Option (List ℕ) → Bool → List (List ℕ)
words_told None more = []
words_told (Some word) false = word ∷ []
words_told (Some word) true = word ∷ [] ∷ []
