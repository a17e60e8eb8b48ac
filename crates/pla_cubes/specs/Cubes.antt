-- A cube: n symbols for the inputs and one for each output. Which points it covers, and what it says of them. Read next: Meaning.
use Rattle.std.specs.Prelude.{Bool, true, false, cond, not, ◌&&◌, ◌||◌, List, [], ◌∷◌, ℕ, zero, suc, eqb, length, take, drop, get_or}
use Rattle.gf2.specs.Bits.{bit}

-- The symbols.
abbrev pub symbol0 : ℕ
symbol0 = 48

abbrev pub symbol1 : ℕ
symbol1 = 49

abbrev pub dash : ℕ
dash = 45

abbrev pub tilde : ℕ
tilde = 126

-- A symbol of an input, and of an output.
abbrev pub is_input : ℕ → Bool
is_input b = eqb b symbol0 || eqb b symbol1 || eqb b dash

abbrev pub is_output : ℕ → Bool
is_output b = is_input b || eqb b tilde

-- The most outputs of a table.
abbrev pub max_outputs : ℕ
max_outputs = 4096

-- The symbols are those of exactly so many inputs and then of exactly so many outputs.
unfoldable pub is_cube : ℕ → ℕ → List ℕ → Bool
is_cube zero zero [] = true
is_cube zero (suc o) [] = false
is_cube (suc n) o [] = false
is_cube zero zero (b ∷ bs) = false
is_cube zero (suc o) (b ∷ bs) = is_output b && is_cube zero o bs
is_cube (suc n) o (b ∷ bs) = is_input b && is_cube n o bs

-- With so many inputs and outputs to come, the symbol may be the next. That a cube's symbols are taken one by one is `cube-input` and `cube-output`.
abbrev pub takes : ℕ → ℕ → ℕ → Bool
takes (suc n) o b = is_input b
takes zero (suc o) b = is_output b
takes zero zero b = false

-- A cube as one output sees it: the symbols of the inputs, and that output's symbol.
pub record Row : Type 0 where
  pub inputs : List ℕ
  pub output : ℕ

-- The row of the chosen output, counted from 1. Where there is no such output, it says nothing.
abbrev pub row_of : ℕ → ℕ → List ℕ → Row
row_of n output symbols = record { inputs = take n symbols; output = get_or (tilde ∷ drop n symbols) output tilde }

-- An input's symbol allows the value: 0 and 1 ask for theirs, a dash for none.
abbrev pub allows : ℕ → Bool → Bool
allows b value = cond (eqb b symbol0) (not value) (cond (eqb b symbol1) value true)

-- A cube covers a point when each of its inputs allows the point's bit there; x1 is the first input and the highest bit.
unfoldable pub covers : List ℕ → ℕ → Bool
covers [] p = true
covers (b ∷ bs) p = allows b (bit (length bs) p) && covers bs p

-- Some row has this symbol for its output and covers the point.
unfoldable pub says : ℕ → List Row → ℕ → Bool
says b [] p = false
says b (row ∷ rows) p = (eqb row.output b && covers row.inputs p) || says b rows p
