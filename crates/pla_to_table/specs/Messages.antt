-- What the program says on standard error, in ASCII; the comment above each shows its text. Read next: Answer.
use Rattle.std.specs.Prelude.{cond, List, [], ◌∷◌, ◌++◌, ℕ, eqb}
use Rattle.text.specs.Pieces.{labelled}
use Rattle.lines.specs.Words.{refused_word}
use Rattle.lines.specs.Lines.{number_line}

-- Room enough for every message: `refused ` and 3 digits, ` line ` and 20 digits, a newline. That it is, is `message-fits`.
abbrev pub message_room : ℕ
message_room = 38

-- ` line `
abbrev pub line_word : List ℕ
line_word = 32 ∷ 108 ∷ 105 ∷ 110 ∷ 101 ∷ 32 ∷ []

-- `text too long`
abbrev pub too_long : List ℕ
too_long = 116 ∷ 101 ∷ 120 ∷ 116 ∷ 32 ∷ 116 ∷ 111 ∷ 111 ∷ 32 ∷ 108 ∷ 111 ∷ 110 ∷ 103 ∷ 10 ∷ []

-- `refused 36 line 4`, or `refused 38` where no line is at fault, which is line 0.
unfoldable pub refused_message : ℕ → ℕ → List ℕ
refused_message number line = cond (eqb line 0) (number_line refused_word number) (labelled refused_word number ++ number_line line_word line)
