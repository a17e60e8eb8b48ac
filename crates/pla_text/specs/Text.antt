-- A text as lines, a line's part before its comment, and that part as words or as symbols without blanks. Read next: Numbers.
use Rattle.std.specs.Prelude.{Bool, not, ◌||◌, List, ℕ, eqb, length, filter}
use Rattle.std.specs.List.{slice_split, before_first}

-- The bytes that the layout of a text goes by.
abbrev pub newline : ℕ
newline = 10

abbrev pub hash : ℕ
hash = 35

abbrev pub is_newline : ℕ → Bool
is_newline byte = eqb byte newline

abbrev pub is_hash : ℕ → Bool
is_hash byte = eqb byte hash

-- A blank is a space, a tab or a carriage return.
abbrev pub is_blank : ℕ → Bool
is_blank byte = eqb byte 32 || eqb byte 9 || eqb byte 13

-- The lines of a text: its parts between newlines, which may be empty.
abbrev pub lines_of : List ℕ → List (List ℕ)
lines_of text = slice_split is_newline text

-- What a line says: everything from `#` on is comment.
abbrev pub content_of : List ℕ → List ℕ
content_of line = before_first is_hash line

-- The words of a line's content: its longest runs of bytes that aren't blank.
abbrev pub words_of : List ℕ → List (List ℕ)
words_of content = filter (λ part. not (eqb (length part) 0)) (slice_split is_blank content)

-- The symbols of a line's content: its bytes without the blanks.
abbrev pub symbols_of : List ℕ → List ℕ
symbols_of content = filter (λ byte. not (is_blank byte)) content
