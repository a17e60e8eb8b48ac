-- The report of a table (document 01, "The printed report"). What is printed for the bytes of a stored table is `report_text` of crate `report`.
-- Read next: Parts.
use Rattle.std.specs.Prelude.{Bool, cond, ◌&&◌, List, ◌++◌, ℕ, ltb, length}
use Rattle.gf2.specs.Basis.{canonical_places, variables_at}
use Rattle.table.specs.Refusal.{size_fault}
use Rattle.space.specs.Closure.{linear_space}
use Rattle.space.specs.Completion.{max_searched, completed}
use Rattle.space.specs.Restriction.{equations, restriction}
use Rattle.cover.specs.WrittenForm.{written_form, form_size_fault}
use Rattle.lines.specs.Words.{variables_word, canonical_word, restriction_word, refused_word}
use Rattle.lines.specs.Lines.{number_line, counts_line, degree_line, numbers_line, equation_lines, product_lines}

-- `refused 5`
abbrev pub refused_line : ℕ → List ℕ
refused_line number = number_line refused_word number

-- The degree is that of the simple way, since n is above the largest number for which the largest space is searched, and free points exist: then its
-- line ends in ` simple` (document 02, No. 4).
unfoldable pub is_simple : ℕ → List ℕ → Bool
is_simple n free = ltb max_searched n && ltb 0 (length free)

-- The lines of a linear space of n variables with the basis bs, and of the restriction by it: degree, canonical variables by index, reduction
-- equations y1, y2, .., restriction.
unfoldable pub space_text : ℕ → Bool → List ℕ → List ℕ → List ℕ
space_text n simple bs points =
    degree_line simple (length bs)
    ++ (numbers_line canonical_word (variables_at n (canonical_places n bs)) ++ (equation_lines n 1 (equations n bs) ++ numbers_line restriction_word points))

-- The lines of the form of a table: its products in their order, or `refused 5` where only the form is refused.
unfoldable pub form_text : ℕ → List ℕ → List ℕ → List ℕ
form_text n on free = cond (form_size_fault n on free) (refused_line size_fault) (product_lines n (written_form n on free))

-- The report of a table: the on and free counts are the input's, and so is the mark ` simple`; all else below them is the completed function's.
unfoldable pub table_text : ℕ → List ℕ → List ℕ → List ℕ
table_text n on free =
    let f = completed n on free in
    let bs = linear_space n f in
    number_line variables_word n ++ (counts_line (length on) (length free) ++ (space_text n (is_simple n free) bs (restriction n bs f) ++ form_text n on free))
