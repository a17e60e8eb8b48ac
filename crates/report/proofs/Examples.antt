-- Worked examples, computed: the reports of document 01's P1, P3, P4, P5 and P8, and refused tables. Each is a stored table and its whole report.
use mathlib.Core.Path.{◌≡◌, refl}
use mathlib.Core.List.{List, [], ◌∷◌, map, flat_map}
use Prim.Native.Nat.{ℕ}
use Rattle.gf2.specs.Bits.{bit, halvings, lead}
use Rattle.gf2.specs.Finite.{holds, all, select}
use Rattle.gf2.specs.Parity.{odd_in, odd}
use Rattle.gf2.specs.Basis.{reduce, clear, reduces, irreducible, reduced_basis, is_lead, places_at}
use Rattle.table.specs.Refusal.{has_place, first_fault, first_place}
use Rattle.table.specs.Table.{bad_count, outside, not_above, unordered}
use Rattle.records.specs.Kinds.{head_of}
use Rattle.records.specs.Walks.{walk_by}
use Rattle.stored.specs.Layout.{walked}
use Rattle.stored.specs.Marks.{record_marks, marked_points}
use Rattle.stored.specs.Stored.{stored_place}
use Rattle.subspaces.specs.Spaces.{spaces_of, spaces_from, largest}
use Rattle.closure_set.specs.ClosureSet.{closes, closure_set, largest_space, spread}
use Rattle.space.specs.Closure.{closed, linear_space, degree}
use Rattle.space.specs.Completion.{all_on, simply_completed, completed}
use Rattle.space.specs.Restriction.{equation, equations, number, project, clean, restriction}
use Rattle.cubes.specs.Lists.{keep}
use Rattle.cubes.specs.Cubes.{spans, points_of}
use Rattle.cubes.specs.Candidates.{bases, candidates_of, candidates_from, candidates}
use Rattle.cubes.specs.Primes.{every_point, some_point, cannot_grow, is_prime}
use Rattle.cover.specs.CanonicalProduct.{place_factor, canonical_product}
use Rattle.cover.specs.Substitution.{substitute_mask, substitute_factor, substitute_product}
use Rattle.cover.specs.Choice.{primes_of, covered, first_holding, taken_for, taken_through, chosen}
use Rattle.cover.specs.WrittenForm.{written_product, form_of, written_form, form_size_fault}
use Rattle.text.specs.Decimal.{decimal_in, decimal}
use Rattle.text.specs.Pieces.{spaced, names}
use Rattle.lines.specs.Lines.{number_line, fault_line, counts_line, degree_line, numbers_line, variables_text, equation_line, equation_lines, factor_text, product_line, product_lines}
use Rattle.table_report.specs.Text.{is_simple, space_text, form_text, table_text}
use Rattle.report.specs.Report.{report_text}

-- A stored table and its report.
record Example : Type 0 where
  table : List ℕ
  text : List ℕ

example : List ℕ → List ℕ → Example
example table text = record { table = table; text = text }

examples : List Example
examples =
    -- An empty input
    example [] (
    114 ∷ 101 ∷ 102 ∷ 117 ∷ 115 ∷ 101 ∷ 100 ∷ 32 ∷ 50 ∷ 49 ∷ 32 ∷ 97 ∷ 116 ∷ 32 ∷ 48 ∷ 10 ∷ []) ∷
    -- A kind of forms where a point may stand, a cut point, a wrong count, and a byte after the end
    example (0x4E ∷ 0x01 ∷ 0x50 ∷ []) (
    114 ∷ 101 ∷ 102 ∷ 117 ∷ 115 ∷ 101 ∷ 100 ∷ 32 ∷ 50 ∷ 48 ∷ 32 ∷ 97 ∷ 116 ∷ 32 ∷ 50 ∷ 10 ∷ []) ∷
    example (0x4E ∷ 0x01 ∷ 0x4F ∷ 0x00 ∷ []) (
    114 ∷ 101 ∷ 102 ∷ 117 ∷ 115 ∷ 101 ∷ 100 ∷ 32 ∷ 50 ∷ 49 ∷ 32 ∷ 97 ∷ 116 ∷ 32 ∷ 52 ∷ 10 ∷ []) ∷
    example (0x4E ∷ 0x01 ∷ 0x45 ∷ 0x01 ∷ 0x00 ∷ []) (
    114 ∷ 101 ∷ 102 ∷ 117 ∷ 115 ∷ 101 ∷ 100 ∷ 32 ∷ 50 ∷ 53 ∷ 32 ∷ 97 ∷ 116 ∷ 32 ∷ 51 ∷ 10 ∷ []) ∷
    example (0x4E ∷ 0x01 ∷ 0x45 ∷ 0x00 ∷ 0x00 ∷ 0x45 ∷ []) (
    114 ∷ 101 ∷ 102 ∷ 117 ∷ 115 ∷ 101 ∷ 100 ∷ 32 ∷ 50 ∷ 54 ∷ 32 ∷ 97 ∷ 116 ∷ 32 ∷ 53 ∷ 10 ∷ []) ∷
    -- P1
    example (0x4E ∷ 0x01 ∷ 0x45 ∷ 0x00 ∷ 0x00 ∷ []) (
    118 ∷ 97 ∷ 114 ∷ 105 ∷ 97 ∷ 98 ∷ 108 ∷ 101 ∷ 115 ∷ 32 ∷ 49 ∷ 10 ∷
    111 ∷ 110 ∷ 32 ∷ 48 ∷ 32 ∷ 102 ∷ 114 ∷ 101 ∷ 101 ∷ 32 ∷ 48 ∷ 10 ∷
    100 ∷ 101 ∷ 103 ∷ 114 ∷ 101 ∷ 101 ∷ 32 ∷ 49 ∷ 10 ∷
    99 ∷ 97 ∷ 110 ∷ 111 ∷ 110 ∷ 105 ∷ 99 ∷ 97 ∷ 108 ∷ 32 ∷ 49 ∷ 10 ∷
    114 ∷ 101 ∷ 115 ∷ 116 ∷ 114 ∷ 105 ∷ 99 ∷ 116 ∷ 105 ∷ 111 ∷ 110 ∷ 32 ∷ 45 ∷ 10 ∷ []) ∷
    -- P3
    example (0x4E ∷ 0x01 ∷ 0x4F ∷ 0x00 ∷ 0x00 ∷ 0x4F ∷ 0x01 ∷ 0x00 ∷ 0x45 ∷ 0x02 ∷ 0x00 ∷ []) (
    118 ∷ 97 ∷ 114 ∷ 105 ∷ 97 ∷ 98 ∷ 108 ∷ 101 ∷ 115 ∷ 32 ∷ 49 ∷ 10 ∷
    111 ∷ 110 ∷ 32 ∷ 50 ∷ 32 ∷ 102 ∷ 114 ∷ 101 ∷ 101 ∷ 32 ∷ 48 ∷ 10 ∷
    100 ∷ 101 ∷ 103 ∷ 114 ∷ 101 ∷ 101 ∷ 32 ∷ 49 ∷ 10 ∷
    99 ∷ 97 ∷ 110 ∷ 111 ∷ 110 ∷ 105 ∷ 99 ∷ 97 ∷ 108 ∷ 32 ∷ 49 ∷ 10 ∷
    114 ∷ 101 ∷ 115 ∷ 116 ∷ 114 ∷ 105 ∷ 99 ∷ 116 ∷ 105 ∷ 111 ∷ 110 ∷ 32 ∷ 48 ∷ 10 ∷
    112 ∷ 114 ∷ 111 ∷ 100 ∷ 117 ∷ 99 ∷ 116 ∷ 32 ∷ 49 ∷ 10 ∷ []) ∷
    -- P4
    example (0x4E ∷ 0x03 ∷ 0x4F ∷ 0x01 ∷ 0x00 ∷ 0x4F ∷ 0x02 ∷ 0x00 ∷ 0x4F ∷ 0x04 ∷ 0x00 ∷ 0x4F ∷ 0x07 ∷ 0x00 ∷ 0x45 ∷ 0x04 ∷ 0x00 ∷ []) (
    118 ∷ 97 ∷ 114 ∷ 105 ∷ 97 ∷ 98 ∷ 108 ∷ 101 ∷ 115 ∷ 32 ∷ 51 ∷ 10 ∷
    111 ∷ 110 ∷ 32 ∷ 52 ∷ 32 ∷ 102 ∷ 114 ∷ 101 ∷ 101 ∷ 32 ∷ 48 ∷ 10 ∷
    100 ∷ 101 ∷ 103 ∷ 114 ∷ 101 ∷ 101 ∷ 32 ∷ 50 ∷ 10 ∷
    99 ∷ 97 ∷ 110 ∷ 111 ∷ 110 ∷ 105 ∷ 99 ∷ 97 ∷ 108 ∷ 32 ∷ 49 ∷ 32 ∷ 50 ∷ 10 ∷
    121 ∷ 49 ∷ 32 ∷ 61 ∷ 32 ∷ 120 ∷ 49 ∷ 32 ∷ 43 ∷ 32 ∷ 120 ∷ 50 ∷ 32 ∷ 43 ∷ 32 ∷ 120 ∷ 51 ∷ 10 ∷
    114 ∷ 101 ∷ 115 ∷ 116 ∷ 114 ∷ 105 ∷ 99 ∷ 116 ∷ 105 ∷ 111 ∷ 110 ∷ 32 ∷ 49 ∷ 10 ∷
    112 ∷ 114 ∷ 111 ∷ 100 ∷ 117 ∷ 99 ∷ 116 ∷ 32 ∷ 120 ∷ 49 ∷ 43 ∷ 120 ∷ 50 ∷ 43 ∷ 120 ∷ 51 ∷ 61 ∷ 49 ∷ 10 ∷ []) ∷
    -- P5
    example (0x4E ∷ 0x04 ∷ 0x4F ∷ 0x04 ∷ 0x00 ∷ 0x4F ∷ 0x05 ∷ 0x00 ∷ 0x4F ∷ 0x06 ∷ 0x00 ∷ 0x4F ∷ 0x07 ∷ 0x00 ∷ 0x4F ∷ 0x09 ∷ 0x00 ∷ 0x4F ∷ 0x0A ∷ 0x00 ∷ 0x4F ∷ 0x0C ∷ 0x00 ∷ 0x4F ∷ 0x0D ∷ 0x00 ∷ 0x4F ∷ 0x0E ∷ 0x00 ∷ 0x4F ∷ 0x0F ∷ 0x00 ∷ 0x45 ∷ 0x0A ∷ 0x00 ∷ []) (
    118 ∷ 97 ∷ 114 ∷ 105 ∷ 97 ∷ 98 ∷ 108 ∷ 101 ∷ 115 ∷ 32 ∷ 52 ∷ 10 ∷
    111 ∷ 110 ∷ 32 ∷ 49 ∷ 48 ∷ 32 ∷ 102 ∷ 114 ∷ 101 ∷ 101 ∷ 32 ∷ 48 ∷ 10 ∷
    100 ∷ 101 ∷ 103 ∷ 114 ∷ 101 ∷ 101 ∷ 32 ∷ 49 ∷ 10 ∷
    99 ∷ 97 ∷ 110 ∷ 111 ∷ 110 ∷ 105 ∷ 99 ∷ 97 ∷ 108 ∷ 32 ∷ 51 ∷ 10 ∷
    121 ∷ 49 ∷ 32 ∷ 61 ∷ 32 ∷ 120 ∷ 49 ∷ 10 ∷
    121 ∷ 50 ∷ 32 ∷ 61 ∷ 32 ∷ 120 ∷ 50 ∷ 10 ∷
    121 ∷ 51 ∷ 32 ∷ 61 ∷ 32 ∷ 120 ∷ 51 ∷ 32 ∷ 43 ∷ 32 ∷ 120 ∷ 52 ∷ 10 ∷
    114 ∷ 101 ∷ 115 ∷ 116 ∷ 114 ∷ 105 ∷ 99 ∷ 116 ∷ 105 ∷ 111 ∷ 110 ∷ 32 ∷ 50 ∷ 32 ∷ 51 ∷ 32 ∷ 53 ∷ 32 ∷ 54 ∷ 32 ∷ 55 ∷ 10 ∷
    112 ∷ 114 ∷ 111 ∷ 100 ∷ 117 ∷ 99 ∷ 116 ∷ 32 ∷ 120 ∷ 50 ∷ 61 ∷ 49 ∷ 10 ∷
    112 ∷ 114 ∷ 111 ∷ 100 ∷ 117 ∷ 99 ∷ 116 ∷ 32 ∷ 120 ∷ 49 ∷ 43 ∷ 120 ∷ 50 ∷ 61 ∷ 49 ∷ 32 ∷ 120 ∷ 49 ∷ 43 ∷ 120 ∷ 51 ∷ 43 ∷ 120 ∷ 52 ∷ 61 ∷ 48 ∷ 10 ∷ []) ∷
    -- P8
    example (0x4E ∷ 0x02 ∷ 0x4F ∷ 0x00 ∷ 0x00 ∷ 0x44 ∷ 0x01 ∷ 0x00 ∷ 0x44 ∷ 0x02 ∷ 0x00 ∷ 0x45 ∷ 0x03 ∷ 0x00 ∷ []) (
    118 ∷ 97 ∷ 114 ∷ 105 ∷ 97 ∷ 98 ∷ 108 ∷ 101 ∷ 115 ∷ 32 ∷ 50 ∷ 10 ∷
    111 ∷ 110 ∷ 32 ∷ 49 ∷ 32 ∷ 102 ∷ 114 ∷ 101 ∷ 101 ∷ 32 ∷ 50 ∷ 10 ∷
    100 ∷ 101 ∷ 103 ∷ 114 ∷ 101 ∷ 101 ∷ 32 ∷ 49 ∷ 10 ∷
    99 ∷ 97 ∷ 110 ∷ 111 ∷ 110 ∷ 105 ∷ 99 ∷ 97 ∷ 108 ∷ 32 ∷ 50 ∷ 10 ∷
    121 ∷ 49 ∷ 32 ∷ 61 ∷ 32 ∷ 120 ∷ 49 ∷ 10 ∷
    114 ∷ 101 ∷ 115 ∷ 116 ∷ 114 ∷ 105 ∷ 99 ∷ 116 ∷ 105 ∷ 111 ∷ 110 ∷ 32 ∷ 48 ∷ 10 ∷
    112 ∷ 114 ∷ 111 ∷ 100 ∷ 117 ∷ 99 ∷ 116 ∷ 32 ∷ 120 ∷ 49 ∷ 61 ∷ 48 ∷ 10 ∷ []) ∷
    -- No variables
    example (0x4E ∷ 0x00 ∷ 0x45 ∷ 0x00 ∷ 0x00 ∷ []) (
    114 ∷ 101 ∷ 102 ∷ 117 ∷ 115 ∷ 101 ∷ 100 ∷ 32 ∷ 49 ∷ 10 ∷ []) ∷
    -- Point 95 in a table of one variable
    example (0x4E ∷ 0x01 ∷ 0x44 ∷ 0x5F ∷ 0x00 ∷ 0x44 ∷ 0x01 ∷ 0x00 ∷ 0x45 ∷ 0x02 ∷ 0x00 ∷ []) (
    114 ∷ 101 ∷ 102 ∷ 117 ∷ 115 ∷ 101 ∷ 100 ∷ 32 ∷ 50 ∷ 10 ∷ []) ∷
    -- Points that fall
    example (0x4E ∷ 0x02 ∷ 0x4F ∷ 0x02 ∷ 0x00 ∷ 0x44 ∷ 0x01 ∷ 0x00 ∷ 0x45 ∷ 0x02 ∷ 0x00 ∷ []) (
    114 ∷ 101 ∷ 102 ∷ 117 ∷ 115 ∷ 101 ∷ 100 ∷ 32 ∷ 51 ∷ 10 ∷ []) ∷
    []

reports : map (λ e. report_text e.table) examples ≡ map (λ e. e.text) examples
unfolding examples example flat_map bit halvings lead holds all select odd_in odd reduce clear reduces irreducible reduced_basis is_lead places_at has_place first_fault first_place stored_place bad_count outside not_above unordered head_of walk_by walked record_marks marked_points closed linear_space degree all_on spaces_of spaces_from largest closes closure_set largest_space spread simply_completed completed equation equations number project clean restriction keep spans points_of bases candidates_of candidates_from candidates every_point some_point cannot_grow is_prime place_factor canonical_product substitute_mask substitute_factor substitute_product primes_of covered first_holding taken_for taken_through chosen written_product form_of written_form form_size_fault decimal_in decimal spaced names number_line fault_line counts_line numbers_line variables_text equation_line equation_lines factor_text product_line product_lines space_text form_text table_text report_text degree_line is_simple
reports = refl
