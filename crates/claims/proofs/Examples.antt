-- Document 01, "Table of proved examples": P1 to P9, the primes of P8's table for document 02, No. 6, and three tables more for No. 4, in one table under
-- one statement, computed from the answers and rooms that the contracts of the public calls name; and a run of calls for No. 5.
use mathlib.Core.Path.{◌≡◌, refl}
use mathlib.Core.List.{List, [], ◌∷◌, map, flat_map}
use Prim.Native.Nat.{ℕ}
use lib.ListN.{take, get_or, replicate}
use Rattle.gf2.specs.Bits.{bit, halvings, lead}
use Rattle.gf2.specs.Finite.{holds, all, select}
use Rattle.gf2.specs.Parity.{odd_in, odd}
use Rattle.gf2.specs.Basis.{clear, reduce, place, join, insert, inserts, reduces, irreducible, reduced_basis, is_lead, places_at}
use Rattle.basis.specs.Short.{listed}
use Rattle.basis.specs.Reduced.{vectors_of}
use Rattle.table.specs.Refusal.{first_fault, first_place}
use Rattle.table.specs.Table.{table_tests, bad_count, outside, not_above, unordered, shared}
use Rattle.records.specs.Kinds.{head_of}
use Rattle.records.specs.Walks.{walk_by}
use Rattle.subspaces.specs.Spaces.{spaces_of, spaces_from, largest}
use Rattle.closure_set.specs.ClosureSet.{closes, closure_set, largest_space, spread}
use Rattle.space.specs.Closure.{closed, linear_space, degree}
use Rattle.space.specs.Completion.{all_on, simply_completed, completed, completed_points}
use Rattle.space.specs.Restriction.{equation, equations, number, project, clean, restriction}
use Rattle.space.specs.Affine.{directions, least_point, projection}
use Rattle.product.specs.Lowest.{even_halvings, lowest}
use Rattle.product.specs.Product.{factor_at, product_at, fits, apart_masks, apart, agrees}
use Rattle.form.specs.Encoding.{encode_factors, encode_products, encode_form}
use Rattle.form.specs.Decoding.{parts_from}
use Rattle.form.specs.Walk.{walked_form, walked_product}
use Rattle.cubes.specs.Lists.{keep}
use Rattle.cubes.specs.Cubes.{spans, points_of}
use Rattle.cubes.specs.Candidates.{bases, candidates_of, candidates_from, candidates}
use Rattle.cubes.specs.Primes.{every_point, some_point, cannot_grow, is_prime}
use Rattle.cubes.specs.Records.{candidate_bytes, on_count, record_of}
use Rattle.cubes.specs.Listing.{listing_fault, passage, listing_by, listing_answer, listing_answer_by, listing_after_by}
use Rattle.cubes.specs.Calls.{handed_over}
use Rattle.listing.specs.Answers.{call_of}
use Rattle.cover.specs.CanonicalProduct.{place_factor, canonical_product}
use Rattle.cover.specs.Substitution.{substitute_mask, substitute_factor, substitute_product}
use Rattle.cover.specs.Choice.{primes_of, covered, first_holding, taken_for, taken_through, chosen}
use Rattle.cover.specs.WrittenForm.{written_product, form_of, written_form, form_size_fault}
use Rattle.writing.specs.Writing.{form_bytes, write_answer, write_after}
use Rattle.analysis.specs.Spaces.{complete_answer, complete_after, analyse_answer, analyse_after}
use Rattle.analysis.specs.Affine.{affine_answer, affine_after}
use Rattle.index.specs.declared.PointRecord.{PointRecord}
use Rattle.index.specs.Records.{point_record, no_record, holders, first_from, tabulate, form_index, same_record, agrees_upto}
use Rattle.index.specs.Changes.{map_first}
use Rattle.index.specs.Answers.{build_answer, build_after, appended_bytes, append_answer, append_after, append_list_after, removed_bytes, remove_answer, remove_after, remove_list_after}
use Rattle.claims.specs.Indexed.{Kept, Changing, appending, removing, numbers_returned, built, kept_by}

-- ---- what the calls are asked, and what they reply

-- Rooms that are longer than every answer below.
abbrev pub point_room : List ℕ
point_room = replicate 16 0

abbrev pub byte_room : List ℕ
byte_room = replicate 64 0

-- A call of each kind, on n variables with these on points and these free points; a listing call also with a place. Its allowance is 99 candidates.
pub data Question : Type 0 where
  complete : (n : ℕ) (on free : List ℕ) → Question
  analyse : (n : ℕ) (on free : List ℕ) → Question
  affine : (n : ℕ) (on : List ℕ) → Question
  write_form : (n : ℕ) (on free : List ℕ) → Question
  list_primes : (n : ℕ) (on free : List ℕ) (place : ℕ) → Question

-- The numbers returned and the list handed over: as much of the front of the room as was counted.
pub data Reply : Type 0 where
  completion : (refusal degree k0 k1 : ℕ) (points : List ℕ) → Reply
  analysis : (refusal degree : ℕ) (basis canonical equations restriction : List ℕ) → Reply
  space : (refusal least dimension : ℕ) (basis projection : List ℕ) → Reply
  form : (refusal products : ℕ) (bytes : List ℕ) → Reply
  records : (refusal next passed count : ℕ) (bytes : List ℕ) → Reply

pub reply : Question → Reply
reply (complete n on free) =
    let r = complete_answer n on free point_room in completion r.refusal r.degree r.k0 r.k1 (take r.count (complete_after n on free point_room))
reply (analyse n on free) =
    let r = analyse_answer n on free point_room in
    analysis r.refusal r.degree (vectors_of r.basis) (listed r.canonical) (listed r.equations) (take r.count (analyse_after n on free point_room))
reply (affine n on) =
    let r = affine_answer n on point_room in space r.refusal r.least r.dimension (vectors_of r.basis) (take r.count (affine_after n on point_room))
reply (write_form n on free) =
    let r = write_answer n on free byte_room in form r.refusal r.products (take r.length (write_after n on free byte_room))
reply (list_primes n on free place) =
    let c = call_of n on free place 99 byte_room in
    let r = listing_answer c in
    records r.refusal r.next r.passed r.records (handed_over c)

pub record Example : Type 0 where
  pub asked : Question
  pub expected : Reply

pub example : Question → Reply → Example
example asked expected = record { asked = asked; expected = expected }

-- ---- the table

-- The on points of P5, and the bytes of its form.
pub five : List ℕ
five = 4 ∷ 5 ∷ 6 ∷ 7 ∷ 9 ∷ 10 ∷ 12 ∷ 13 ∷ 14 ∷ 15 ∷ []

pub five_form : List ℕ
five_form = 0x4E ∷ 0x04 ∷ 0x50 ∷ 0x58 ∷ 0x01 ∷ 0x04 ∷ 0x00 ∷ 0x50 ∷ 0x58 ∷ 0x01 ∷ 0x0C ∷ 0x00 ∷ 0x58 ∷ 0x00 ∷ 0x0B ∷ 0x00 ∷ 0x45 ∷ 0x02 ∷ 0x00 ∷ []

-- The records of P6: degree, least point and the basis vectors, unused bytes 0; then the number of on points (document 02, No. 6).
pub six_records : List ℕ
six_records =
    2 ∷ 2 ∷ 1 ∷ 4 ∷ 0 ∷ 0 ∷ 0 ∷ 0 ∷ 4 ∷ (1 ∷ 2 ∷ 7 ∷ 0 ∷ 0 ∷ 0 ∷ 0 ∷ 0 ∷ 2 ∷ (1 ∷ 3 ∷ 6 ∷ 0 ∷ 0 ∷ 0 ∷ 0 ∷ 0 ∷ 2
    ∷ (1 ∷ 5 ∷ 2 ∷ 0 ∷ 0 ∷ 0 ∷ 0 ∷ 0 ∷ 2 ∷ (1 ∷ 5 ∷ 3 ∷ 0 ∷ 0 ∷ 0 ∷ 0 ∷ 0 ∷ 2 ∷ []))))

-- P1 to P9, in order, P8 with document 02's answers; then the table of source 003, Examples 3 and 4; one with closure set 0 1 2 4 6, in which a space
-- that grows by its least vector ends with one dimension; and one with 0 1 2 4 6 7, where bases compared from their last vector would give 2 4.
pub examples : List Example
examples =
    example (analyse 1 [] []) (analysis 0 1 (1 ∷ []) (1 ∷ []) [] [])
    ∷ example (write_form 1 [] []) (form 0 0 (0x4E ∷ 0x01 ∷ 0x45 ∷ 0x00 ∷ 0x00 ∷ []))
    ∷ example (analyse 1 (0 ∷ []) []) (analysis 0 0 [] [] (1 ∷ []) (0 ∷ []))
    ∷ example (analyse 1 (0 ∷ 1 ∷ []) []) (analysis 0 1 (1 ∷ []) (1 ∷ []) [] (0 ∷ []))
    ∷ example (write_form 1 (0 ∷ 1 ∷ []) []) (form 0 1 (0x4E ∷ 0x01 ∷ 0x50 ∷ 0x45 ∷ 0x01 ∷ 0x00 ∷ []))
    ∷ example (analyse 3 (1 ∷ 2 ∷ 4 ∷ 7 ∷ []) []) (analysis 0 2 (3 ∷ 5 ∷ []) (1 ∷ 2 ∷ []) (7 ∷ []) (1 ∷ []))
    ∷ example (list_primes 3 (1 ∷ 2 ∷ 4 ∷ 7 ∷ []) [] 0) (records 0 51 51 1 (2 ∷ 1 ∷ 3 ∷ 5 ∷ 0 ∷ 0 ∷ 0 ∷ 0 ∷ 4 ∷ []))
    ∷ example (analyse 4 five []) (analysis 0 1 (3 ∷ []) (3 ∷ []) (8 ∷ 4 ∷ 3 ∷ []) (2 ∷ 3 ∷ 5 ∷ 6 ∷ 7 ∷ []))
    ∷ example (write_form 4 five []) (form 0 2 five_form)
    ∷ example (list_primes 3 (2 ∷ 3 ∷ 5 ∷ 6 ∷ 7 ∷ []) [] 0) (records 0 51 51 5 six_records)
    ∷ example (affine 4 (2 ∷ 4 ∷ 6 ∷ 11 ∷ 13 ∷ [])) (space 0 0 3 (2 ∷ 4 ∷ 9 ∷ []) (1 ∷ 2 ∷ 3 ∷ 5 ∷ 6 ∷ []))
    ∷ example (complete 2 (0 ∷ []) (1 ∷ 2 ∷ [])) (completion 0 1 0 0 (0 ∷ 1 ∷ []))
    ∷ example (analyse 2 (0 ∷ []) (1 ∷ 2 ∷ [])) (analysis 0 1 (1 ∷ []) (2 ∷ []) (2 ∷ []) (0 ∷ []))
    ∷ example (write_form 2 (0 ∷ []) (1 ∷ 2 ∷ [])) (form 0 1 (0x4E ∷ 0x02 ∷ 0x50 ∷ 0x58 ∷ 0x00 ∷ 0x02 ∷ 0x00 ∷ 0x45 ∷ 0x01 ∷ 0x00 ∷ []))
    ∷ example (list_primes 2 (0 ∷ []) (1 ∷ 2 ∷ []) 0) (records 0 11 11 2 (1 ∷ 0 ∷ 1 ∷ 0 ∷ 0 ∷ 0 ∷ 0 ∷ 0 ∷ 1 ∷ (1 ∷ 0 ∷ 2 ∷ 0 ∷ 0 ∷ 0 ∷ 0 ∷ 0 ∷ 1 ∷ [])))
    ∷ example (list_primes 2 [] (0 ∷ []) 0) (records 0 11 11 0 [])
    ∷ example (list_primes 2 [] (0 ∷ []) 11) (records 0 11 0 0 [])
    ∷ example (list_primes 2 [] (0 ∷ []) 12) (records 9 0 0 0 [])
    ∷ example (analyse 4 five (0 ∷ 1 ∷ 2 ∷ 3 ∷ 11 ∷ [])) (analysis 0 2 (3 ∷ 8 ∷ []) (1 ∷ 3 ∷ []) (4 ∷ 3 ∷ []) (1 ∷ 2 ∷ 3 ∷ []))
    ∷ example (complete 3 (0 ∷ []) (1 ∷ 2 ∷ 4 ∷ 6 ∷ [])) (completion 0 2 0 0 (0 ∷ 2 ∷ 4 ∷ 6 ∷ []))
    ∷ example (complete 3 (0 ∷ []) (1 ∷ 2 ∷ 4 ∷ 6 ∷ 7 ∷ [])) (completion 0 2 0 1 (0 ∷ 1 ∷ 6 ∷ 7 ∷ []))
    ∷ []

-- Each reply is the one expected.
pub computed : map (λ e. reply e.asked) examples ≡ map (λ e. e.expected) examples
unfolding examples example five five_form six_records reply complete_answer complete_after analyse_answer analyse_after affine_answer affine_after handed_over write_answer write_after form_bytes form_size_fault completed_points holds all select bit halvings lead odd_in odd clear reduce place join insert inserts reduces irreducible reduced_basis is_lead places_at first_fault table_tests bad_count outside not_above unordered shared spaces_of spaces_from largest closes closure_set largest_space spread closed linear_space degree all_on simply_completed completed equation equations number project clean restriction directions least_point projection encode_factors encode_products encode_form flat_map keep spans points_of bases candidates_of candidates_from candidates every_point some_point cannot_grow is_prime candidate_bytes on_count record_of listing_fault passage listing_by listing_answer_by listing_after_by place_factor canonical_product substitute_mask substitute_factor substitute_product primes_of covered first_holding taken_for taken_through chosen written_product form_of written_form
computed = refl

-- ---- an index kept by calls (document 02, No. 5)

-- A form of two variables whose product holds points 1 and 3, and a list of five records, one more than it has points.
pub one_product : List ℕ
one_product = 0x4E ∷ 0x02 ∷ 0x50 ∷ 0x58 ∷ 0x01 ∷ 0x01 ∷ 0x00 ∷ 0x45 ∷ 0x01 ∷ 0x00 ∷ []

pub unused : List PointRecord
unused = replicate 5 (point_record 7 7)

-- A product that holds 2 and 3 is appended, one whose mask is missing is refused, the last is taken away without room, then with it, then the first, and
-- then there is none. What is handed on after three, four, five and six calls.
pub calls : List Changing
calls =
    appending (0x50 ∷ 0x58 ∷ 0x01 ∷ 0x02 ∷ 0x00 ∷ []) byte_room
    ∷ appending (0x50 ∷ 0x58 ∷ 0x01 ∷ []) byte_room
    ∷ removing []
    ∷ removing byte_room
    ∷ removing byte_room
    ∷ removing byte_room
    ∷ []

abbrev pub left_after : ℕ → Kept
left_after k = kept_by (built one_product unused) (take k calls)

abbrev pub kept : List ℕ → List PointRecord → Kept
kept bytes list = record { form = bytes; list = list }

pub kept-computed :
    (left_after 3 ≡ kept (0x4E ∷ 0x02 ∷ 0x50 ∷ 0x58 ∷ 0x01 ∷ 0x01 ∷ 0x00 ∷ 0x50 ∷ 0x58 ∷ 0x01 ∷ 0x02 ∷ 0x00 ∷ 0x45 ∷ 0x02 ∷ 0x00 ∷ [])
    (no_record ∷ point_record 1 0 ∷ point_record 1 1 ∷ point_record 2 0 ∷ point_record 7 7 ∷ []))
    × (left_after 4 ≡ built one_product unused)
    × (left_after 5 ≡ kept (0x4E ∷ 0x02 ∷ 0x45 ∷ 0x00 ∷ 0x00 ∷ []) (no_record ∷ no_record ∷ no_record ∷ no_record ∷ point_record 7 7 ∷ []))
    × (left_after 6 ≡ left_after 5)
    × (map (λ k. (numbers_returned (left_after k) (get_or calls k (removing []))).refusal) (0 ∷ 1 ∷ 2 ∷ 3 ∷ 4 ∷ 5 ∷ []) ≡ 0 ∷ 21 ∷ 7 ∷ 0 ∷ 0 ∷ 12 ∷ [])
unfolding one_product unused calls kept_by walked_form walked_product walk_by head_of bad_count fits agrees apart apart_masks lowest even_halvings bit halvings odd_in odd all first_fault first_place factor_at product_at encode_factors encode_products encode_form parts_from holders first_from tabulate form_index same_record agrees_upto map_first build_answer build_after appended_bytes append_answer append_after append_list_after removed_bytes remove_answer remove_after remove_list_after
kept-computed = (refl, refl, refl, refl, refl)
