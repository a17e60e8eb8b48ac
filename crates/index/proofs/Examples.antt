-- A form of two variables through the calls, computed from the definitions: its products hold the points 2 and 3, and 1 and 3. The product without factors is
-- appended and taken away; and each refusal of a list, of a product and of the number of products. Read next: crate `claims`.
use mathlib.Core.Path.{◌≡◌, refl}
use mathlib.Core.List.{List, [], ◌∷◌, ◌++◌}
use Prim.Native.Nat.{ℕ}
use lib.ListN.{replicate}
use Rattle.gf2.specs.Bits.{bit, halvings}
use Rattle.gf2.specs.Finite.{all}
use Rattle.gf2.specs.Parity.{odd_in, odd}
use Rattle.table.specs.Refusal.{first_fault, first_place}
use Rattle.table.specs.Table.{bad_count}
use Rattle.records.specs.Kinds.{head_of}
use Rattle.records.specs.Walks.{walk_by}
use Rattle.product.specs.Lowest.{even_halvings, lowest}
use Rattle.product.specs.Product.{factor_at, product_at, fits, apart_masks, apart, agrees}
use Rattle.form.specs.Encoding.{encode_factors, encode_products, encode_form}
use Rattle.form.specs.Decoding.{parts_from}
use Rattle.form.specs.Walk.{walked_form, walked_product}
use Rattle.index.specs.declared.PointRecord.{PointRecord}
use Rattle.index.specs.Records.{point_record, no_record, holders, first_from, tabulate, form_index, same_record, agrees_upto}
use Rattle.index.specs.Changes.{map_first}
use Rattle.index.specs.Answers.{build_answer, build_after, appended_bytes, append_answer, append_after, append_list_after, removed_bytes, remove_answer, remove_after, remove_list_after, index_refused}

-- The form, and the form with a product without factors as its last.
abbrev two : List ℕ
two = 0x4E ∷ 0x02 ∷ 0x50 ∷ 0x58 ∷ 0x01 ∷ 0x02 ∷ 0x00 ∷ 0x50 ∷ 0x58 ∷ 0x01 ∷ 0x01 ∷ 0x00 ∷ 0x45 ∷ 0x02 ∷ 0x00 ∷ []

abbrev three : List ℕ
three = 0x4E ∷ 0x02 ∷ 0x50 ∷ 0x58 ∷ 0x01 ∷ 0x02 ∷ 0x00 ∷ 0x50 ∷ 0x58 ∷ 0x01 ∷ 0x01 ∷ 0x00 ∷ 0x50 ∷ 0x45 ∷ 0x03 ∷ 0x00 ∷ []

-- A record past the four points of the form, and lists that end with it: one that is lent, and those that begin with the index of each form.
abbrev past : PointRecord
past = point_record 7 7

abbrev lent_list : List PointRecord
lent_list = replicate 5 past

abbrev of_two : List PointRecord
of_two = no_record ∷ point_record 1 1 ∷ point_record 1 0 ∷ point_record 2 0 ∷ past ∷ []

abbrev of_three : List PointRecord
of_three = point_record 1 2 ∷ point_record 2 1 ∷ point_record 2 0 ∷ point_record 3 0 ∷ past ∷ []

abbrev room : List ℕ
room = replicate 18 0x09

-- A form of so many products without factors, of one variable, and its index.
abbrev empties : ℕ → List ℕ
empties count = 0x4E ∷ 0x01 ∷ (replicate count 0x50 ++ (0x45 ∷ count ∷ 0x00 ∷ []))

record Examples : Type 0 where
  built : build_answer two lent_list ≡ record { refusal = 0; place = 0; variables = 2; length = 15; products = 2 }
  built-list : build_after two lent_list ≡ of_two
  appended : append_answer two (0x50 ∷ []) of_two room ≡ record { refusal = 0; place = 0; variables = 2; length = 16; products = 3 }
  appended-room : append_after two (0x50 ∷ []) of_two room ≡ three ++ (0x09 ∷ 0x09 ∷ [])
  appended-list : append_list_after two (0x50 ∷ []) of_two room ≡ of_three
  removed : remove_answer three of_three room ≡ record { refusal = 0; place = 0; variables = 2; length = 15; products = 2 }
  removed-room : remove_after three of_three room ≡ two ++ (0x09 ∷ 0x09 ∷ 0x09 ∷ [])
  removed-list : remove_list_after three of_three room ≡ of_two
  -- The list is short; its records are those of another form; both room and list stay.
  short-list : build_answer two (no_record ∷ no_record ∷ no_record ∷ []) ≡ index_refused 0 7
  other-list : append_answer two (0x50 ∷ []) of_three room ≡ index_refused 0 17
  other-list-stays : append_list_after two (0x50 ∷ []) of_three room ≡ of_three
  -- A product whose constant is 2 at its byte 2; a 65th product; none to take away; a byte of room short.
  wrong-product : append_answer two (0x50 ∷ 0x58 ∷ 0x02 ∷ 0x01 ∷ 0x00 ∷ []) of_two room ≡ index_refused 2 23
  many-products : append_answer (empties 64) (0x50 ∷ []) (replicate 2 (point_record 64 0)) (replicate 80 0x09) ≡ index_refused 0 27
  no-products : remove_answer (empties 0) (replicate 2 no_record) room ≡ index_refused 0 12
  short-room : remove_answer three of_three (replicate 14 0x09) ≡ index_refused 0 7
  short-room-stays : remove_list_after three of_three (replicate 14 0x09) ≡ of_three

examples : Examples
unfolding walked_form walked_product walk_by head_of bad_count fits agrees apart apart_masks lowest even_halvings bit halvings odd_in odd all first_fault first_place factor_at product_at encode_factors encode_products encode_form parts_from holders first_from tabulate form_index same_record agrees_upto map_first build_answer build_after appended_bytes append_answer append_after append_list_after removed_bytes remove_answer remove_after remove_list_after
examples = record {
  built = refl;
  built-list = refl;
  appended = refl;
  appended-room = refl;
  appended-list = refl;
  removed = refl;
  removed-room = refl;
  removed-list = refl;
  short-list = refl;
  other-list = refl;
  other-list-stays = refl;
  wrong-product = refl;
  many-products = refl;
  no-products = refl;
  short-room = refl;
  short-room-stays = refl;
}
