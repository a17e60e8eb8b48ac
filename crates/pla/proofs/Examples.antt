-- Worked examples, computed: a text of each type with its stored table, one text for each refusal with the line at fault, and a room that is short.
use mathlib.Core.Path.{◌≡◌, refl}
use mathlib.Core.List.{List, [], ◌∷◌, ◌++◌}
use Prim.Native.Nat.{ℕ}
use lib.ListN.{length, replicate}
use Rattle.gf2.specs.Bits.{bit}
use Rattle.gf2.specs.Finite.{all}
use Rattle.table.specs.Refusal.{first_fault}
use Rattle.table.specs.Table.{bad_count}
use Rattle.stored.specs.Encoding.{encode_marks, encode_table}
use Rattle.pla_text.specs.Numbers.{with_digit, number_from}
use Rattle.pla_text.specs.Statements.{type_of, end_of, operand_of, directive_of, statement_of}
use Rattle.pla_cubes.specs.Cubes.{is_cube, covers, says}
use Rattle.pla_cubes.specs.Meaning.{free_by, contradicts}
use Rattle.pla_lines.specs.Lines.{line_fault, head_after}
use Rattle.pla_lines.specs.Reading.{read_content, read_from, read_text}
use Rattle.pla.specs.Table.{mark_of, marks_below, stored_table}
use Rattle.pla.specs.Answer.{PlaRead, text_tests, pla_answer, pla_after}

-- The room of the examples.
abbrev room : List ℕ
room = replicate 40 7

-- What an accepted and a refused call answer.
abbrev accepted : List ℕ → PlaRead
accepted table = record { refusal = 0; line = 0; length = length table }

abbrev refused : ℕ → ℕ → PlaRead
refused number line = record { refusal = number; line = line; length = 0 }

-- .i 4\n.o 1\n.type f\n.p 4 # four cubes\n01-- 1\n1001 1\n1010 1\n\n11 - -\t1\r\n.e\n
abbrev five-text : List ℕ
five-text = 46 ∷ 105 ∷ 32 ∷ 52 ∷ 10 ∷ 46 ∷ 111 ∷ 32 ∷ 49 ∷ 10 ∷ 46 ∷ 116 ∷ 121 ∷ 112 ∷ 101 ∷ 32 ∷ 102 ∷ 10 ∷ 46 ∷ 112 ∷ 32 ∷ 52 ∷ 32 ∷ 35 ∷ 32 ∷ 102 ∷ 111 ∷ 117 ∷ 114 ∷ 32 ∷ 99 ∷ 117 ∷ 98 ∷ 101 ∷ 115 ∷ 10 ∷ 48 ∷ 49 ∷ 45 ∷ 45 ∷ 32 ∷ 49 ∷ 10 ∷ 49 ∷ 48 ∷ 48 ∷ 49 ∷ 32 ∷ 49 ∷ 10 ∷ 49 ∷ 48 ∷ 49 ∷ 48 ∷ 32 ∷ 49 ∷ 10 ∷ 10 ∷ 49 ∷ 49 ∷ 32 ∷ 45 ∷ 32 ∷ 45 ∷ 9 ∷ 49 ∷ 13 ∷ 10 ∷ 46 ∷ 101 ∷ 10 ∷ []

-- .i 2\n.o 2\n.type fr\n00 01\n01 10\n1- ~-
abbrev off-and-on-text : List ℕ
off-and-on-text = 46 ∷ 105 ∷ 32 ∷ 50 ∷ 10 ∷ 46 ∷ 111 ∷ 32 ∷ 50 ∷ 10 ∷ 46 ∷ 116 ∷ 121 ∷ 112 ∷ 101 ∷ 32 ∷ 102 ∷ 114 ∷ 10 ∷ 48 ∷ 48 ∷ 32 ∷ 48 ∷ 49 ∷ 10 ∷ 48 ∷ 49 ∷ 32 ∷ 49 ∷ 48 ∷ 10 ∷ 49 ∷ 45 ∷ 32 ∷ 126 ∷ 45 ∷ []

-- .i 2\n.o 1\n-0 1\n0- -\n.end
abbrev on-wins-text : List ℕ
on-wins-text = 46 ∷ 105 ∷ 32 ∷ 50 ∷ 10 ∷ 46 ∷ 111 ∷ 32 ∷ 49 ∷ 10 ∷ 45 ∷ 48 ∷ 32 ∷ 49 ∷ 10 ∷ 48 ∷ 45 ∷ 32 ∷ 45 ∷ 10 ∷ 46 ∷ 101 ∷ 110 ∷ 100 ∷ []

abbrev five-table : List ℕ
five-table = 78 ∷ 4 ∷ 79 ∷ 4 ∷ 0 ∷ 79 ∷ 5 ∷ 0 ∷ 79 ∷ 6 ∷ 0 ∷ 79 ∷ 7 ∷ 0 ∷ 79 ∷ 9 ∷ 0 ∷ 79 ∷ 10 ∷ 0 ∷ 79 ∷ 12 ∷ 0 ∷ 79 ∷ 13 ∷ 0 ∷ 79 ∷ 14 ∷ 0 ∷ 79 ∷ 15 ∷ 0 ∷ 69 ∷ 10 ∷ 0 ∷ []

abbrev off-and-on-table : List ℕ
off-and-on-table = 78 ∷ 2 ∷ 79 ∷ 0 ∷ 0 ∷ 68 ∷ 2 ∷ 0 ∷ 68 ∷ 3 ∷ 0 ∷ 69 ∷ 3 ∷ 0 ∷ []

abbrev first-output-table : List ℕ
first-output-table = 78 ∷ 2 ∷ 79 ∷ 1 ∷ 0 ∷ 68 ∷ 2 ∷ 0 ∷ 68 ∷ 3 ∷ 0 ∷ 69 ∷ 3 ∷ 0 ∷ []

abbrev on-wins-table : List ℕ
on-wins-table = 78 ∷ 2 ∷ 79 ∷ 0 ∷ 0 ∷ 68 ∷ 1 ∷ 0 ∷ 79 ∷ 2 ∷ 0 ∷ 69 ∷ 3 ∷ 0 ∷ []

pub record Examples : Type 0 where
  -- Document 01's P5, with dashes, blanks and a comment.
  pub five : pla_answer five-text 1 room ≡ accepted five-table
  pub five-room : pla_after five-text 1 room ≡ five-table ++ replicate 5 7
  -- Type fr, second output: 0 is on, 1 is off, what no cube speaks of is free.
  pub off-and-on : pla_answer off-and-on-text 2 room ≡ accepted off-and-on-table
  pub off-and-on-room : pla_after off-and-on-text 2 room ≡ off-and-on-table ++ replicate 26 7
  -- The same, first output: 0 is off, 1 is on.
  pub first-output : pla_answer off-and-on-text 1 room ≡ accepted first-output-table
  pub first-output-room : pla_after off-and-on-text 1 room ≡ first-output-table ++ replicate 26 7
  -- Type fd, which needs no type: 0 is on and free, so on; 1 is free; 2 is on.
  pub on-wins : pla_answer on-wins-text 1 room ≡ accepted on-wins-table
  pub on-wins-room : pla_after on-wins-text 1 room ≡ on-wins-table ++ replicate 26 7
  -- A room of the exact length, and one byte short.
  pub fits : pla_after on-wins-text 1 (replicate 14 7) ≡ on-wins-table
  pub short : pla_answer on-wins-text 1 (replicate 13 7) ≡ refused 7 0
  pub short-room : pla_after on-wins-text 1 (replicate 13 7) ≡ replicate 13 7
  -- Refusals, each with its line.
  -- .i 2\n.o 1\n.phase 1\n
  pub unknown : pla_answer (46 ∷ 105 ∷ 32 ∷ 50 ∷ 10 ∷ 46 ∷ 111 ∷ 32 ∷ 49 ∷ 10 ∷ 46 ∷ 112 ∷ 104 ∷ 97 ∷ 115 ∷ 101 ∷ 32 ∷ 49 ∷ 10 ∷ []) 1 room ≡ refused 31 3
  -- .i 2\n.o 1\n.type r\n
  pub not-a-type : pla_answer (46 ∷ 105 ∷ 32 ∷ 50 ∷ 10 ∷ 46 ∷ 111 ∷ 32 ∷ 49 ∷ 10 ∷ 46 ∷ 116 ∷ 121 ∷ 112 ∷ 101 ∷ 32 ∷ 114 ∷ 10 ∷ []) 1 room ≡ refused 31 3
  -- # a\n.i\n
  pub no_operand : pla_answer (35 ∷ 32 ∷ 97 ∷ 10 ∷ 46 ∷ 105 ∷ 10 ∷ []) 1 room ≡ refused 31 2
  -- .i 13\n
  pub thirteen-inputs : pla_answer (46 ∷ 105 ∷ 32 ∷ 49 ∷ 51 ∷ 10 ∷ []) 1 room ≡ refused 32 1
  -- .i 2\n.o 0\n
  pub no-outputs : pla_answer (46 ∷ 105 ∷ 32 ∷ 50 ∷ 10 ∷ 46 ∷ 111 ∷ 32 ∷ 48 ∷ 10 ∷ []) 1 room ≡ refused 33 2
  -- .i 2\n.o 4097\n
  pub many-outputs : pla_answer (46 ∷ 105 ∷ 32 ∷ 50 ∷ 10 ∷ 46 ∷ 111 ∷ 32 ∷ 52 ∷ 48 ∷ 57 ∷ 55 ∷ 10 ∷ []) 1 room ≡ refused 33 2
  -- .i 2\n.i 2\n
  pub inputs-twice : pla_answer (46 ∷ 105 ∷ 32 ∷ 50 ∷ 10 ∷ 46 ∷ 105 ∷ 32 ∷ 50 ∷ 10 ∷ []) 1 room ≡ refused 34 2
  -- .i 1\n.o 1\n1 1\n.type f\n
  pub type-after-cube : pla_answer (46 ∷ 105 ∷ 32 ∷ 49 ∷ 10 ∷ 46 ∷ 111 ∷ 32 ∷ 49 ∷ 10 ∷ 49 ∷ 32 ∷ 49 ∷ 10 ∷ 46 ∷ 116 ∷ 121 ∷ 112 ∷ 101 ∷ 32 ∷ 102 ∷ 10 ∷ []) 1 room ≡ refused 34 4
  -- 1 1\n.i 1\n.o 1\n
  pub cube-first : pla_answer (49 ∷ 32 ∷ 49 ∷ 10 ∷ 46 ∷ 105 ∷ 32 ∷ 49 ∷ 10 ∷ 46 ∷ 111 ∷ 32 ∷ 49 ∷ 10 ∷ []) 1 room ≡ refused 34 1
  -- .i 1\n.o 1\n.e\n\n1 1\n
  pub after-the-end : pla_answer (46 ∷ 105 ∷ 32 ∷ 49 ∷ 10 ∷ 46 ∷ 111 ∷ 32 ∷ 49 ∷ 10 ∷ 46 ∷ 101 ∷ 10 ∷ 10 ∷ 49 ∷ 32 ∷ 49 ∷ 10 ∷ []) 1 room ≡ refused 35 5
  -- .i 2\n.o 1\n1 1\n
  pub short-cube : pla_answer (46 ∷ 105 ∷ 32 ∷ 50 ∷ 10 ∷ 46 ∷ 111 ∷ 32 ∷ 49 ∷ 10 ∷ 49 ∷ 32 ∷ 49 ∷ 10 ∷ []) 1 room ≡ refused 36 3
  -- .i 1\n.o 1\n1 11\n
  pub long-cube : pla_answer (46 ∷ 105 ∷ 32 ∷ 49 ∷ 10 ∷ 46 ∷ 111 ∷ 32 ∷ 49 ∷ 10 ∷ 49 ∷ 32 ∷ 49 ∷ 49 ∷ 10 ∷ []) 1 room ≡ refused 36 3
  -- .i 1\n.o 1\n2 1\n
  pub wrong-symbol : pla_answer (46 ∷ 105 ∷ 32 ∷ 49 ∷ 10 ∷ 46 ∷ 111 ∷ 32 ∷ 49 ∷ 10 ∷ 50 ∷ 32 ∷ 49 ∷ 10 ∷ []) 1 room ≡ refused 36 3
  -- .i 2\n.o 1\n.type fr\n0- 1\n-1 0\n
  pub contradiction : pla_answer (46 ∷ 105 ∷ 32 ∷ 50 ∷ 10 ∷ 46 ∷ 111 ∷ 32 ∷ 49 ∷ 10 ∷ 46 ∷ 116 ∷ 121 ∷ 112 ∷ 101 ∷ 32 ∷ 102 ∷ 114 ∷ 10 ∷ 48 ∷ 45 ∷ 32 ∷ 49 ∷ 10 ∷ 45 ∷ 49 ∷ 32 ∷ 48 ∷ 10 ∷ []) 1 room ≡ refused 37 5
  -- .i 2\n
  pub no-head : pla_answer (46 ∷ 105 ∷ 32 ∷ 50 ∷ 10 ∷ []) 1 room ≡ refused 38 0
  -- .i 1\n.o 1\n.p 2\n1 1\n
  pub cut-text : pla_answer (46 ∷ 105 ∷ 32 ∷ 49 ∷ 10 ∷ 46 ∷ 111 ∷ 32 ∷ 49 ∷ 10 ∷ 46 ∷ 112 ∷ 32 ∷ 50 ∷ 10 ∷ 49 ∷ 32 ∷ 49 ∷ 10 ∷ []) 1 room ≡ refused 39 0
  -- .i 1\n.o 1\n1 1\n
  pub no-such-output : pla_answer (46 ∷ 105 ∷ 32 ∷ 49 ∷ 10 ∷ 46 ∷ 111 ∷ 32 ∷ 49 ∷ 10 ∷ 49 ∷ 32 ∷ 49 ∷ 10 ∷ []) 2 room ≡ refused 40 0
  -- .i 1\n.o 1\n1 1\n
  pub output-0 : pla_answer (46 ∷ 105 ∷ 32 ∷ 49 ∷ 10 ∷ 46 ∷ 111 ∷ 32 ∷ 49 ∷ 10 ∷ 49 ∷ 32 ∷ 49 ∷ 10 ∷ []) 0 room ≡ refused 40 0

pub examples : Examples
unfolding bit all first_fault bad_count encode_marks encode_table with_digit number_from type_of end_of operand_of directive_of statement_of is_cube covers says free_by contradicts mark_of marks_below stored_table line_fault head_after read_content read_from read_text text_tests pla_answer pla_after
examples =
    record {
      five = refl;
      five-room = refl;
      off-and-on = refl;
      off-and-on-room = refl;
      first-output = refl;
      first-output-room = refl;
      on-wins = refl;
      on-wins-room = refl;
      fits = refl;
      short = refl;
      short-room = refl;
      unknown = refl;
      not-a-type = refl;
      no_operand = refl;
      thirteen-inputs = refl;
      no-outputs = refl;
      many-outputs = refl;
      inputs-twice = refl;
      type-after-cube = refl;
      cube-first = refl;
      after-the-end = refl;
      short-cube = refl;
      long-cube = refl;
      wrong-symbol = refl;
      contradiction = refl;
      no-head = refl;
      cut-text = refl;
      no-such-output = refl;
      output-0 = refl;
    }
