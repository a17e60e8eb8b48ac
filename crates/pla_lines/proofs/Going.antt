-- Laws of specs.Reading for line after line: the lines that are left, and reading the next. Read next: crate `pla`.
use mathlib.Core.Path.{◌≡◌, refl, sym, ap, subst, ◌∙◌}
use mathlib.Core.Bool.{Bool, true, false, cond}
use mathlib.Core.Logic.{◌≢◌}
use mathlib.Core.List.{List, [], ◌∷◌, ◌++◌}
use Prim.Native.Nat.{ℕ, ◌+◌, ◌≤◌}
use native.Mathlib.Decide.{ℕ_discrete}
use native.Mathlib.Omega.{arith}
use lib.ListN.{length, get_or, replicate, get_or-replicate}
use borrow.Author.Tests.{eq-eqb, ne_eqb}
use Rattle.std.specs.Bool.{MatchBool}
use Rattle.std.specs.List.{All, IsFirstMatchOrLen}
use Rattle.std.proofs.lemmas.Grind.{common_steps}
use Rattle.std.proofs.lemmas.List.Splits.{slice_split_none, slice_split_at}
use Rattle.std.proofs.Common.{is_none}
use Rattle.gf2.specs.Limits.{max_variables}
use Rattle.table.specs.Flags.{max_points}
use Rattle.pla_text.specs.Text.{is_newline, lines_of, content_of, words_of, symbols_of}
use Rattle.pla_text.specs.Statements.{statement_of}
use Rattle.pla_cubes.specs.Cubes.{Row, says}
use Rattle.pla_cubes.specs.Flagging.{Flagged, unsaid}
use Rattle.pla_lines.specs.declared.Head.{Head}
use Rattle.pla_lines.specs.declared.Reading.{Reading}
use Rattle.pla_lines.specs.Reading.{Gathered, found, read_statement, read_content, read_from, read_text}
use Rattle.pla_lines.specs.Lines.{no_head, line_fault, variables_of}
use Rattle.pla_lines.specs.Bounds.{Bounded, GatheredBy}
use Rattle.pla_lines.proofs.Judging.{accepted-is, bounded-after}

-- ---- the lines that are left

-- By whether the last was taken, and by the text behind those taken.
abbrev pub lines_left : Bool → List ℕ → List (List ℕ)
lines_left done rest = cond done [] (lines_of rest)

-- The next line is what stands before the first newline of the text that is left, or all of it.
pub line-next : (done after : Bool) (rest behind line : List ℕ) → done ≡ false → MatchBool after (rest ≡ line) ((y : ℕ) × (rest ≡ line ++ (y ∷ behind)))
    → IsFirstMatchOrLen is_newline rest (length line) → lines_left done rest ≡ line ∷ lines_left after behind
line-next done true rest behind line d e h =
    rw (d, e) (slice_split_none is_newline line (λ k x l. subst (λ (xs : List ℕ). is_newline (get_or xs k x) ≡ false) e (h.0 k x (omega arith) l)))
line-next done false rest behind line d e h =
    let before : All (λ b. is_newline b ≡ false) line = λ k x l. let a = h.0 k x (omega arith) l in let cut = e.1 in grind (arith, common_steps) in
    let hit : is_newline e.0 ≡ true = let cut = e.1 in let a = h.1 (grind (arith, common_steps)) e.0 in grind (arith, common_steps) in
    rw (d, e.1) (slice_split_at is_newline line e.0 behind before hit)

-- ---- reading it

module _ (output number : ℕ) (head : Head) (rows : List Row) (line : List ℕ) (lines : List (List ℕ)) where
  pub read-stop : (read_content output number head rows (content_of line)).fault ≢ 0
      → read_from output number head rows (line ∷ lines) ≡ read_content output number head rows (content_of line)
  unfolding read_from
  read-stop n = rw (ne_eqb _ 0 n)

  pub read_next : (read_content output number head rows (content_of line)).fault ≡ 0
      → read_from output number head rows (line ∷ lines)
      ≡ read_from output (number + 1) (read_content output number head rows (content_of line)).head (read_content output number head rows (content_of line)).rows lines
  unfolding read_from
  read_next e = rw (eq-eqb _ 0 e)

read_none : (output number : ℕ) (head : Head) (rows : List Row) → read_from output number head rows [] ≡ found 0 0 head rows
unfolding read_from
read_none output number head rows = refl

-- After the last line nothing is left.
pub read-last : (output number : ℕ) (head : Head) (rows : List Row) (line : List ℕ) → (read_content output number head rows (content_of line)).fault ≡ 0
    → read_from output number head rows (line ∷ []) ≡ read_content output number head rows (content_of line)
unfolding read_from read_content
read-last output number head rows line e =
    let k = (accepted-is output number head rows (symbols_of (content_of line)) (statement_of (words_of (content_of line))) e).1 in
    rw (k)

pub bounded-next : (output number : ℕ) (head : Head) (rows : List Row) (content : List ℕ) → Bounded head number → (read_content output number head rows content).fault ≡ 0
    → Bounded (read_content output number head rows content).head (number + 1)
unfolding read_content
bounded-next output number head rows content b e =
    let k = accepted-is output number head rows (symbols_of content) (statement_of (words_of content)) e in
    rw k.1 (bounded-after output number head rows (symbols_of content) (statement_of (words_of content)) b k.0)

-- ---- a turn of the loop over lines

-- What is known before the line of a number: the lines that are left complete the reading.
pub record Going (text : List ℕ) (output number : ℕ) (reading : Reading) (lines : List (List ℕ)) : Type 0 where
  pub bounded : Bounded reading.head (number + 1)
  pub rows : List Row
  pub flagged : Flagged reading.flags rows
  pub so_far : read_from output (number + 1) reading.head rows lines ≡ read_text output text

module _ (text : List ℕ) (output number : ℕ) (reading : Reading) (line : List ℕ) (lines : List (List ℕ)) (going : Going text output number reading (line ∷ lines)) where
  -- A line at fault ends the reading.
  pub going-stop : (fault : ℕ) (after : Reading) → fault ≢ 0 → GatheredBy fault (number + 1) after (read_content output (number + 1) reading.head going.rows (content_of line))
      → GatheredBy fault (number + 1) after (read_text output text)
  going-stop fault after n agrees =
      let stop = read-stop output (number + 1) reading.head going.rows line lines (λ e. n (agrees.fault ∙ e)) in
      rw (sym going.so_far ∙ stop) agrees

  -- Another doesn't.
  pub going-on : (after : Reading) → GatheredBy 0 0 after (read_content output (number + 1) reading.head going.rows (content_of line)) → Going text output (number + 1) after lines
  going-on after agrees =
      let f = read_content output (number + 1) reading.head going.rows (content_of line) in
      let next = read_next output (number + 1) reading.head going.rows line lines (sym agrees.fault) in
      record {
        bounded = rw agrees.head (bounded-next output (number + 1) reading.head going.rows (content_of line) going.bounded (sym agrees.fault));
        rows = f.rows;
        flagged = agrees.flagged;
        so_far = rw agrees.head (sym next ∙ going.so_far);
      }

-- Once none is left, what was read is what the text says.
pub going-end : (text : List ℕ) (output number : ℕ) (reading : Reading) (lines : List (List ℕ)) → lines ≡ [] → Going text output number reading lines
    → GatheredBy 0 0 reading (read_text output text)
going-end text output number reading lines e going =
    let all : found 0 0 reading.head going.rows ≡ read_text output text = sym (read_none output (number + 1) reading.head going.rows) ∙ ap (read_from output (number + 1) reading.head going.rows) (sym e) ∙ going.so_far in
    rw (← all) (record { fault = refl; line = refl; head = refl; flagged = going.flagged })

-- ---- before the first line

pub none-bounded : Bounded no_head 1
none-bounded = record { inputs = omega arith; given = λ e. let z : ◌≡◌ {A = ℕ} 0 1 = cc in absurd (omega arith); outputs = omega arith; cubes = omega arith }

pub none-flagged : Flagged (replicate max_points unsaid) []
unfolding says
none-flagged = record { points = λ p h. get_or-replicate max_points p unsaid unsaid h }

pub going-start : (text : List ℕ) (output : ℕ) → Going text output 0 (record { head = no_head; flags = replicate max_points unsaid }) (lines_of text)
unfolding read_text
going-start text output = record { bounded = none-bounded; rows = []; flagged = none-flagged; so_far = refl }

-- ---- the number of inputs that was found

refused-head : (output number : ℕ) (head : Head) (rows : List Row) (content : List ℕ) → (read_content output number head rows content).fault ≢ 0
    → (read_content output number head rows content).head ≡ head
unfolding read_content
refused-head output number head rows content n = go (ℕ_discrete (line_fault output head rows (symbols_of content) (statement_of (words_of content))) 0) n
  where
    go : Dec (line_fault output head rows (symbols_of content) (statement_of (words_of content)) ≡ 0)
        → (read_statement output number head rows (symbols_of content) (statement_of (words_of content))).fault ≢ 0
        → (read_statement output number head rows (symbols_of content) (statement_of (words_of content))).head ≡ head
    go (yes z) n = absurd (n (rw z))
    go (no z) n = rw (ne_eqb (line_fault output head rows (symbols_of content) (statement_of (words_of content))) 0 z)

-- The number of inputs is within its limits.
abbrev Within : Head → Type 0
Within head = (variables_of head ≤ max_variables) × (is_none head.variables ≡ false → 1 ≤ variables_of head)

from-bounded : (output number : ℕ) (head : Head) (rows : List Row) (lines : List (List ℕ)) → Bounded head number → Within (read_from output number head rows lines).head
from-bounded output number head rows [] b = rw (read_none output number head rows) (b.inputs, b.given)
from-bounded output number head rows (line ∷ lines) b = go (ℕ_discrete f.fault 0) (λ e. from-bounded output (number + 1) f.head f.rows lines (bounded-next output number head rows (content_of line) b e))
  where
    f : Gathered
    f = read_content output number head rows (content_of line)

    go : Dec (f.fault ≡ 0) → (f.fault ≡ 0 → Within (read_from output (number + 1) f.head f.rows lines).head) → Within (read_from output number head rows (line ∷ lines)).head
    go (yes e) k = rw (read_next output number head rows line lines e) (k e)
    go (no n) k = rw (read-stop output number head rows line lines n, refused-head output number head rows (content_of line) n) (b.inputs, b.given)

-- There are never more inputs than variables of a table, and never none where their number is given.
pub text-bounded : (output : ℕ) (text : List ℕ) → variables_of (read_text output text).head ≤ max_variables
unfolding read_text
text-bounded output text = (from-bounded output 1 no_head [] (lines_of text) none-bounded).0

pub text-given : (output : ℕ) (text : List ℕ) → is_none (read_text output text).head.variables ≡ false → 1 ≤ variables_of (read_text output text).head
unfolding read_text
text-given output text = (from-bounded output 1 no_head [] (lines_of text) none-bounded).1
