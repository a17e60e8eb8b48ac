-- Laws of specs.Lines and specs.Reading for one line: what a directive and a cube give, refused or not, and that the numbers of the head stay small. Read next: Going.
use mathlib.Core.Path.{◌≡◌, refl, sym, ap, ◌∙◌}
use mathlib.Core.Bool.{Bool, true, false, not, ◌&&◌, ◌||◌}
use mathlib.Core.Logic.{◌≢◌, inl, inr}
use mathlib.Core.List.{List, [], ◌∷◌}
use Prim.Native.Nat.{ℕ, ◌+◌, ◌^◌, ◌≤◌, ◌<◌}
use native.Mathlib.Decide.{ℕ_discrete}
use native.Mathlib.Omega.{arith}
use lib.Dec.{eqb, ltb}
use lib.ListN.{length, get_or}
use lib.Pow.{pow_mono}
use borrow.Author.Tests.{ne_eqb, not-false, ltb-false}
use Rattle.gf2.specs.Limits.{max_variables}
use Rattle.gf2.specs.Finite.{holds}
use Rattle.gf2.proofs.Finite.{all-ext}
use Rattle.table.specs.Refusal.{Test, test, first_fault, Numbered}
use Rattle.table.proofs.FirstFault.{no-fault, numbered, fault-append, fault-before}
use Rattle.table.proofs.Table.{good-count}
use Rattle.pla_text.specs.declared.Statement.{Statement}
use Rattle.pla_text.specs.declared.Statement.TheVariants.{Empty, Wrong, Inputs, Outputs, Products, Meaning, Names, End, Cube}
use Rattle.pla_cubes.specs.Cubes.{Row, row_of, max_outputs}
use Rattle.pla_cubes.specs.Meaning.{apart_below, contradicts, is_fr}
use Rattle.pla_cubes.specs.Flagging.{Flagged, unsaid}
use Rattle.pla_cubes.specs.declared.PointFlags.{PointFlags}
use Rattle.pla_cubes.proofs.Shapes.{cube-length}
use Rattle.pla_lines.specs.declared.Head.{Head}
use Rattle.pla_lines.specs.declared.LineFault.{LineFault}
use Rattle.pla_lines.specs.declared.LineFault.TheVariants as fault
use Rattle.pla_lines.specs.declared.Reading.{Reading}
use Rattle.std.proofs.Common.{Option, None, Some}
use Rattle.std.specs.Option.{unwrap_or}
use Rattle.pla_lines.specs.Lines.{directive_tests, shape_tests, line_fault, head_after, rows_after, contradiction_fault, bad_inputs, bad_outputs, fault_number, variables_of, outputs_of}
use Rattle.pla_lines.specs.Reading.{found, read_statement}
use Rattle.pla_lines.specs.Bounds.{Bounded, GatheredBy}

-- ---- a statement that is no cube

line-directive : (output : ℕ) (head : Head) (rows : List Row) (symbols : List ℕ) (s : Statement) → s ≢ Cube
    → (line_fault output head rows symbols s ≡ first_fault (directive_tests head s)) × (rows_after output head rows symbols s ≡ rows)
unfolding line_fault
line-directive output head rows symbols Empty n = (refl, refl)
line-directive output head rows symbols Wrong n = (refl, refl)
line-directive output head rows symbols (Inputs count) n = (refl, refl)
line-directive output head rows symbols (Outputs count) n = (refl, refl)
line-directive output head rows symbols (Products count) n = (refl, refl)
line-directive output head rows symbols (Meaning kind) n = (refl, refl)
line-directive output head rows symbols Names n = (refl, refl)
line-directive output head rows symbols End n = (refl, refl)
line-directive output head rows symbols Cube n = absurd (n refl)

-- ---- a line, by its fault

module _ (output number : ℕ) (head : Head) (rows : List Row) (symbols : List ℕ) (s : Statement) where
  -- At fault: the head and the rows stay.
  pub read-refused : (reading : Reading) (fault : ℕ) → line_fault output head rows symbols s ≡ fault → fault ≢ 0 → reading.head ≡ head → Flagged reading.flags rows
      → GatheredBy fault number reading (read_statement output number head rows symbols s)
  read-refused reading fault e n q f =
      rw (e, ne_eqb fault 0 n) (record { fault = refl; line = refl; head = q; flagged = f })

  -- Not at fault: they go on.
  pub read-accepted : (reading : Reading) → line_fault output head rows symbols s ≡ 0 → reading.head ≡ head_after head s → Flagged reading.flags (rows_after output head rows symbols s)
      → GatheredBy 0 0 reading (read_statement output number head rows symbols s)
  read-accepted reading e q f = rw e (record { fault = refl; line = refl; head = q; flagged = f })

  -- Which of the two it was.
  pub accepted-is : (read_statement output number head rows symbols s).fault ≡ 0
      → (line_fault output head rows symbols s ≡ 0) × (read_statement output number head rows symbols s ≡ found 0 0 (head_after head s) (rows_after output head rows symbols s))
  accepted-is e = go (ℕ_discrete (line_fault output head rows symbols s) 0) e
    where
      go : Dec (line_fault output head rows symbols s ≡ 0) → (read_statement output number head rows symbols s).fault ≡ 0
          → (line_fault output head rows symbols s ≡ 0) × (read_statement output number head rows symbols s ≡ found 0 0 (head_after head s) (rows_after output head rows symbols s))
      go (yes z) k = (z, rw z)
      go (no n) k = absurd (n (rw (ne_eqb (line_fault output head rows symbols s) 0 n) at k))

-- A fault's number is none but its own.
pub fault-some : (fault : LineFault) → fault_number fault ≢ 0
fault-some fault.Directive e = omega arith
fault-some fault.Inputs e = omega arith
fault-some fault.Outputs e = omega arith
fault-some fault.Sequence e = omega arith
fault-some fault.AfterEnd e = omega arith
fault-some fault.Cube e = omega arith
fault-some fault.Contradiction e = omega arith

-- A directive, refused and not.
module _ (number : ℕ) (head : Head) (s : Statement) (output : ℕ) (rows : List Row) (symbols : List ℕ) (reading : Reading) (f : Flagged reading.flags rows) (other : s ≢ Cube) where
  pub directive-refused : (fault : LineFault) → fault_number fault ≡ first_fault (directive_tests head s) → reading.head ≡ head
      → GatheredBy (fault_number fault) number reading (read_statement output number head rows symbols s)
  directive-refused fault e q = read-refused output number head rows symbols s reading (fault_number fault) ((line-directive output head rows symbols s other).0 ∙ sym e) (fault-some fault) q f

  pub directive-accepted : 0 ≡ first_fault (directive_tests head s) → reading.head ≡ head_after head s → GatheredBy 0 0 reading (read_statement output number head rows symbols s)
  directive-accepted e q =
      let l = line-directive output head rows symbols s other in
      read-accepted output number head rows symbols s reading (l.0 ∙ sym e) q (rw l.1 f)

-- ---- a cube

shape-numbered : (head : Head) (symbols : List ℕ) → Numbered (shape_tests head symbols)
unfolding holds
shape-numbered head symbols = numbered (shape_tests head symbols) refl

-- A number that was given is the one that stands for it.
pub given : (count : Option ℕ) (n : ℕ) → count ≡ Some n → unwrap_or count 0 ≡ n
given count n e = ap (λ (o : Option ℕ). unwrap_or o 0) e

-- A cube that passes by itself has its symbols.
pub shape-cube : (head : Head) (symbols : List ℕ) → 0 ≡ first_fault (shape_tests head symbols) → length symbols ≡ variables_of head + outputs_of head
shape-cube head symbols e =
    cube-length (variables_of head) (outputs_of head) symbols (not-false _ ((no-fault (shape_tests head symbols) (shape-numbered head symbols)).0 (sym e) _ (inr (inr (inl refl)))))

module _ (number : ℕ) (head : Head) (output : ℕ) (symbols : List ℕ) (rows : List Row) where
  pub cube-refused : (reading : Reading) (fault : LineFault) → fault_number fault ≡ first_fault (shape_tests head symbols) → reading.head ≡ head → Flagged reading.flags rows
      → GatheredBy (fault_number fault) number reading (read_statement output number head rows symbols Cube)
  unfolding line_fault
  cube-refused reading fault e q f =
      read-refused output number head rows symbols Cube reading (fault_number fault) (fault-before (shape_tests head symbols) _ (λ z. fault-some fault (e ∙ z)) ∙ sym e) (fault-some fault) q f

  module _ (passed : 0 ≡ first_fault (shape_tests head symbols)) (marked : List PointFlags) (few : variables_of head ≤ max_variables)
      (g : Flagged marked (row_of (variables_of head) output symbols ∷ rows)) (clash : Bool)
      (told : clash ≡ is_fr head.kind && not (apart_below (λ p. (get_or marked p unsaid).one) (λ p. (get_or marked p unsaid).zero) (variables_of head))) where
    -- The flags tell whether the rows contradict each other.
    clash-is : clash ≡ contradicts head.kind (variables_of head) (row_of (variables_of head) output symbols ∷ rows)
    unfolding contradicts
    clash-is =
        told
        ∙ ap (λ (t : Bool). is_fr head.kind && not t)
        (all-ext _ _ (2 ^ variables_of head) (λ p h. let k : p < 2 ^ 12 = omega (arith, pow_mono few) in rw (g.points p k)))

    line-is : line_fault output head rows symbols Cube ≡ first_fault (test contradiction_fault (contradicts head.kind (variables_of head) (row_of (variables_of head) output symbols ∷ rows)) ∷ [])
    unfolding line_fault
    line-is = fault-append (shape_tests head symbols) _ (shape-numbered head symbols) (sym passed)

    pub cube-clashes : (reading : Reading) → clash ≡ true → reading.head ≡ head → Flagged reading.flags rows
        → GatheredBy contradiction_fault number reading (read_statement output number head rows symbols Cube)
    unfolding first_fault
    cube-clashes reading t q f =
        read-refused output number head rows symbols Cube reading contradiction_fault (line-is ∙ rw (sym clash-is ∙ t)) (λ z. omega arith) q f

    pub cube-accepted : (reading : Reading) → clash ≡ false → reading.head ≡ head_after head Cube → reading.flags ≡ marked
        → GatheredBy 0 0 reading (read_statement output number head rows symbols Cube)
    unfolding first_fault
    cube-accepted reading t q e =
        read-accepted output number head rows symbols Cube reading (line-is ∙ rw (sym clash-is ∙ t)) q (rw e g)

-- ---- the numbers of the head stay small

few-inputs : (count : Option ℕ) → bad_inputs count ≡ false → unwrap_or count 0 ≤ max_variables
few-inputs None e = omega arith
few-inputs (Some count) e = ((good-count count).0 e).1

some-inputs : (count : Option ℕ) → bad_inputs count ≡ false → 1 ≤ unwrap_or count 0
some-inputs None e = let z : ◌≡◌ {A = ℕ} 0 1 = cc in absurd (omega arith)
some-inputs (Some count) e = ((good-count count).0 e).0

few-outputs : (count : Option ℕ) → bad_outputs count ≡ false → unwrap_or count 0 ≤ max_outputs
few-outputs None e = omega arith
few-outputs (Some count) e = go (eqb count 0) e
  where
    go : (t : Bool) → t || ltb max_outputs count ≡ false → count ≤ max_outputs
    go true k = let z : ◌≡◌ {A = ℕ} 0 1 = cc in absurd (omega arith)
    go false k = ltb-false max_outputs count k

three : (a b c : Test) → Numbered (a ∷ b ∷ c ∷ []) → first_fault (a ∷ b ∷ c ∷ []) ≡ 0 → c.applies ≡ false
three a b c n e = (no-fault (a ∷ b ∷ c ∷ []) n).0 e _ (inr (inr (inl refl)))

pub bounded-after : (output number : ℕ) (head : Head) (rows : List Row) (symbols : List ℕ) (s : Statement) → Bounded head number → line_fault output head rows symbols s ≡ 0
    → Bounded (head_after head s) (number + 1)
unfolding head_after line_fault holds
bounded-after output number head rows symbols Empty b e = record { inputs = b.inputs; given = b.given; outputs = b.outputs; cubes = omega (arith, b.cubes) }
bounded-after output number head rows symbols Wrong b e = record { inputs = b.inputs; given = b.given; outputs = b.outputs; cubes = omega (arith, b.cubes) }
bounded-after output number head rows symbols (Inputs count) b e =
    let good = three _ _ _ (numbered (directive_tests head (Inputs count)) refl) e in
    record { inputs = few-inputs count good; given = λ z. some-inputs count good; outputs = b.outputs; cubes = omega (arith, b.cubes) }
bounded-after output number head rows symbols (Outputs count) b e =
    record { inputs = b.inputs; given = b.given; outputs = few-outputs count (three _ _ _ (numbered (directive_tests head (Outputs count)) refl) e); cubes = omega (arith, b.cubes) }
bounded-after output number head rows symbols (Products count) b e = record { inputs = b.inputs; given = b.given; outputs = b.outputs; cubes = omega (arith, b.cubes) }
bounded-after output number head rows symbols (Meaning kind) b e = record { inputs = b.inputs; given = b.given; outputs = b.outputs; cubes = omega (arith, b.cubes) }
bounded-after output number head rows symbols Names b e = record { inputs = b.inputs; given = b.given; outputs = b.outputs; cubes = omega (arith, b.cubes) }
bounded-after output number head rows symbols End b e = record { inputs = b.inputs; given = b.given; outputs = b.outputs; cubes = omega (arith, b.cubes) }
bounded-after output number head rows symbols Cube b e = record { inputs = b.inputs; given = b.given; outputs = b.outputs; cubes = omega (arith, b.cubes) }
