-- `stored::walk_table` meets its contract: the walk ends at the first record, or goes on after it. Assumes nothing.
use mathlib.Core.Path.{◌≡◌, sym, ◌∙◌}
use Prim.Native.Nat.{ℕ, ◌≤◌, ◌<◌, ◌+◌}
use mathlib.Core.Bool.{Bool, false}
use mathlib.Core.List.{List}
use native.Mathlib.Omega.{arith}
use lib.Dec.{eqb}
use borrow.Author.Tests.{eqb-true, eqb-false}
use lib.ListN.{length, drop, get_or, length-drop}
use Rattle.stored.specs.Layout.{first_table_step}
use Rattle.stored.proofs.Walking.{walk_none, first-whole, first_ends, first_goes}
use Rattle.stored.proofs.walk_table.Goals as goal
use Rattle.stored.proofs.walk_table.Goals.{In-Continue}
use Rattle.std.specs.declared.ops.ControlFlow.TheVariants.{Continue}

pub returns-then-is_empty : goal.returns-then-is_empty
returns-then-is_empty c = sym (walk_none c.args.bytes.now (eqb-true _ 0 (sym c.is_empty.ensures ∙ c.if-is_empty.true)))

-- Past the test there is a first byte.
some : (bytes : List ℕ) {empty : Bool} → empty ≡ eqb (length bytes) 0 → empty ≡ false → 0 < length bytes
some bytes e n = let no = eqb-false (length bytes) 0 (sym e ∙ n) in omega (arith, no)

-- The first record is whole: the step that says so, and that its body is there.
module _ (c : In-Continue) where
  step :
      first_table_step
      (get_or c.args.bytes.now 0 0)
      (drop 1 c.args.bytes.now)
      ≡ Continue c.in-Continue.length
  step = sym c.first_step.ensures ∙ c.in-Continue.is

  there : 1 + c.in-Continue.length ≤ length c.args.bytes.now
  there =
      let s = c.args.bytes.now in
      omega (arith, some s c.is_empty.ensures c.if-is_empty.false, first-whole (get_or s 0 0) (drop 1 s) c.in-Continue.length step, length-drop 1 s)

pub overflow_add-length : goal.overflow_add-length
overflow_add-length c = omega (arith, there c)

pub walk_records-requires : goal.walk_records-requires
walk_records-requires c = there c

pub returns-in-Break : goal.returns-in-Break
returns-in-Break c =
    sym (first_ends c.args.bytes.now c.in-Break.end (some c.args.bytes.now c.is_empty.ensures c.if-is_empty.false) (sym c.first_step.ensures ∙ c.in-Break.is))

pub returns-in-Continue : goal.returns-in-Continue
returns-in-Continue c =
    let a = c.args in
    c.walk_records.ensures ∙ sym (first_goes a.bytes.now c.in-Continue.length (some a.bytes.now c.is_empty.ensures c.if-is_empty.false) (step (goal.at.returns-in-Continue c).In-Continue))
