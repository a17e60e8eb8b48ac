-- `stored::walk_records` meets its contract: the walk from the place that the loop has come to is the walk from the start. Assumes nothing.
use Prim.Native.Nat.{◌≤◌, ◌+◌}
use mathlib.Core.Path.{◌≡◌, refl, sym, ◌∙◌}
use native.Mathlib.Omega.{arith}
use borrow.Author.Rules.{rules}
use lib.ListN.{length, drop, get_or, length-drop}
use Rattle.records.specs.Walks.{bytes_missing}
use Rattle.records.proofs.Walking.{walk-over, walk_ends, walk-goes}
use Rattle.stored.specs.Layout.{table_step, count_passed}
use Rattle.stored.proofs.Walking.{record-whole}
use Rattle.stored.proofs.walk_records.Goals as goal
use Rattle.stored.proofs.walk_records.Goals.{In-Continue}
use Rattle.std.specs.declared.ops.ControlFlow.TheVariants.{Continue}

pub loop-place-init : goal.loop-place-init
loop-place-init c = (search rules, search rules, refl)

pub returns-in-Break : goal.returns-in-Break
returns-in-Break c =
    sym (walk_ends table_step count_passed bytes_missing c.args.bytes.now c.loop-place.count c.loop-place.place (omega arith) c.in-Break.end (sym c.record_step.ensures ∙ c.in-Break.is)) ∙ c.loop-place.invariant.2

-- A whole record at the loop's place: the step that says so, and that its body is there.
module _ (c : In-Continue) where
  step :
      table_step
      c.loop-place.count
      (get_or c.args.bytes.now c.loop-place.place 0)
      c.loop-place.place
      (drop (c.loop-place.place + 1) c.args.bytes.now)
      ≡ Continue c.in-Continue.length
  step = sym c.record_step.ensures ∙ c.in-Continue.is

  body : c.in-Continue.length ≤ length (drop (c.loop-place.place + 1) c.args.bytes.now)
  body =
      let s = c.args.bytes.now in
      record-whole c.loop-place.count (get_or s c.loop-place.place 0) c.loop-place.place (drop (c.loop-place.place + 1) s) c.in-Continue.length step

  there : c.loop-place.place + 1 + c.in-Continue.length ≤ length c.args.bytes.now
  there =
      omega (arith, body, length-drop (c.loop-place.place + 1) c.args.bytes.now)

pub overflow_add-place-in-Continue : goal.overflow_add-place-in-Continue
overflow_add-place-in-Continue c = omega (arith, there c)

pub overflow_add-count : goal.overflow_add-count
overflow_add-count c = omega (arith, there c)

pub loop-place-smaller : goal.loop-place-smaller
loop-place-smaller c = omega (arith, there c)

pub loop-place-preserved : goal.loop-place-preserved
loop-place-preserved c = (
  there c,
  omega arith,
  sym (walk-goes table_step count_passed bytes_missing c.args.bytes.now c.loop-place.count c.loop-place.place (omega arith) c.in-Continue.length (body c) (step c))
      ∙ c.loop-place.invariant.2,
)

pub returns : goal.returns
returns c =
    let h = c.loop-place in
    sym (walk-over table_step count_passed bytes_missing c.args.bytes.now h.count h.place (omega arith)) ∙ h.invariant.2
