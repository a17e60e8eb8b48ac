-- `form::walk_form` meets its contract: the walk ends at the first record, or goes on after it. Assumes nothing.
use mathlib.Core.Path.{◌≡◌, sym, ap, ◌∙◌}
use Prim.Native.Nat.{◌≤◌, ◌<◌, ◌+◌}
use native.Mathlib.Omega.{arith}
use Rattle.std.proofs.Common.{rules, tests}
use lib.ListN.{length, drop, get_or, length-drop}
use lib.Seq.{get_or-drop}
use Rattle.gf2.specs.Limits.{max_variables}
use Rattle.table.specs.Table.{bad_count}
use Rattle.table.proofs.Table.{good-count}
use Rattle.form.specs.Walk.{first_form_step}
use Rattle.form.proofs.Walking.{walk_none, first-whole, first_ends, first_goes}
use Rattle.form.proofs.walk_form.Goals as goal
use Rattle.form.proofs.walk_form.Goals.{In-Continue}
use Rattle.std.specs.declared.ops.ControlFlow.TheVariants.{Continue}

pub returns-then-is_empty : goal.returns-then-is_empty
returns-then-is_empty c = let none : length c.args.bytes.now ≡ 0 = search (rules, tests) in sym (walk_none c.args.bytes.now none)

-- The first record is whole: the step that says so, that its body is there, and what n is.
module _ (c : In-Continue) where
  step :
      first_form_step
      (get_or c.args.bytes.now 0 0)
      (drop 1 c.args.bytes.now)
      ≡ Continue c.in-Continue.length
  step = sym c.first_step.ensures ∙ c.in-Continue.is

  there : (1 + c.in-Continue.length ≤ length c.args.bytes.now) × (1 < length c.args.bytes.now)
  there =
      let s = c.args.bytes.now in
      let w = first-whole (get_or s 0 0) (drop 1 s) c.in-Continue.length step in
      (omega (arith, w.0, w.1, length-drop 1 s), omega (arith, w.1, length-drop 1 s))

  few : get_or c.args.bytes.now 1 0 ≤ max_variables
  few =
      let s = c.args.bytes.now in
      let w = first-whole (get_or s 0 0) (drop 1 s) c.in-Continue.length step in
      ((good-count (get_or s 1 0)).0 (sym (ap bad_count (get_or-drop 1 s 0 0)) ∙ w.2)).1

pub bounds-bytes-1 : goal.bounds-bytes-1
bounds-bytes-1 c = omega (arith, (there (goal.at.bounds-bytes-1 c).In-Continue).1)

pub overflow_cast-bytes : goal.overflow_cast-bytes
overflow_cast-bytes c = omega (arith, few (goal.at.overflow_cast-bytes c).In-Continue)

pub overflow_add-length : goal.overflow_add-length
overflow_add-length c = omega (arith, (there (goal.at.overflow_add-length c).In-Continue).0)

pub new-requires : goal.new-requires
new-requires c = (few (goal.at.new-requires c).In-Continue, (there (goal.at.new-requires c).In-Continue).0)

pub returns-in-Break : goal.returns-in-Break
returns-in-Break c =
    let some : 0 < length c.args.bytes.now = search (rules, tests) in
    sym (first_ends c.args.bytes.now c.in-Break.end some (sym c.first_step.ensures ∙ c.in-Break.is))

pub returns-in-Continue : goal.returns-in-Continue
returns-in-Continue c =
    let a = c.args in
    let at = (goal.at.returns-in-Continue c).In-Continue in
    let r = c.new.ensures in
    c.walk.ensures ∙ rw (r.behind, r.bytes, r.variables, r.place) (sym (first_goes a.bytes.now c.in-Continue.length (omega (arith, (there at).1)) (step at)))
