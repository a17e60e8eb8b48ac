-- `form::Reader::walk` meets its contract: the walk from the place that the loop has come to is the walk from the start. Assumes nothing.
use Prim.Native.Nat.{◌+◌}
use mathlib.Core.Path.{◌≡◌, sym, ◌∙◌}
use native.Mathlib.Omega.{arith}
use lib.ListN.{drop, get_or}
use Rattle.records.proofs.Walking.{walk-over, walk_ends, walk-goes}
use Rattle.form.specs.Walk.{is_alone, record_step, passed, records_ending}
use Rattle.form.specs.Counting.{behind_by, factors_before}
use Rattle.form.proofs.Walking.{Carried, carried, record-whole}
use Rattle.form.proofs.Alone.{alone-whole}
use Rattle.form.proofs.Reader.walk.Goals as goal
use Rattle.form.proofs.Reader.walk.Goals.{After-counts_after-self}
use Rattle.std.specs.declared.ops.ControlFlow.TheVariants.{Continue}

pub returns-in-Break : goal.returns-in-Break
returns-in-Break c =
    let bytes = c.loop-self.self.0.now in
    let n = c.loop-self.self.1.0 in
    let counts = c.loop-self.self.1.1.0 in
    let place = c.loop-self.self.1.1.1.0 in
    let alone = is_alone c.args.extent in
    sym (walk_ends (record_step alone n) passed (records_ending alone) bytes (behind_by bytes counts place) place (omega arith) c.in-Break.end (sym c.awaited_step.ensures ∙ c.in-Break.is))
    ∙ c.loop-self.invariant.2

-- A whole record at the loop's place: the step that says so, and the counts after it.
module _ (c : After-counts_after-self) where
  step :
      record_step
      (is_alone c.args.extent)
      c.loop-self.self.1.0
      (behind_by c.loop-self.self.0.now c.loop-self.self.1.1.0 c.loop-self.self.1.1.1.0)
      (get_or c.loop-self.self.0.now c.loop-self.self.1.1.1.0 0)
      c.loop-self.self.1.1.1.0
      (drop (c.loop-self.self.1.1.1.0 + 1) c.loop-self.self.0.now)
      ≡ Continue c.in-Continue.length
  step = sym c.awaited_step.ensures ∙ c.in-Continue.is

  carry :
      Carried
      c.loop-self.self.1.0
      c.loop-self.self.0.now
      (get_or c.loop-self.self.0.now c.loop-self.self.1.1.1.0 0)
      c.loop-self.self.1.1.0
      c.loop-self.self.1.1.1.0
      c.in-Continue.length
  carry =
      let bytes = c.loop-self.self.0.now in
      let n = c.loop-self.self.1.0 in
      let counts = c.loop-self.self.1.1.0 in
      let place = c.loop-self.self.1.1.1.0 in
      carried n bytes counts place c.loop-self.invariant.1 (omega arith) (get_or bytes place 0) c.in-Continue.length
      (alone-whole (is_alone c.args.extent) n (behind_by bytes counts place) (get_or bytes place 0) place (drop (place + 1) bytes) c.in-Continue.length step)

pub overflow_add-self : goal.overflow_add-self
overflow_add-self c = omega (arith, c.loop-self.invariant.0, (carry (goal.at.overflow_add-self c).After-counts_after-self).counted.within)

pub overflow_add-self-in-Continue : goal.overflow_add-self-in-Continue
overflow_add-self-in-Continue c = omega (arith, c.loop-self.invariant.0, (carry (goal.at.overflow_add-self-in-Continue c).After-counts_after-self).counted.within)

pub loop-self-preserved : goal.loop-self-preserved
loop-self-preserved c =
    let bytes = c.loop-self.self.0.now in
    let n = c.loop-self.self.1.0 in
    let counts = c.loop-self.self.1.1.0 in
    let place = c.loop-self.self.1.1.1.0 in
    let l = c.in-Continue.length in
    let alone = is_alone c.args.extent in
    let b = behind_by bytes counts place in
    let at = (goal.at.loop-self-preserved c).After-counts_after-self in
    let there = record-whole n b (get_or bytes place 0) place (drop (place + 1) bytes) l (alone-whole alone n b (get_or bytes place 0) place (drop (place + 1) bytes) l (step at)) in
    let next : place + (1 + l) ≡ place + 1 + l = omega arith in
    rw (c.counts_after-self.ensures, next) (
      c.loop-self.invariant.0,
      (carry at).counted,
      rw (carry at).behind_then
          (sym (walk-goes (record_step alone n) passed (records_ending alone) bytes b place (omega arith) l there (step at)) ∙ c.loop-self.invariant.2),
    )

pub returns : goal.returns
returns c =
    let bytes = c.loop-self.self.0.now in
    let n = c.loop-self.self.1.0 in
    let counts = c.loop-self.self.1.1.0 in
    let place = c.loop-self.self.1.1.1.0 in
    let alone = is_alone c.args.extent in
    c.records_ending.ensures (factors_before counts.factors bytes place)
    ∙ sym (walk-over (record_step alone n) passed (records_ending alone) bytes (behind_by bytes counts place) place (omega arith)) ∙ c.loop-self.invariant.2
