-- `form::Reader::walk` meets its contract: the walk from the place that the loop has come to is the walk from the start. Assumes nothing.
use Prim.Native.Nat.{ℕ, ◌-◌}
use mathlib.Core.Path.{◌≡◌}
use mathlib.Core.List.{List}
use lib.ListN.{length, drop}
use Rattle.records.specs.Walks.{Walk}
use Rattle.form.specs.Walk.{is_alone, walk_records_from}
use Rattle.form.specs.Counting.{Counted, behind_by}
use Rattle.form.specs.declared.Counts.{Counts}
use Rattle.form.specs.declared.Extent.{Extent}
use Rattle.form.proofs.Reader.walk.Given as goal

-- The walk from a place on.
abbrev pub walk_from : Extent → ℕ → List ℕ → Counts → ℕ → Walk
walk_from extent n bytes counts place = walk_records_from (is_alone extent) n 0 (behind_by bytes counts place) place (drop place bytes)

-- The loop changes fields of the reader, so `l.self` has them one by one: bytes, n, counts, place.
abbrev pub invariant-loop-self : goal.invariant-loop-self
invariant-loop-self l =
    let bytes = l.self.0.now in
    let n = l.self.1.0 in
    let counts = l.self.1.1.0 in
    let place = l.self.1.1.1.0 in
    let start = l.fn.self in
    (length bytes ≡ length start.bytes.now) × Counted n bytes counts place × (walk_from l.extent n bytes counts place ≡ walk_from l.extent start.variables start.bytes.now start.counts start.place)

abbrev pub decreases-loop-self : goal.decreases-loop-self
decreases-loop-self l = length l.self.0.now - l.self.1.1.1.0
