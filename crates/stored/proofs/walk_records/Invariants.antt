-- `stored::walk_records` meets its contract: the walk from the place that the loop has come to is the walk from the start. Assumes nothing.
use Prim.Native.Nat.{◌≤◌, ◌-◌}
use mathlib.Core.Path.{◌≡◌}
use lib.ListN.{length, drop}
use Rattle.stored.specs.Layout.{walk_table_from}
use Rattle.stored.proofs.walk_records.Given as goal

abbrev pub invariant-loop-place : goal.invariant-loop-place
invariant-loop-place l = (l.place ≤ length l.bytes) × (l.count ≤ l.place) × (walk_table_from 0 l.count l.place (drop l.place l.bytes) ≡ walk_table_from 0 0 l.start (drop l.start l.bytes))

abbrev pub decreases-loop-place : goal.decreases-loop-place
decreases-loop-place l = length l.bytes - l.place
