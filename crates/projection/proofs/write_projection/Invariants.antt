-- `projection::write_projection` meets its contract: after i turns the i first points of the answer are written. Assumes nothing.
use mathlib.Core.Path.{◌≡◌}
use lib.ListN.{take}
use Rattle.table.specs.Decision.{front}
use Rattle.projection.specs.Masks.{projected}
use Rattle.projection.proofs.write_projection.Given as goal

abbrev pub invariant-loop-i : goal.invariant-loop-i
invariant-loop-i l = l.room ≡ front (take l.i (projected l.n l.leads l.on)) l.initial.room
