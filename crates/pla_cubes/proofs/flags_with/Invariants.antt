-- `pla_cubes::flags_with` meets its contract. The loop's invariant: the flags below its place are marked, the others as they were. Assumes nothing.
use mathlib.Core.Path.{◌≡◌}
use lib.ListN.{length}
use Rattle.table.specs.Flags.{max_points}
use Rattle.pla_cubes.proofs.Marking.{Marking}
use Rattle.pla_cubes.proofs.flags_with.Given as goal

abbrev pub invariant-loop-point : goal.invariant-loop-point
invariant-loop-point l = (length l.said-items ≡ max_points) × Marking l.inputs l.symbol l.flags l.said-items l.point
