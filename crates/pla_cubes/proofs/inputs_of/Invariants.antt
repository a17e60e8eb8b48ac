-- `pla_cubes::inputs_of` meets its contract. The loop's invariant: the first i symbols are written. Assumes nothing.
use mathlib.Core.Path.{◌≡◌}
use lib.ListN.{length, take}
use Rattle.gf2.specs.Limits.{max_variables}
use Rattle.pla_text.specs.Text.{symbols_of}
use Rattle.pla_cubes.proofs.inputs_of.Given as goal

abbrev pub invariant-loop-i : goal.invariant-loop-i
invariant-loop-i l = (length l.inputs ≡ max_variables) × (take l.i l.inputs ≡ take l.i (symbols_of l.content))
