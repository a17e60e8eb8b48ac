-- `pla_cubes::is_cube` meets its contract. The loop's invariant: what is left decides whether it is a cube with what is to come. Assumes nothing.
use mathlib.Core.Path.{◌≡◌}
use lib.ListN.{drop}
use Rattle.pla_text.specs.Text.{symbols_of}
use Rattle.pla_cubes.specs.Cubes.{is_cube}
use Rattle.pla_cubes.proofs.is_cube.Given as goal

abbrev pub invariant-loop-symbol : goal.invariant-loop-symbol
invariant-loop-symbol l = is_cube l.n l.o (symbols_of (drop l.symbol-index l.content)) ≡ is_cube l.inputs l.outputs (symbols_of l.content)
