-- `pla_cubes::covers` meets its contract. The loop's invariant: the inputs that are left decide the answer. Assumes nothing.
use mathlib.Core.Path.{◌≡◌}
use lib.ListN.{drop}
use Rattle.pla_cubes.specs.Cubes.{covers}
use Rattle.pla_cubes.proofs.covers.Given as goal

abbrev pub invariant-loop-i : goal.invariant-loop-i
invariant-loop-i l = covers (drop l.i l.inputs) l.point ≡ covers l.inputs l.point
