-- `index::still` meets its contract: a point of a form is a small number. Assumes nothing.
use native.Mathlib.Omega.{arith}
use Rattle.index.proofs.InPlace.{point-small}
use Rattle.index.proofs.still.Goals as goal

pub overflow_cast-point : goal.overflow_cast-point
overflow_cast-point c = omega (arith, point-small c.args.form.now c.args.point c.requires)
