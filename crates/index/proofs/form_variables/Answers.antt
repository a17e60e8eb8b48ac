-- `index::form_variables` meets its contract: the second byte of an accepted form is its n. Assumes nothing.
use mathlib.Core.Path.{refl}
use native.Mathlib.Omega.{arith}
use Rattle.form.proofs.Accepting.{form-begins}
use Rattle.index.proofs.form_variables.Goals as goal

pub bounds-form-1 : goal.bounds-form-1
bounds-form-1 c = (form-begins c.args.form.now c.requires).0

pub overflow_cast-result : goal.overflow_cast-result
overflow_cast-result c = omega (arith, (form-begins c.args.form.now c.requires).1)

pub returns : goal.returns
returns c = refl
