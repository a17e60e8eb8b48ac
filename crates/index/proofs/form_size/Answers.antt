-- `index::form_size` meets its contract: an accepted form has an n as in a table. Assumes nothing.
use mathlib.Core.Path.{ap, ◌∙◌}
use Prim.Native.Nat.{ℕ, ◌^◌}
use native.Mathlib.Omega.{arith}
use Rattle.form.proofs.Accepting.{form-begins}
use Rattle.index.proofs.form_size.Goals as goal

pub point_count-requires : goal.point_count-requires
point_count-requires c = omega (arith, c.form_variables.ensures, (form-begins c.args.form.now c.requires).1)

pub returns : goal.returns
returns c = c.point_count.ensures ∙ ap (λ (n : ℕ). 2 ^ n) c.form_variables.ensures
