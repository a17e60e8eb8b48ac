-- Laws of specs.Form: the points of a form are those below 2 ^ n at which it is true, and they rise. Read next: Walking.
use mathlib.Core.Path.{◌≡◌}
use mathlib.Core.Bool.{true}
use mathlib.Core.Logic.{◌↔◌}
use Prim.Native.Nat.{ℕ, ◌<◌, ◌^◌}
use Rattle.gf2.specs.Finite.{Mem, Rising}
use Rattle.gf2.proofs.Finite.{select-mem, mem-select, select-rising}
use Rattle.form.specs.Form.{Form, form_at, form_points}

pub form-point : (f : Form) (p : ℕ) → Mem p (form_points f) ↔ ((p < 2 ^ f.variables) × (form_at f p ≡ true))
unfolding form_points
form-point f p = (select-mem (form_at f) (2 ^ f.variables) p, λ h. mem-select (form_at f) (2 ^ f.variables) p h.0 h.1)

pub form-points-rise : (f : Form) → Rising (form_points f)
unfolding form_points
form-points-rise f = select-rising (form_at f) (2 ^ f.variables)
