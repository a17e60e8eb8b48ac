-- `form_calls::form_at` meets its contract: the value of what is left, with what the product that the loop is in says so far, stays that of the
-- whole form. Assumes nothing.
use mathlib.Core.Path.{◌≡◌}
use Prim.Native.Nat.{◌-◌}
use lib.ListN.{length, drop}
use Rattle.form.specs.Form.{form_at}
use Rattle.form.specs.Decoding.{parts_from, decode_form}
use Rattle.form_calls.proofs.Valuing.{value_from, Rest}
use Rattle.form_calls.proofs.form_at.Given as goal

abbrev pub invariant-loop-place : goal.invariant-loop-place
invariant-loop-place l = Rest (drop l.place l.bytes) × (value_from l.holds (parts_from 0 (drop l.place l.bytes)) l.point ≡ form_at (decode_form l.bytes) l.point)

abbrev pub decreases-loop-place : goal.decreases-loop-place
decreases-loop-place l = length l.bytes - l.place
