-- `form_calls::write_points` meets its contract: the points so far stand at the front of the room. Assumes nothing.
use mathlib.Core.Path.{◌≡◌}
use lib.ListN.{length, take}
use Rattle.gf2.specs.Finite.{select}
use Rattle.table.specs.Decision.{front}
use Rattle.form.specs.Form.{form_at}
use Rattle.form.specs.Decoding.{decode_form}
use Rattle.form_calls.proofs.write_points.Given as goal

abbrev pub invariant-loop-place : goal.invariant-loop-place
invariant-loop-place l =
    (goal.iterator-loop-place).can_next l.place-iterator × (goal.iterator-loop-place).is_finite l.place-iterator
    × (l.room ≡ front (take (length l.yielded) (select (form_at (decode_form l.bytes)) l.size)) l.initial.room)
