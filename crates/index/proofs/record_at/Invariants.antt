-- `index::record_at` meets its contract: the record so far and the products that are left make the form's record. Assumes nothing.
use mathlib.Core.Path.{◌≡◌}
use Prim.Native.Nat.{◌+◌, ◌≤◌}
use lib.ListN.{length, drop}
use Rattle.form.specs.Decoding.{parts_from, form_products}
use Rattle.index.specs.Records.{point_record_of}
use Rattle.index.proofs.Records.{record_from}
use Rattle.index.proofs.Reading.{Begun}
use Rattle.index.proofs.record_at.Given as goal

abbrev pub invariant-loop-number : goal.invariant-loop-number
invariant-loop-number l = Begun (drop l.place l.bytes) × (l.found.count ≤ l.number)
    × (l.number + length (parts_from 0 (drop l.place l.bytes)).products ≡ length (form_products l.bytes))
    × (record_from l.number l.found (parts_from 0 (drop l.place l.bytes)).products l.point ≡ point_record_of (form_products l.bytes) l.point)
