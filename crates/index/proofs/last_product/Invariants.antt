-- `index::last_product` meets its contract: past the products before it, one after the other, the last one begins. Assumes nothing.
use mathlib.Core.Path.{◌≡◌}
use Prim.Native.Nat.{◌+◌}
use lib.ListN.{length, drop}
use Rattle.form.specs.Decoding.{parts_from, form_products}
use Rattle.index.specs.Answers.{last_place}
use Rattle.index.proofs.Reading.{Begun, lasts_length}
use Rattle.index.proofs.last_product.Given as goal

abbrev pub invariant-loop-passed : goal.invariant-loop-passed
invariant-loop-passed l = Begun (drop l.place l.form) × (l.passed + length (parts_from 0 (drop l.place l.form)).products ≡ length (form_products l.form) + 1)
    × (l.place + lasts_length (parts_from 0 (drop l.place l.form)).products ≡ last_place l.form)
