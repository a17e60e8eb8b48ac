-- `index::product_seen` meets its contract: the factors so far and those that are left make the product. Assumes nothing.
use mathlib.Core.Path.{◌≡◌}
use mathlib.Core.Bool.{◌&&◌}
use Prim.Native.Nat.{◌+◌, ◌-◌, ◌*◌}
use lib.ListN.{length, drop}
use Rattle.product.specs.Product.{product_at}
use Rattle.form.specs.Decoding.{parts_from, WholeFactors}
use Rattle.form.specs.Counting.{factor_length}
use Rattle.index.specs.Changes.{factors_of_product}
use Rattle.index.proofs.product_seen.Given as goal

abbrev pub invariant-loop-holds : goal.invariant-loop-holds
invariant-loop-holds l = WholeFactors (drop l.next l.bytes)
    × (l.holds && product_at (parts_from 0 (drop l.next l.bytes)).factors l.point ≡ product_at (factors_of_product l.bytes l.place) l.point)
    × (l.next + factor_length * length (parts_from 0 (drop l.next l.bytes)).factors ≡ l.place + 1 + factor_length * length (factors_of_product l.bytes l.place))

abbrev pub decreases-loop-holds : goal.decreases-loop-holds
decreases-loop-holds l = length l.bytes - l.next
