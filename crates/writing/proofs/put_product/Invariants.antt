-- `writing::put_product` meets its contract: the factors passed are written behind the kind. Assumes nothing.
use mathlib.Core.Path.{◌≡◌}
use Prim.Native.Nat.{◌+◌, ◌*◌}
use lib.ListN.{take}
use lib.Seq.{sets}
use Rattle.form.specs.Encoding.{encode_factors}
use Rattle.factors.specs.Factors.{product_in}
use Rattle.writing.proofs.put_product.Given as goal

abbrev pub invariant-loop-i : goal.invariant-loop-i
invariant-loop-i l = (l.place ≡ l.at + 1 + 4 * l.i) × (l.room ≡ sets l.initial.room (l.at + 1) (encode_factors (take l.i (product_in l.fn.factors))))
