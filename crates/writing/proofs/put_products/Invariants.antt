-- `writing::put_products` meets its contract: the products of the candidates passed are written one behind the other. Assumes nothing.
use mathlib.Core.Path.{◌≡◌}
use Prim.Native.Nat.{◌+◌}
use lib.Seq.{sets}
use Rattle.basis.specs.Short.{listed}
use Rattle.form.specs.Encoding.{encode_products}
use Rattle.choice.specs.Chosen.{products_by}
use Rattle.writing.specs.Products.{products_length}
use Rattle.writing.proofs.put_products.Given as goal

abbrev pub invariant-loop-prime : goal.invariant-loop-prime
invariant-loop-prime l = (l.at ≡ 2 + products_length l.m l.fn.choice.primes l.prime-index)
    × (l.room ≡ sets l.initial.room 2 (encode_products (products_by (listed l.equations) l.m l.fn.choice l.prime-index)))
