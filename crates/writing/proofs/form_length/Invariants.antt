-- `writing::form_length` meets its contract: what is counted is the first record and the products passed. Assumes nothing.
use mathlib.Core.Path.{◌≡◌}
use Prim.Native.Nat.{◌+◌}
use Rattle.writing.specs.Products.{products_length}
use Rattle.writing.proofs.form_length.Given as goal

abbrev pub invariant-loop-prime : goal.invariant-loop-prime
invariant-loop-prime l = l.length ≡ 2 + products_length l.m l.fn.choice.primes l.prime-index
