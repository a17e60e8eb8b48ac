-- `writing::form_length` meets its contract: what is counted is the first record and the products passed. Assumes nothing.
use mathlib.Core.Path.{◌≡◌, refl, ap}
use Prim.Native.Nat.{◌≤◌}
use native.Mathlib.Numerals.{add-one}
use native.Mathlib.Omega.{arith}
use lib.ListN.{get_or}
use Rattle.choice.specs.declared.Prime.{Prime}
use Rattle.choice.specs.Chosen.{no_prime, prime_in}
use Rattle.choice.proofs.Products.{item-below, item-at}
use Rattle.writing.specs.Products.{products_length}
use Rattle.writing.proofs.Lengths.{lengths-few}
use Rattle.writing.proofs.form_length.Goals as goal

pub loop-prime-init : goal.loop-prime-init
unfolding products_length
loop-prime-init c = refl

pub overflow_add-length-in-loop-prime : goal.overflow_add-length-in-loop-prime
overflow_add-length-in-loop-prime c =
    let l = c.loop-prime in
    let s = c.as_slice-prime-items in
    let h = item-below c.args.choice.now s.result.now s.ensures.primes l.prime-index c.loop-prime-test.true in
    let k = c.requires.entry l.prime-index h in
    omega (arith, h, k.few, c.requires.few, lengths-few c.args.m c.args.choice.now.primes l.prime-index (λ z. k.few))

pub loop-prime-preserved : goal.loop-prime-preserved
unfolding products_length
loop-prime-preserved c =
    let l = c.loop-prime in
    let s = c.as_slice-prime-items in
    let q : (get_or s.result.now l.prime-index no_prime).degree ≡ (prime_in c.args.choice.now l.prime-index).degree =
    ap (λ (p : Prime). p.degree) (item-at c.args.choice.now s.result.now s.ensures.primes l.prime-index c.loop-prime-test.true) in
    rw (l.invariant, q, add-one) (omega arith)

pub overflow_add-result : goal.overflow_add-result
overflow_add-result c =
    let l = c.loop-prime in
    let s = c.as_slice-prime-items in
    let h : l.prime-index ≤ c.args.choice.now.count = omega (arith, s.ensures.number, l.auto.prime-index-end) in
    omega (arith, c.requires.few, lengths-few c.args.m c.args.choice.now.primes l.prime-index (λ z. (c.requires.entry 0 (omega arith)).few))

pub returns : goal.returns
returns c =
    let l = c.loop-prime in
    let s = c.as_slice-prime-items in
    let e : l.prime-index ≡ c.args.choice.now.count = omega (arith, s.ensures.number, c.loop-prime-test.false, l.auto.prime-index-end) in
    let q : products_length c.args.m c.args.choice.now.primes l.prime-index ≡ products_length c.args.m c.args.choice.now.primes c.args.choice.now.count =
    ap (products_length c.args.m c.args.choice.now.primes) e in
    omega arith
