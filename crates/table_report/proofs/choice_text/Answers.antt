-- `table_report::choice_text` meets its contract: the lines of the primes passed are written. Assumes nothing.
use mathlib.Core.Path.{◌≡◌, sym, ap, subst}
use Prim.Native.Nat.{◌<◌}
use native.Mathlib.Omega.{arith}
use lib.ListN.{get_or}
use Rattle.basis.specs.Short.{listed}
use Rattle.choice.specs.declared.Prime.{Prime}
use Rattle.choice.specs.Search.{candidate_of, PrimeAt}
use Rattle.choice.specs.Chosen.{no_prime, prime_in, chosen_at}
use Rattle.choice.proofs.Products.{item-below, item-at}
use Rattle.text.proofs.Writing.{with-none, fits-piece, wrote-piece, wrote-pieces, fits-same, wrote-same}
use Rattle.lines.specs.Lines.{product_line}
use Rattle.cover.specs.WrittenForm.{product_by}
use Rattle.table_report.proofs.Parts.{choice-pieces}
use Rattle.table_report.proofs.choice_text.Goals as goal
use Rattle.table_report.proofs.choice_text.Goals.{In-loop-prime}

pub loop-prime-init : goal.loop-prime-init
loop-prime-init c = with-none _

-- The prime at the index is that of the choice.
below : (c : In-loop-prime) → c.loop-prime.prime-index < c.args.choice.now.count
below c = item-below c.args.choice.now c.as_slice-prime-items.result.now c.as_slice-prime-items.ensures.primes c.loop-prime.prime-index c.loop-prime-test.true

same : (c : In-loop-prime) → get_or c.as_slice-prime-items.result.now c.loop-prime.prime-index no_prime ≡ prime_in c.args.choice.now c.loop-prime.prime-index
same c = item-at c.args.choice.now c.as_slice-prime-items.result.now c.as_slice-prime-items.ensures.primes c.loop-prime.prime-index c.loop-prime-test.true

pub chosen_line-requires-clause-prime_at : goal.chosen_line-requires-clause-prime_at
chosen_line-requires-clause-prime_at c =
    let p = (goal.at.chosen_line-requires-clause-prime_at c).In-loop-prime in
    subst (PrimeAt c.args.m) (sym (same p)) (c.requires.choice.entry c.loop-prime.prime-index (below p))

pub chosen_line-requires-clause-fits : goal.chosen_line-requires-clause-fits
chosen_line-requires-clause-fits c =
    let p = (goal.at.chosen_line-requires-clause-fits c).In-loop-prime in
    let l = c.loop-prime in
    let a = c.args in
    fits-same (ap (λ (z : Prime). product_line a.n (product_by (listed a.equations) a.m (candidate_of z))) (sym (same p)))
    (fits-piece _ (λ k. product_line a.n (product_by (listed a.equations) a.m (chosen_at a.choice.now k))) l.prime-index l.invariant a.choice.now.count (choice-pieces a.n (listed a.equations) a.m a.choice.now) c.requires.fits (below p))

pub loop-prime-preserved : goal.loop-prime-preserved
loop-prime-preserved c =
    let p = (goal.at.loop-prime-preserved c).In-loop-prime in
    let l = c.loop-prime in
    let a = c.args in
    wrote-piece _ (λ k. product_line a.n (product_by (listed a.equations) a.m (chosen_at a.choice.now k))) l.prime-index l.invariant
    (wrote-same _ (ap (λ (z : Prime). product_line a.n (product_by (listed a.equations) a.m (candidate_of z))) (same p)) c.chosen_line.ensures)

pub returns : goal.returns
returns c =
    let l = c.loop-prime in
    let a = c.args in
    wrote-pieces _ (λ k. product_line a.n (product_by (listed a.equations) a.m (chosen_at a.choice.now k))) l.prime-index l.invariant a.choice.now.count (choice-pieces a.n (listed a.equations) a.m a.choice.now)
    (omega (arith, c.as_slice-prime-items.ensures.number, c.loop-prime-test.false, l.auto.prime-index-end))
