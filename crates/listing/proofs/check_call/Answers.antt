-- `listing::check_call` meets its contract: one law for each way that the tests can go. Assumes nothing.
use mathlib.Core.Path.{sym}
use mathlib.Core.List.{[]}
use native.Mathlib.Omega.{arith}
use Rattle.std.proofs.lemmas.Result.{err_from_is_err_and}
use Rattle.table.specs.Answers.{number_of}
use Rattle.table.proofs.Results.{number-nonzero}
use Rattle.listing.proofs.Refusals.{listing-table, listing-size, listing-place, listing-sound}
use Rattle.listing.proofs.check_call.Goals as goal

pub returns-in_err-check_table : goal.returns-in_err-check_table
returns-in_err-check_table c =
    let a = c.args in
    let f = c.in_err-check_table.field-0.0 in
    let p = err_from_is_err_and c.from_residual.result c.from_residual.ensures.1 in
    rw (p.1, p.2) (sym (listing-table a.n a.on.now a.free.now a.place 0 [] (number_of f) (sym c.in_err-check_table.ensures) (number-nonzero f)))

pub returns-then-n-gt-MAX_LISTED : goal.returns-then-n-gt-MAX_LISTED
returns-then-n-gt-MAX_LISTED c = let a = c.args in sym (listing-size a.n a.on.now a.free.now a.place 0 [] (sym c.in_ok-check_table.ensures) c.if-n-gt-MAX_LISTED.true)

pub returns-then-place-candidate_count : goal.returns-then-place-candidate_count
returns-then-place-candidate_count c =
    let a = c.args in
    sym (listing-place a.n a.on.now a.free.now a.place 0 [] (sym c.in_ok-check_table.ensures) c.if-n-gt-MAX_LISTED.false
    (omega (arith, c.candidate_count.ensures, c.if-place-candidate_count.true)))

pub returns : goal.returns
returns c =
    let a = c.args in
    sym (listing-sound a.n a.on.now a.free.now a.place 0 [] (sym c.in_ok-check_table.ensures) c.if-n-gt-MAX_LISTED.false
    (omega (arith, c.candidate_count.ensures, c.if-place-candidate_count.false)))
