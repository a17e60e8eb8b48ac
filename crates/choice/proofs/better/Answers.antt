-- `choice::better` meets its contract: one law for each way that the tests can go. Assumes nothing.
use mathlib.Core.Path.{sym, ◌∙◌, subst}
use Prim.Native.Nat.{ℕ}
use Rattle.gf2.proofs.Xor.{bit-zero}
use Rattle.gf2.proofs.Logic.{clash}
use Rattle.masks.specs.Points.{prime_by}
use Rattle.bases.specs.Entry.{EntryAt}
use Rattle.choice.proofs.Reductions.{six, entry-positive, holding-entry}
use Rattle.choice.proofs.Best.{better-wide, better-stays, better-fails, better-new}
use Rattle.choice.proofs.better.Goals as goal

pub returns-then-not-fits : goal.returns-then-not-fits
returns-then-not-fits c =
    let a = c.args in
    better-wide (prime_by a.m a.on 0) a.m a.d a.x a.entry a.best (sym c.fits.ensures ∙ c.if-not-fits.true)

pub least_point-point-requires : goal.least_point-point-requires
least_point-point-requires c = entry-positive c.args.d c.args.entry (six c.requires.search) c.requires.mem

pub returns-then-stays : goal.returns-then-stays
returns-then-stays c =
    let a = c.args in
    better-stays (prime_by a.m a.on 0) a.m a.d a.x a.entry a.best c.least_point-point.result c.least_point-point.ensures (sym c.stays.ensures ∙ c.if-stays.true)

pub is_prime-requires : goal.is_prime-requires
is_prime-requires c =
    let a = c.args in
    record {
      on_points = c.requires.search.inside;
      free_points = λ x t. clash t (bit-zero x);
      entry_at = subst (λ (z : ℕ). EntryAt a.m a.d z a.entry) (sym c.least_point-point.ensures) (holding-entry c.requires.search a.entry c.requires.mem (sym c.fits.ensures ∙ c.if-not-fits.false));
    }

pub returns-then-not-is_prime : goal.returns-then-not-is_prime
returns-then-not-is_prime c =
    let a = c.args in
    better-fails (prime_by a.m a.on 0) a.m a.d a.x a.entry a.best c.least_point-point.result c.least_point-point.ensures
    (sym c.is_prime.ensures ∙ c.if-not-is_prime.true)

pub returns : goal.returns
returns c =
    let a = c.args in
    better-new (prime_by a.m a.on 0) a.m a.d a.x a.entry a.best c.least_point-point.result c.least_point-point.ensures (sym c.fits.ensures ∙ c.if-not-fits.false)
    (sym c.stays.ensures ∙ c.if-stays.false) (sym c.is_prime.ensures ∙ c.if-not-is_prime.false)
