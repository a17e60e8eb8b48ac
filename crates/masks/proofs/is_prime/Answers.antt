-- `masks::is_prime` meets its contract: the count is 0 exactly if the candidate is no prime. Assumes nothing.
use Rattle.masks.proofs.PrimeTest.{count-nonzero}
use Rattle.masks.proofs.is_prime.Goals as goal

pub count_in_prime-requires : goal.count_in_prime-requires
count_in_prime-requires c = c.requires

pub returns : goal.returns
returns c =
    count-nonzero c.args.on c.args.free c.requires.entry_at c.count_in_prime.result c.count_in_prime.ensures
