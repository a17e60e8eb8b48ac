-- `listing::candidate_count` meets its contract: the numbers of candidates are those that crate `counts` computes. Assumes nothing.
use mathlib.Core.Path.{sym}
use Rattle.counts.proofs.Counts.{count_at}
use Rattle.listing.proofs.candidate_count.Goals as goal

pub returns : goal.returns
returns c = sym (count_at c.args.n c.requires)
