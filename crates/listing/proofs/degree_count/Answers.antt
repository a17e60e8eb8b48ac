-- `listing::degree_count` meets its contract: the numbers are those of `degree-at`. Assumes nothing.
use Rattle.counts.proofs.Degrees.{degree-at}
use Rattle.listing.proofs.degree_count.Goals as goal

pub returns : goal.returns
returns c = degree-at c.args.n c.args.d c.requires.n_le_max_listed c.requires.d_le_max_listed
