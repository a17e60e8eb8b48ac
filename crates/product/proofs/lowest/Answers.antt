-- `product::lowest` meets its contract: `lowest-zeros` in a word of 16 digits. Assumes nothing.
use Rattle.product.proofs.LowestBit.{lowest-zeros}
use Rattle.product.proofs.lowest.Goals as goal

pub returns : goal.returns
returns c = lowest-zeros 16 c.args.mask c.requires c.ranges.mask.fits
