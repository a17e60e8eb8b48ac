-- `text::Writer::number` meets its contract: the digits of a tenth come first. The measure is the number. Assumes nothing.
use Rattle.text.proofs.Writer.+number.Given as goal

abbrev pub decreases-number : goal.decreases-number
decreases-number l = l.n
