-- `gf2::parity` meets its contract: `odd-ones`. Assumes nothing.
use mathlib.Core.Path.{sym}
use Rattle.gf2.proofs.Odd.{odd-ones}
use Rattle.gf2.proofs.parity.Goals as goal

pub returns : goal.returns
returns c = sym (odd-ones c.args.mask c.args.point)
