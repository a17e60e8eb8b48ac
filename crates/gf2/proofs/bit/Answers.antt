-- `gf2::bit` meets its contract: `bit_is`. Assumes nothing.
use mathlib.Core.Path.{sym}
use Rattle.gf2.proofs.Xor.{bit_is}
use Rattle.gf2.proofs.bit.Goals as goal

pub returns : goal.returns
returns c = sym (bit_is c.args.place c.args.x)
