-- `bases::fits` meets its contract: 1 shifted by n is the number of points. Assumes nothing.
use mathlib.Core.Path.{ap}
use native.Mathlib.Omega.{arith}
use lib.Dec.{ltb}
use Rattle.gf2.proofs.Xor.{shifted_one}
use Rattle.bases.specs.Bases.{mask_of}
use Rattle.bases.proofs.fits.Goals as goal

pub returns : goal.returns
returns c = ap (ltb (mask_of c.args.entry)) (shifted_one c.args.n 64 (omega arith))
