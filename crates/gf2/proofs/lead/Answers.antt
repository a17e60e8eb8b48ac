-- `gf2::lead` meets its contract: `lead-zeros` in a word of 16 digits. Assumes nothing.
use native.Mathlib.Omega.{arith}
use Rattle.gf2.proofs.Leads.{lead-zeros}
use Rattle.gf2.proofs.lead.Goals as goal

pub overflow_sub-result : goal.overflow_sub-result
overflow_sub-result c = omega (arith, lead-zeros 16 c.args.v c.requires c.ranges.v.fits)

pub returns : goal.returns
returns c = omega (arith, lead-zeros 16 c.args.v c.requires c.ranges.v.fits)
