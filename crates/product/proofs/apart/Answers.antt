-- `product::apart` meets its contract: two of the three demands are enough, `apart-two`. Assumes nothing.
use mathlib.Core.Path.{sym}
use native.Mathlib.Omega.{arith}
use borrow.Author.Tests.{lt-ltb, le-ltb}
use Rattle.product.proofs.LowestBit.{lowest-fits}
use Rattle.product.proofs.Product.{apart-two}
use Rattle.product.proofs.apart.Goals as goal

pub bit-requires : goal.bit-requires
bit-requires c =
    omega (arith, c.lowest-high.ensures, lowest-fits 16 c.args.first c.requires.0 c.ranges.first.fits)

pub returns-then-low-high : goal.returns-then-low-high
returns-then-low-high c =
    sym (rw (
      apart-two c.args.first c.args.second c.requires.0,
      ← c.lowest-high.ensures,
      ← c.lowest-low.ensures,
      lt-ltb _ _ c.if-low-high.true,
      ← c.bit.ensures,
    ))

pub returns-else-low-high : goal.returns-else-low-high
returns-else-low-high c =
    sym (rw (
      apart-two c.args.first c.args.second c.requires.0,
      ← c.lowest-high.ensures,
      ← c.lowest-low.ensures,
      le-ltb _ _ c.if-low-high.false,
    ))
