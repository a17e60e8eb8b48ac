-- `text::Writer::number` meets its contract: the digits of a tenth come first. Assumes nothing.
use mathlib.Core.List.{[], ◌∷◌}
use Prim.Native.Nat.{◌/◌, ◌%◌}
use native.Mathlib.Omega.{arith}
use Rattle.text.specs.Decimal.{digit, decimal}
use Rattle.text.proofs.Decimal.{decimal-one, decimal-more}
use Rattle.text.proofs.Writing.{fits-then, parts}
use Rattle.text.proofs.Writer.+number.Goals as goal

pub digit-requires-clause-fits : goal.digit-requires-clause-fits
digit-requires-clause-fits t c = rw (decimal-one c.args.n c.if-n-lt10.true) at c.requires

pub returns-then-n-lt10 : goal.returns-then-n-lt10
returns-then-n-lt10 t c = rw (decimal-one c.args.n c.if-n-lt10.true) c.digit.ensures

pub number-requires : goal.number-requires
number-requires t c = (omega arith, grind (arith, parts, decimal-more c.args.n c.if-n-lt10.false))

pub digit-requires-2-clause-fits : goal.digit-requires-2-clause-fits
digit-requires-2-clause-fits t c =
    let n = c.args.n in
    rw c.number.ensures (fits-then (decimal (n / 10)) (digit (n % 10) ∷ []) (rw (decimal-more n c.if-n-lt10.false) at c.requires))

pub returns : goal.returns
returns t c = grind (arith, parts, decimal-more c.args.n c.if-n-lt10.false)
