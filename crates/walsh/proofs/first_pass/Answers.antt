-- `walsh::first_pass` meets its contract: with an even number of variables nothing is done, with an odd one a pass by halves. Assumes nothing.
use mathlib.Core.Path.{◌≡◌}
use Prim.Native.Nat.{◌%◌}
use native.Mathlib.Omega.{arith}
use Rattle.walsh.proofs.Transforming.{blocks-even, halves-whole, halves_small, blocks-odd}
use Rattle.walsh.proofs.first_pass.Goals as goal
use Rattle.walsh.proofs.first_pass.Goals.{Else-n-eq0}

pub returns-then-n-eq0 : goal.returns-then-n-eq0
returns-then-n-eq0 c = blocks-even c.args.n c.args.numbers.now c.if-n-eq0.true c.requires

-- Past the test: n is odd.
is_odd : (c : Else-n-eq0) → c.args.n % 2 ≡ 1
is_odd c = let left = c.if-n-eq0.false in omega arith

pub cross_halves-requires : goal.cross_halves-requires
cross_halves-requires c =
    record {
      numbers_len = halves-whole c.args.n c.args.numbers.now (is_odd (goal.at.cross_halves-requires c).Else-n-eq0) c.requires;
      summable = halves_small c.args.n c.args.numbers.now (is_odd (goal.at.cross_halves-requires c).Else-n-eq0) c.requires;
    }

pub shape_of-numbers : goal.shape_of-numbers
shape_of-numbers c = c.cross_halves.ensures.long

pub returns : goal.returns
returns c =
    blocks-odd c.args.n c.args.numbers.now (is_odd (goal.at.returns c).Else-n-eq0) c.requires c.cross_halves.new.numbers
    c.cross_halves.ensures
