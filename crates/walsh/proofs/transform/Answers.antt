-- `walsh::transform` meets its contract. The loop's invariant: whatever list the numbers before the loop come from, the numbers now come from it, too, with
-- fewer variables left. Assumes nothing.
use mathlib.Core.Path.{sym, ◌∙◌}
use Rattle.walsh.specs.Numbers.{Transformed}
use Rattle.walsh.proofs.Transforming.{blocks-asked, blocks-next, blocks_end}
use Rattle.walsh.proofs.transform.Goals as goal
use Rattle.walsh.proofs.transform.Goals.{After-loop-block}

pub first_pass-block-requires : goal.first_pass-block-requires
first_pass-block-requires c = c.requires

pub loop-block-init : goal.loop-block-init
loop-block-init c = λ xs t. t

pub pass-requires : goal.pass-requires
pass-requires c =
    let loop = c.loop-block in
    let xs = c.args.numbers.now in
    blocks-asked c.args.n xs loop.block loop.numbers c.loop-block-test.true (loop.invariant xs c.first_pass-block.ensures)

pub loop-block-preserved : goal.loop-block-preserved
loop-block-preserved c =
    let loop = c.loop-block in
    λ xs t. blocks-next c.args.n xs loop.block loop.numbers c.loop-block-test.true (loop.invariant xs t) c.pass.new.numbers
    c.pass.ensures

-- Past the loop: a block is one number.
ended : (c : After-loop-block) → Transformed c.args.n c.args.numbers.now c.loop-block.numbers
ended c =
    let loop = c.loop-block in
    let xs = c.args.numbers.now in
    blocks_end c.args.n xs loop.block loop.numbers c.loop-block-test.false (loop.invariant xs c.first_pass-block.ensures)

pub shape_of-numbers : goal.shape_of-numbers
shape_of-numbers c = (ended c).long ∙ sym c.requires.long

pub returns : goal.returns
returns c = ended c
