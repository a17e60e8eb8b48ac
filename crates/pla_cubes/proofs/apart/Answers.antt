-- `pla_cubes::apart` meets its contract: no point below the bound has both flags. Assumes nothing.
use Rattle.std.proofs.Common.{rules, ◌∙◌, ap, not, ◌&&◌}
use borrow.Author.Tests.{tests}
use lib.Pow.{pow_mono}
use lib.ListN.{take, get_or}
use Rattle.gf2.specs.Finite.{all}
use Rattle.std.proofs.lemmas.Iterator.{YieldsList-from_slice}
use Rattle.std.proofs.lemmas.Iterator.Search.{any_from_yields_List}
use Rattle.pla_cubes.specs.Flagging.{unsaid}
use Rattle.pla_cubes.proofs.Marking.{none-below}
use Rattle.pla_cubes.proofs.apart.Goals as goal

pub shared_ref_as_front-iter : goal.shared_ref_as_front-iter
shared_ref_as_front-iter c = rw c.point_count-size.ensures (pow_mono c.requires)

pub returns : goal.returns
returns c =
    let flags = c.args.flags.now in
    let size = c.point_count-size.ensures in
    let found = any_from_yields_List (λ said. said.one && said.zero) _ _ c.any.result c.any.ensures.ran (YieldsList-from_slice (take c.point_count-size.result flags) (search rules)) (λ x b q k. (search rules, search (rules, tests))) in
    ap not found
    ∙ none-below (λ said. said.one && said.zero) flags unsaid c.point_count-size.result (rw (size, c.told-flags) (pow_mono c.requires))
    ∙ ap (all (λ p. not ((get_or flags p unsaid).one && (get_or flags p unsaid).zero))) size
