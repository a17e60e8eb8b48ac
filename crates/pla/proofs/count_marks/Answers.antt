-- `pla::count_marks` meets its contract: the points that have a mark are counted. Assumes nothing.
use Rattle.std.proofs.Common.{rules, arith, ◌∙◌, ap, ◌||◌, length}
use lib.ListN.{take}
use lib.Pow.{pow_mono}
use Rattle.std.proofs.lemmas.Iterator.{YieldsList-from_slice}
use Rattle.std.proofs.lemmas.Iterator.Consumers.{YieldsList-from_filter, count_from_yields_List}
use Rattle.pla_cubes.specs.Meaning.{free_by}
use Rattle.pla_cubes.specs.Flagging.{unsaid}
use Rattle.pla.specs.Table.{marks_below, flag_on, flag_free}
use Rattle.pla.proofs.Marking.{marks-counted}
use Rattle.pla.proofs.count_marks.Goals as goal

pub shared_ref_as_front-iter : goal.shared_ref_as_front-iter
shared_ref_as_front-iter c = rw c.point_count-size.ensures (pow_mono c.requires)

pub returns : goal.returns
returns c =
    let kind = c.args.kind in
    let flags = c.args.flags.now in
    let size = c.point_count-size.ensures in
    count_from_yields_List _ _ c.count.ensures.ran
    (YieldsList-from_filter _ (λ said. said.one || free_by kind said.zero said.dash) (YieldsList-from_slice (take c.point_count-size.result flags) (search rules)) c.filter.ensures.closure
    (λ x b q k. (search rules, grind (arith, k))))
    ∙ marks-counted (λ said. said.one) (λ said. free_by kind said.zero said.dash) flags unsaid c.point_count-size.result (rw (size, c.told-flags) (pow_mono c.requires))
    ∙ ap (λ k. length (marks_below (flag_on flags) (flag_free kind flags) k)) size
