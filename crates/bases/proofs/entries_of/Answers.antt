-- `bases::entries_of` meets its contract: the part of the table between two ends. Assumes nothing.
use mathlib.Core.Path.{ap, ◌∙◌}
use Prim.Native.Nat.{◌+◌, ◌-◌}
use lib.ListN.{get_or}
use borrow.Rule.Slice.PartMut.{mid_of}
use Rattle.bases.proofs.Bounds.{ends, part-entries}
use Rattle.bases.proofs.entries_of.Goals as goal

pub returns : goal.returns
returns c =
    let d = c.args.d in
    ap (mid_of (get_or ends (d + 1) 0) (get_or ends d 0 - get_or ends (d + 1) 0)) c.table.ensures ∙ part-entries d c.requires
