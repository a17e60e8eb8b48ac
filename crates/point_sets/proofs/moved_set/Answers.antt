-- `point_sets::moved_set` meets its contract: each word comes from the one that the high bits of v name, moved by the others. Assumes nothing.
use mathlib.Core.Path.{◌≡◌, refl}
use Prim.Native.Nat.{ℕ, ◌/◌}
use borrow.Author.Rules.{rules}
use lib.ListN.{get_or}
use Rattle.std.proofs.iter.Serving.{serving}
use Rattle.gf2.specs.Bits.{◌⊕◌}
use Rattle.moves.specs.Moves.{mask_size}
use Rattle.point_sets.proofs.Sets.{each-word, exchanged_word, moved-member}
use Rattle.point_sets.proofs.moved_set.Goals as goal

pub from_fn-exchanged-requires : goal.from_fn-exchanged-requires
from_fn-exchanged-requires c = grind (serving, exchanged_word)

pub returns : goal.returns
returns c =
    let s = c.args.set.now in
    let t = c.from_fn-exchanged.result in
    let h = c.args.v / mask_size in
    let words = each-word (λ (i : ℕ). get_or t i 0 ≡ get_or s (i ⊕ h) 0) (search rules) (search rules) (search rules) (search rules) in
    moved-member s t c.each_moved.result c.args.v h c.told-set c.from_fn-exchanged.ensures.items.long c.requires refl words c.each_moved.ensures
