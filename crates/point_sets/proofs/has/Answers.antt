-- `point_sets::has` meets its contract: the bit is the digit that is read. Assumes nothing.
use mathlib.Core.Path.{sym, ap, ◌∙◌}
use Prim.Native.Nat.{ℕ, ◌/◌, ◌%◌, ◌^◌}
use lib.Dec.{eqb}
use lib.ListN.{get_or}
use Rattle.gf2.proofs.Xor.{bit_is}
use Rattle.moves.specs.Moves.{mask_size}
use Rattle.point_sets.specs.Sets.{member}
use Rattle.point_sets.proofs.has.Goals as goal

pub returns : goal.returns
unfolding member
returns c =
    let x = c.args.x in
    ap (λ (word : ℕ). eqb (word / 2 ^ (x % mask_size) % 2) 1) c.word_of.ensures ∙ sym (bit_is (x % mask_size) (get_or c.args.set.now (x / mask_size) 0))
