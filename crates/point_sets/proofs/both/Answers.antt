-- `point_sets::both` meets its contract: AND, word by word. Assumes nothing.
use mathlib.Core.Path.{◌≡◌, refl}
use mathlib.Core.Bool.{◌&&◌}
use Prim.Native.Nat.{ℕ}
use borrow.Author.Rules.{rules}
use lib.Bits.{bit_and}
use lib.ListN.{get_or}
use Rattle.gf2.proofs.Xor.{bit-and}
use Rattle.point_sets.proofs.Sets.{each-word, joined-member}
use Rattle.point_sets.proofs.both.Goals as goal

pub returns : goal.returns
returns c =
    let r = c.from_fn.result in
    let a = c.args.a.now in
    let b = c.args.b.now in
    let words = each-word (λ (i : ℕ). get_or r i 0 ≡ bit_and (get_or a i 0) (get_or b i 0)) (search rules) (search rules) (search rules) (search rules) in
    joined-member bit_and ◌&&◌ bit-and refl a b r c.told-a c.told-b c.from_fn.ensures.items.long words
