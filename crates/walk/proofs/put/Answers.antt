-- `walk::put` meets its contract: stores, one after the other. Assumes nothing.
use mathlib.Core.Path.{◌≡◌, ap, ◌∙◌}
use native.Mathlib.Omega.{arith}
use Prim.Native.Nat.{◌*◌}
use lib.ListN.{length, take, length-append, length-take, length-drop, length-set}
use Rattle.bases.specs.Bases.{vectors_of}
use Rattle.walk.proofs.Records.{vectors-bytes, record-stored}
use Rattle.walk.proofs.put.Goals as goal
use Rattle.walk.proofs.put.Goals.{After-copy_from_slice}

bytes : (c : After-copy_from_slice) → c.copy_from_slice.new.self ≡ vectors_of 6 c.args.entry
bytes c = c.copy_from_slice.ensures.after ∙ ap (take 6) c.to_le_bytes.ensures ∙ vectors-bytes c.args.entry

pub bounds-room-at-3 : goal.bounds-room-at-3
bounds-room-at-3 c =
    let a = c.args in
    let i = 9 * a.k in
    simp (length-append, length-take, length-drop, length-set) (omega (arith, c.copy_from_slice.ensures.len))

pub returns : goal.returns
unfolding vectors_of
returns c =
    let a = c.args in
    let q = bytes (goal.at.returns c).After-copy_from_slice in
    record-stored a.room.now (9 * a.k) a.d a.p a.entry a.count c.copy_from_slice.new.self q (ap length q) (omega arith)
