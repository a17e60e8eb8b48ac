-- `index::put_form` meets its contract: three parts one after the other, from the front of the room on. Assumes nothing.
use mathlib.Core.Path.{◌≡◌, sym, ap, ◌∙◌}
use mathlib.Core.List.{List, ◌++◌, append_assoc}
use Prim.Native.Nat.{ℕ, ◌+◌, ◌-◌, ◌≤◌}
use native.Mathlib.Omega.{arith}
use borrow.Rule.Slice.PartMut.{post_of, put_mid, Post-is}
use lib.ListN.{length, drop, take, length-append}
use lib.Seq.{sets, sets-eq, length-sets}
use Rattle.records.specs.Kinds.{encode_end}
use Rattle.table.proofs.Fill.{sets-append, sets-front}
use Rattle.index.proofs.put_form.Goals as goal

-- A part of the room that a list is copied over.
copied : (room : List ℕ) (place : ℕ) (list now : List ℕ) → place + length list ≤ length room → now ≡ list → put_mid place (place + length list - place) room now ≡ sets room place list
copied room place list now h e =
    let rest : post_of place (place + length list - place) room ≡ drop (place + length list) room = Post-is place (place + length list) room (omega arith) in
    rw (e, rest) (sym (sets-eq list room place h ∙ append_assoc (take place room) list (drop (place + length list) room)))

pub returns : goal.returns
returns c =
    let room = c.args.room.now in
    let kept = c.args.kept.now in
    let added = c.args.added.now in
    let end = encode_end c.args.products in
    let next = length kept in
    let first : c.copy_from_slice.new.self ++ drop next room ≡ sets room 0 kept = ap (λ (l : List ℕ). l ++ drop next room) c.copy_from_slice.ensures.after ∙ sym (sets-front room kept (omega (arith, c.requires))) in
    let both : put_mid next (next + length added - next) (c.copy_from_slice.new.self ++ drop next room) c.copy_from_slice-2.new.self ≡ sets room 0 (kept ++ added) =
    copied (c.copy_from_slice.new.self ++ drop next room) next added c.copy_from_slice-2.new.self (omega (arith, c.requires, ap length first, length-sets room 0 kept)) c.copy_from_slice-2.ensures.after
    ∙ ap (λ (l : List ℕ). sets l next added) first ∙ sets-append room 0 kept added next (omega arith) in
    c.put_end.ensures ∙ ap (λ (l : List ℕ). sets l (next + length added) end) both ∙ sets-append room 0 (kept ++ added) end (next + length added) (omega (arith, length-append kept added))
    ∙ sets-front room ((kept ++ added) ++ end) (omega (arith, c.requires, length-append (kept ++ added) end, length-append kept added))
