-- `writing::put_form` meets its contract: the first record, the products behind it, and the end record behind these. Assumes nothing.
use mathlib.Core.Path.{◌≡◌, ap, ◌∙◌}
use mathlib.Core.List.{List}
use Prim.Native.Nat.{ℕ}
use native.Mathlib.Omega.{arith}
use lib.ListN.{length, set, length-set}
use lib.Seq.{sets, length-sets}
use Rattle.basis.specs.Short.{listed}
use Rattle.records.specs.Kinds.{variables_kind, encode_end}
use Rattle.form.specs.Encoding.{encode_products}
use Rattle.choice.specs.Chosen.{products_by}
use Rattle.writing.proofs.Bytes.{stored-length}
use Rattle.writing.proofs.Lengths.{form-stored}
use Rattle.writing.proofs.put_form.Goals as goal

pub bounds-room-1 : goal.bounds-room-1
bounds-room-1 c = simp length-set (omega arith)

-- The room is as long as it was when the products are written behind the first record.
long : (n : ℕ) (products room behind : List ℕ) → behind ≡ sets (set (set room 0 variables_kind) 1 n) 2 products → length behind ≡ length room
long n products room behind e = stored-length room variables_kind n products behind e

pub put_end-requires : goal.put_end-requires
put_end-requires c =
    let p = c.put_products-at in
    omega (arith, long c.args.n (encode_products (products_by (listed c.args.equations) c.args.m c.args.choice.now c.args.choice.now.count)) c.args.room.now p.new.room p.ensures.room_after, p.ensures.value, c.requires.choice_in_bounds)

pub shape_of-room : goal.shape_of-room
shape_of-room c =
    let p = c.put_products-at in
    ap length c.put_end.ensures ∙ length-sets p.new.room p.result (encode_end c.args.choice.now.count)
    ∙ long c.args.n (encode_products (products_by (listed c.args.equations) c.args.m c.args.choice.now c.args.choice.now.count)) c.args.room.now p.new.room p.ensures.room_after

pub returns : goal.returns
returns c =
    let a = c.args in
    let p = c.put_products-at in
    form-stored (listed a.equations) a.m a.choice.now c.requires.choice a.n p.result a.room.now p.new.room c.put_end.new.room
    p.ensures.value c.requires.choice_in_bounds p.ensures.room_after c.put_end.ensures
