-- `lines::factors_text` meets its contract: the factors passed are written. Assumes nothing.
use mathlib.Core.Path.{◌≡◌}
use Prim.Native.Nat.{min}
use native.Mathlib.Omega.{arith}
use Rattle.std.proofs.Common.{rules}
use lib.ListN.{length}
use Rattle.std.proofs.lemmas.List.{length_push}
use Rattle.std.proofs.lemmas.Slice.Zip.{zip_turn, zip_end}
use Rattle.text.proofs.Writing.{with-none, fits-piece, wrote-piece, wrote-pieces}
use Rattle.lines.proofs.Lines.{factor_at, factors-pieces}
use Rattle.lines.proofs.factors_text.Goals as goal

pub loop-constant-init : goal.loop-constant-init
loop-constant-init c = with-none _

pub factor_text-requires-clause-fits : goal.factor_text-requires-clause-fits
factor_text-requires-clause-fits c =
    let a = c.args in
    let t = zip_turn a.constants.now a.masks.now c.loop-constant.yielded _ _ c.next.new.self _ (search rules) (search rules) c.loop-constant.yielded_by _ c.in-Some.is c.next.ensures.steps in
    rw (t.2 0, t.3 0)
    (fits-piece _ (factor_at a.n a.constants.now a.masks.now) (length c.loop-constant.yielded) c.loop-constant.invariant (length a.masks.now) (factors-pieces a.n a.constants.now a.masks.now c.requires.constants_len) c.requires.fits t.1)

pub loop-constant-preserved : goal.loop-constant-preserved
loop-constant-preserved c =
    let a = c.args in
    let t = zip_turn a.constants.now a.masks.now c.loop-constant.yielded _ _ c.next.new.self _ (search rules) (search rules) c.loop-constant.yielded_by _ c.in-Some.is c.next.ensures.steps in
    rw (length_push c.loop-constant.yielded (c.in-Some.field-0-0, c.in-Some.field-0-1))
    (wrote-piece _ (factor_at a.n a.constants.now a.masks.now) (length c.loop-constant.yielded) c.loop-constant.invariant (rw (t.2 0, t.3 0) at c.factor_text.ensures))

pub returns : goal.returns
returns c =
    let a = c.args in
    let t : length c.loop-constant.yielded ≡ min (length a.constants.now) (length a.masks.now)
    = zip_end a.constants.now a.masks.now c.loop-constant.yielded _ _ c.next.new.self _ (search rules) (search rules) c.loop-constant.yielded_by c.in-None.is c.next.ensures.steps in
    wrote-pieces _ (factor_at a.n a.constants.now a.masks.now) (length c.loop-constant.yielded) c.loop-constant.invariant (length a.masks.now) (factors-pieces a.n a.constants.now a.masks.now c.requires.constants_len)
    (omega (arith, t, c.requires.constants_len))
