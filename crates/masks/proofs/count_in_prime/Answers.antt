-- `masks::count_in_prime` meets its contract: one law for each way that the test can go. Assumes nothing.
use mathlib.Core.Path.{sym, ◌∙◌}
use native.Mathlib.Omega.{arith}
use lib.Pow.{pow_mono}
use Rattle.gf2.proofs.Xor.{shifted_one}
use Rattle.masks.proofs.PrimeTest.{entry-fitting, count-out, count-more, count-inside}
use Rattle.masks.proofs.count_in_prime.Goals as goal

pub every_point-inside-requires : goal.every_point-inside-requires
every_point-inside-requires c = entry-fitting c.requires.entry_at

pub overflow_shr-inside : goal.overflow_shr-inside
overflow_shr-inside c = let k = c.requires.entry_at in omega (arith, k.point, pow_mono k.few)

pub returns-then-inside-p-eq0 : goal.returns-then-inside-p-eq0
returns-then-inside-p-eq0 c =
    count-out c.requires.entry_at c.args.on c.args.free c.every_point-inside.result c.requires.on_points c.requires.free_points (omega arith) c.every_point-inside.ensures c.if-inside-p-eq0.true

pub overflow_shl-d : goal.overflow_shl-d
overflow_shl-d c = let k = c.requires.entry_at in omega (arith, k.few, k.short)

pub returns-then-inside-d : goal.returns-then-inside-d
returns-then-inside-d c =
    let k = c.requires.entry_at in
    let i = c.every_point-inside in
    count-more k c.args.on c.args.free i.result c.requires.on_points c.requires.free_points (omega arith) i.ensures (λ e. c.if-inside-d.true (e ∙ sym (shifted_one c.args.d 32 (omega (arith, k.few, k.short)))))

pub returns : goal.returns
returns c =
    let k = c.requires.entry_at in
    let i = c.every_point-inside in
    count-inside k c.args.on c.args.free i.result c.requires.on_points c.requires.free_points (omega arith) i.ensures c.if-inside-p-eq0.false
    (c.if-inside-d.false ∙ shifted_one c.args.d 32 (omega (arith, k.few, k.short)))
