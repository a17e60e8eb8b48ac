-- `pla_cubes::inputs_of` meets its contract. The loop's invariant: the first i symbols are written. Assumes nothing.
use mathlib.Core.Path.{◌≡◌, ap, ◌∙◌}
use native.Mathlib.Omega.{arith}
use native.Mathlib.Numerals.{add-one}
use lib.ListN.{length-set, get_or}
use lib.Seq.{take-suc, take-suc-set}
use Rattle.std.specs.Option.{unwrap_or}
use Rattle.std.proofs.lemmas.Option.{unwrap_or-slice_get}
use Rattle.pla_text.specs.Text.{symbols_of}
use Rattle.pla_cubes.proofs.inputs_of.Goals as goal

pub loop-i-preserved : goal.loop-i-preserved
loop-i-preserved c =
    let l = c.loop-i in
    let s = symbols_of c.args.content.now in
    let symbol : c.unwrap_or.result ≡ get_or s l.i 45 = c.unwrap_or.ensures ∙ ap (λ o. unwrap_or o 45) c.symbol_at.ensures ∙ unwrap_or-slice_get s l.i 45 in (
      simp length-set l.invariant.0,
      rw (add-one, take-suc-set l.inputs l.i _ (omega (arith, l.invariant.0)), take-suc s l.i 45 (omega (arith, c.requires.n_in_bounds)), l.invariant.1, symbol),
    )
