-- `writing::put_factor` meets its contract: the kind, the constant, then the mask behind them. Assumes nothing.
use mathlib.Core.Path.{◌∙◌, ap}
use native.Mathlib.Numerals.{towards_suc}
use native.Mathlib.Omega.{arith}
use lib.ListN.{length, length-set}
use Rattle.form.specs.Encoding.{encode_factors}
use Rattle.writing.proofs.put_factor.Goals as goal

pub bounds-room-at-2 : goal.bounds-room-at-2
bounds-room-at-2 c = simp length-set (omega arith)

pub put_word-requires : goal.put_word-requires
put_word-requires c = simp length-set (omega arith)

pub shape_of-room : goal.shape_of-room
shape_of-room c = ap length c.put_word.ensures ∙ simp length-set

pub returns : goal.returns
unfolding encode_factors
returns c = c.put_word.ensures ∙ simp towards_suc
