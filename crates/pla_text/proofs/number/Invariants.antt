-- `pla_text::number` meets its contract. The loop's invariant: the digits that are left complete the number. Assumes nothing.
use mathlib.Core.Path.{◌≡◌}
use Prim.Native.Nat.{◌<◌}
use lib.ListN.{drop}
use Rattle.std.proofs.Common.{Some}
use Rattle.pla_text.specs.Numbers.{number_from, number_limit}
use Rattle.pla_text.proofs.number.Given as goal

abbrev pub invariant-loop-byte : goal.invariant-loop-byte
invariant-loop-byte l = (l.value < number_limit) × (number_from (Some l.value) (drop l.byte-index l.word) ≡ number_from (Some 0) l.word)
