-- `moves::exchange_each` meets its contract: the masks passed are moved, the others stand as they were. Assumes nothing.
use mathlib.Core.Path.{◌≡◌}
use Prim.Native.Nat.{ℕ, ◌^◌, ◌≤◌, ◌<◌}
use lib.ListN.{get_or}
use Rattle.moves.specs.Moves.{Moved}
use Rattle.moves.proofs.exchange_each.Given as goal

abbrev pub invariant-loop-mask : goal.invariant-loop-mask
invariant-loop-mask l = record {
  passed : (i : ℕ) → i < l.mask-index → Moved (2 ^ l.k) (get_or l.initial.mask-items i 0) (get_or l.mask-items i 0);
  left : (i : ℕ) → l.mask-index ≤ i → get_or l.mask-items i 0 ≡ get_or l.initial.mask-items i 0;
}
