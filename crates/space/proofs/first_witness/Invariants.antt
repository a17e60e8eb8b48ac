-- `space::first_witness` meets its contract. The inner loop's invariant: the points below p don't break closure under a; the outer one's: no
-- point does under the vectors before this one. Assumes nothing.
use mathlib.Core.Path.{◌≡◌}
use Prim.Native.Nat.{ℕ, ◌^◌, ◌<◌}
use lib.ListN.{take}
use Rattle.std.specs.Prelude.{None}
use Rattle.gf2.specs.Finite.{Mem}
use Rattle.space.specs.Witness.{flagged, Agrees}
use Rattle.space.proofs.first_witness.Given as goal

abbrev pub invariant-search : goal.invariant-search
invariant-search l = record {
  none : l.found ≡ None;
  vectors : (u : ℕ) → Mem u (take l.a-index l.vectors) → (q : ℕ) → q < 2 ^ l.n → Agrees (flagged l.flags) u q;
}

abbrev pub invariant-loop-p : goal.invariant-loop-p
invariant-loop-p l = record { none : l.found ≡ None; points : (q : ℕ) → q < l.p → Agrees (flagged l.flags) l.vector q }
