-- `closure_set::spread_flags` meets its contract: the flags of the points below w are stored. Assumes nothing.
use mathlib.Core.Path.{◌≡◌}
use mathlib.Core.Bool.{false}
use Prim.Native.Nat.{ℕ, ◌^◌, ◌<◌}
use lib.ListN.{length, get_or}
use Rattle.gf2.specs.Limits.{max_variables}
use Rattle.point_sets.specs.Sets.{member}
use Rattle.closure_set.proofs.spread_flags.Given as goal

abbrev pub invariant-loop-w : goal.invariant-loop-w
invariant-loop-w l = record {
  long : length l.flags ≡ 2 ^ max_variables;
  stored : (x : ℕ) → x < l.w → get_or l.flags x false ≡ member l.points x;
}
