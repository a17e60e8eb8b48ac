-- `bases::avoided` meets its contract: 1 shifted by n is the number of points. Assumes nothing.
use mathlib.Core.Path.{ap}
use Prim.Native.Nat.{ℕ, ◌+◌, ◌-◌}
use native.Mathlib.Omega.{arith}
use lib.Pow.{pow_mono}
use Rattle.gf2.proofs.Xor.{shifted_one}
use Rattle.bases.proofs.avoided.Goals as goal

pub overflow_sub-result : goal.overflow_sub-result
overflow_sub-result c = omega (arith, shifted_one c.args.n 64 (omega (arith, c.requires.n_le_max_listed)), pow_mono c.requires.n_le_max_listed)

pub overflow_add-result : goal.overflow_add-result
overflow_add-result c = omega (arith, shifted_one c.args.n 64 (omega (arith, c.requires.n_le_max_listed)), pow_mono c.requires.n_le_max_listed, c.requires.p_bound)

pub returns : goal.returns
returns c = ap (λ (z : ℕ). c.args.p + (64 - z)) (shifted_one c.args.n 64 (omega (arith, c.requires.n_le_max_listed)))
