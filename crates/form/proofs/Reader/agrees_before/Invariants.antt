-- `form::Reader::agrees_before` meets its contract: the factors are compared from the last to the first, and those still left decide as all do.
-- Assumes nothing.
use Prim.Native.Nat.{ℕ, ◌-◌, ◌*◌}
use mathlib.Core.Path.{◌≡◌}
use Rattle.product.specs.Product.{AllFit, factor, agrees}
use Rattle.form.specs.Counting.{factor_length, factors_before}
use Rattle.form.proofs.Reader.agrees_before.Given as goal

abbrev pub invariant-loop-behind : goal.invariant-loop-behind
invariant-loop-behind l = AllFit l.self.variables (factors_before (l.behind-end - l.behind) l.self.bytes.now (l.self.place - factor_length * l.behind))
    × ((constant : ℕ) → agrees (factors_before (l.behind-end - l.behind) l.self.bytes.now (l.self.place - factor_length * l.behind)) (factor constant l.mask) ≡ agrees (factors_before l.behind-end l.self.bytes.now l.self.place) (factor constant l.mask))
