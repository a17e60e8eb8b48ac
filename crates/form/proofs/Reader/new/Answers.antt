-- `form::Reader::new` meets its contract: where no product has begun nothing is counted. Assumes nothing.
use mathlib.Core.Path.{refl}
use native.Mathlib.Omega.{arith}
use Rattle.form.specs.Counting.{factors_before}
use Rattle.form.proofs.Walking.{none-fit}
use Rattle.form.proofs.Reader.new.Goals as goal

pub invariant_of-result : goal.invariant_of-result
invariant_of-result c =
    let a = c.args in
    record { counted = record { few = c.requires.0; within = c.requires.1; begun = omega arith; room = omega arith; fitting = none-fit a.variables a.bytes.now a.place } }

pub returns-clause-behind : goal.returns-clause-behind
unfolding factors_before
returns-clause-behind c = refl
