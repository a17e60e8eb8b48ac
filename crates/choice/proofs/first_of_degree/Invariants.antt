-- `choice::first_of_degree` meets its contract: the best of the entries passed so far is what `Best` says. Assumes nothing.
use Prim.Native.Nat.{◌+◌}
use Rattle.bases.specs.Bases.{start}
use Rattle.masks.specs.Points.{prime_by}
use Rattle.choice.proofs.Best.{Best}
use Rattle.choice.proofs.first_of_degree.Given as goal

abbrev pub invariant-loop-entry : goal.invariant-loop-entry
invariant-loop-entry l = Best (prime_by l.m l.on 0) l.m l.d l.x (start l.d + l.entry-index) l.best
