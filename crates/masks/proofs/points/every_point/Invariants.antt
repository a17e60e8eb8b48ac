-- `masks::points::every_point` meets its contract: at each turn the vectors not passed yet are what is left of the fold. Assumes nothing.
use mathlib.Core.Path.{◌≡◌}
use Prim.Native.Nat.{◌-◌}
use Rattle.gf2.specs.Bits.{bit}
use Rattle.cubes.specs.Primes.{every_point}
use Rattle.bases.specs.Bases.{vectors_of}
use Rattle.masks.specs.Points.{Fitting}
use Rattle.masks.proofs.points.every_point.Given as goal

abbrev pub invariant-loop : goal.invariant-loop
invariant-loop l = Fitting (vectors_of (l.d - l.counter) l.rest) × (every_point (λ y. bit y l.every) (vectors_of (l.d - l.counter) l.rest) ≡ every_point (λ y. bit y l.mask) (vectors_of l.d l.entry))
