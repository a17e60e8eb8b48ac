-- `choice::least_point` meets its contract: at each turn the vectors not passed yet are what is left to be cleared. Assumes nothing.
use mathlib.Core.Path.{◌≡◌}
use Prim.Native.Nat.{◌-◌}
use Rattle.gf2.specs.Basis.{reduce}
use Rattle.bases.specs.Bases.{vectors_of}
use Rattle.choice.specs.Search.{Positive}
use Rattle.choice.proofs.least_point.Given as goal

abbrev pub invariant-loop : goal.invariant-loop
invariant-loop l = Positive (vectors_of (l.d - l.counter) l.rest) × (reduce (vectors_of (l.d - l.counter) l.rest) l.point ≡ reduce (vectors_of l.d l.entry) l.x)
