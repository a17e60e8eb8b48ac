-- `walsh::pass` meets its contract. The loop's invariant: the blocks before the place `start` are crossed, the numbers from there on are as they were.
-- Assumes nothing.
use Rattle.walsh.proofs.Passing.{Passing}
use Rattle.walsh.proofs.pass.Given as goal

abbrev pub invariant-loop-start : goal.invariant-loop-start
invariant-loop-start l = Passing l.quarter l.initial.numbers l.start l.numbers
