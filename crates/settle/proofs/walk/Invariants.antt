-- `settle::walk` meets its contract. The loop's invariant: the tables hold the walk's state after the items passed, within its bounds,
-- and are past it as they were. Assumes nothing.
use Rattle.settle.proofs.Turns.{Walked}
use Rattle.settle.proofs.walk.Given as goal

abbrev pub invariant-loop-i : goal.invariant-loop-i
invariant-loop-i l = Walked l.given l.initial.out l.code l.starts l.out l.far l.i
