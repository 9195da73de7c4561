-- `row11_sizes::fault` meets its contract. The loop's invariant: the tables hold the state after the items passed, within its bounds,
-- and are past it as they were. Assumes nothing.
use Rattle.row11_sizes.proofs.Turns.{Walked}
use Rattle.row11_sizes.proofs.fault.Given as goal

abbrev pub invariant-loop-i : goal.invariant-loop-i
invariant-loop-i l = Walked l.items l.initial.code l.initial.lengths l.tables l.code l.lengths l.far l.i
