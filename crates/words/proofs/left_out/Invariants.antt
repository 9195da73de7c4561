-- `words::left_out` meets its contract: it is the earliest of the words from i on, from the last one back to the first. Assumes nothing.
use Rattle.std.proofs.Common.{◌≡◌}
use Rattle.words.proofs.Whole.{left_from}
use Rattle.words.proofs.left_out.Given as goal

abbrev pub invariant-loop-i : goal.invariant-loop-i
invariant-loop-i l = l.first ≡ left_from l.table l.i l.n
