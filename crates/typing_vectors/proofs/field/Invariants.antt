-- `field` meets its contract: i digits make a number of at most i digits. Assumes nothing.
use Rattle.std.proofs.Common.{◌+◌, ◌^◌, ◌≤◌}
use Rattle.typing_vectors.proofs.field.Given as goal

abbrev pub invariant-loop-i : goal.invariant-loop-i
invariant-loop-i l = (l.n + 1 ≤ 10 ^ l.i)
