-- `ranges::reversed` meets its contract: after k turns r is the k low bits, the lowest first. Assumes nothing.
use mathlib.Core.Path.{◌≡◌}
use Rattle.bits.specs.Reversal.{reversed_of}
use Rattle.ranges.proofs.reversed.Given as goal

abbrev pub invariant-loop-k : goal.invariant-loop-k
invariant-loop-k l = l.r ≡ reversed_of l.k l.a
