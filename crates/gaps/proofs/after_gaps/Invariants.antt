-- `gaps::after_gaps` meets its contract: what comes after all separators is the same from each place on the way. Assumes nothing.
use Prim.Native.Nat.{◌≤◌, ◌-◌}
use lib.ListN.{length}
use Rattle.gaps.proofs.Gaps.{Passing}
use Rattle.gaps.proofs.after_gaps.Given as goal

abbrev pub invariant-loop-n : goal.invariant-loop-n
invariant-loop-n l = (l.i ≤ length l.text) × Passing l.text l.at l.i

abbrev pub decreases-loop-n : goal.decreases-loop-n
decreases-loop-n l = length l.text - l.i
