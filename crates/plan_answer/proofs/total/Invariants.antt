-- `total` meets its contract: what is summed and what is left are all. Assumes nothing.
use mathlib.Core.Path.{◌≡◌}
use Prim.Native.Nat.{◌+◌, ◌*◌, ◌≤◌}
use lib.ListN.{drop}
use Rattle.plan_answer.specs.Answered.{sums}
use Rattle.plan_answer.proofs.total.Given as goal

abbrev pub invariant-loop-n : goal.invariant-loop-n
invariant-loop-n l = (l.sum ≤ 4294967295 * l.n-index) × (l.sum + sums (drop l.n-index l.lengths) ≡ sums l.lengths)
