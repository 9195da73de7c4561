-- `typing::solve` meets its contract: the widths rise from zeros and stay below every solution. Assumes nothing.
use mathlib.Core.Path.{◌≡◌}
use Prim.Native.Nat.{ℕ, suc, ◌+◌, ◌-◌, ◌*◌, ◌≤◌}
use mathlib.Core.List.{List}
use lib.ListN.{length, get_or}
use Rattle.type_value.specs.Terms.{Term}
use Rattle.typing.specs.Solved.{Coded}
use Rattle.typing.proofs.Progress.{Progress, slack}
use Rattle.typing.proofs.solve.Given as goal

abbrev pub invariant-loop-i : goal.invariant-loop-i
invariant-loop-i l = (length l.ws ≡ length l.starts) × ((j : ℕ) → get_or l.ws j 0 ≤ 32) × ((ts : List Term) → Coded ts l.code l.starts l.ends → Progress ts l.ws l.i)

abbrev pub decreases-loop-i : goal.decreases-loop-i
decreases-loop-i l = slack l.ws * suc (length l.starts) + (length l.starts - l.i)
