-- `sum` meets its contract: after i turns the total is that of i numbers, and `at` is the place of the next. Assumes nothing.
use Prim.Native.Nat.{◌+◌, ◌*◌, ◌≤◌}
use mathlib.Core.Path.{◌≡◌}
use Rattle.plan.specs.Layout.{sum_of}
use Rattle.plan.proofs.layout.sum.Given as goal

abbrev pub invariant-loop-i : goal.invariant-loop-i
invariant-loop-i l = (l.at ≡ l.from + l.step * l._i) × (l.at ≤ l.from + 3 * l._i) × (l.total ≡ sum_of l.plan l.from l.step l._i) × (l.total ≤ 4294967295 * l._i)
