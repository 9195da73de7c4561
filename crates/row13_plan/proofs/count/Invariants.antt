-- `row13_plan::count` meets its contract: the items passed that have the operation, and those to come, are all that have it. Assumes nothing.
use Prim.Native.Nat.{◌≤◌, ◌+◌, ◌*◌}
use mathlib.Core.Path.{◌≡◌}
use Rattle.section_items.specs.Items.{items_of, counted}
use Rattle.section_items.specs.Sections.{items_from}
use Rattle.row13_plan.proofs.count.Given as goal

abbrev pub invariant-loop-i : goal.invariant-loop-i
invariant-loop-i l = (l.k ≤ l.i) × (l.k + counted l.op (items_from l.items (6 * l.i)) ≡ counted l.op (items_of l.items))
