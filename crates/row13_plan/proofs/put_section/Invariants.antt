-- `row13_plan::put_section` meets its contract: what the items to come give, put after what stands, makes the whole section. Assumes nothing.
use Prim.Native.Nat.{◌≤◌, ◌*◌}
use Rattle.row13_plan.proofs.Turns.{Turn}
use Rattle.row13_plan.proofs.put_section.Given as goal

abbrev pub invariant-loop-i : goal.invariant-loop-i
invariant-loop-i l = (l.k ≤ l.i) × Turn l.section l.items l.lengths l.op l.initial.plan l.initial.at l.k (6 * l.i) l.plan l.at
