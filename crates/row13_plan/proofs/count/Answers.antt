-- `row13_plan::count` meets its contract: the items passed that have the operation, and those to come, are all that have it. Assumes nothing.
use Prim.Native.Nat.{◌+◌, ◌*◌}
use native.Mathlib.Omega.{arith}
use Rattle.section_items.proofs.Items.{count_here, count_past, count_end}
use Rattle.row13_plan.proofs.count.Goals as goal
use Rattle.row13_plan.proofs.count.Goals.{then-items-i, else-items-i}

pub loop-i-preserved : goal.loop-i-preserved
loop-i-preserved c =
    let t = c.args.items.now in
    let i = c.loop-i.i in
    elim c.if-items-i.branch [
      | then-items-i w ↦ (omega arith, omega (arith, count_here t (6 * i) (6 * (i + 1)) (omega arith) (omega arith) w.if-items-i.true))
      | else-items-i w ↦ (omega arith, omega (arith, count_past t (6 * i) (6 * (i + 1)) (omega arith) (omega arith) w.if-items-i.false))
    ]

pub returns : goal.returns
returns c = (omega (arith, count_end c.args.items.now (6 * c.loop-i.i) (omega arith) c.args.op), omega arith)
