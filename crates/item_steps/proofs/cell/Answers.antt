-- `cell` meets its contract. Assumes nothing.
use Rattle.item_steps.proofs.Leaves.{cell_in, cell_past}
use Rattle.item_steps.proofs.cell.Goals as goal

pub returns-then-a-from : goal.returns-then-a-from
returns-then-a-from c =
    let args = c.args in
    rw c.from-then-a-from.ensures (cell_in args.memory.now args.f args.size args.a (rw c.from.ensures at c.if-a-from.true))

pub returns-else-a-from : goal.returns-else-a-from
returns-else-a-from c =
    let args = c.args in
    cell_past args.memory.now args.f args.size args.a (rw c.from.ensures at c.if-a-from.false)
