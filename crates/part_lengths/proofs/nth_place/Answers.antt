-- `part_lengths::nth_place` meets its contract. Assumes nothing.
use Rattle.part_lengths.proofs.Backs.{nth_none, nth_some}
use Rattle.part_lengths.proofs.nth_place.Goals as goal

pub returns-then-many-i : goal.returns-then-many-i
returns-then-many-i c = nth_none c.args.table.now c.args.many c.args.i c.args.more c.if-many-i.true

pub returns : goal.returns
returns c = nth_some c.args.table.now c.args.many c.args.i c.args.more c.if-many-i.false
