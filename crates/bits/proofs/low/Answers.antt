-- `bits::low` meets its contract. Assumes nothing.
use Rattle.bits.proofs.Laws.{mask_some, masked, whole}
use Rattle.bits.proofs.low.Goals as goal

pub overflow_sub-result : goal.overflow_sub-result
overflow_sub-result c = mask_some 64 c.args.w c.if-w-lt64.true

pub returns-then-w-lt64 : goal.returns-then-w-lt64
returns-then-w-lt64 c = masked c.args.x 64 c.args.w c.if-w-lt64.true

pub returns-else-w-lt64 : goal.returns-else-w-lt64
returns-else-w-lt64 c = whole 64 c.args.w c.if-w-lt64.false c.ranges.x.fits
