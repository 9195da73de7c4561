-- `lines::of` meets its contract: what stands between the start and the end of the place's line is that line. Assumes nothing.
use native.Mathlib.Omega.{arith}
use Rattle.lines.proofs.Laws.{part_inside, part_outside}
use Rattle.lines.proofs.of.Goals as goal

pub returns-then-last-place : goal.returns-then-last-place
returns-then-last-place c = part_outside c.args.text.now c.args.place c.args.text.ref_ptr (omega arith)

pub returns : goal.returns
returns c = part_inside c.args.text.now c.args.place c.args.text.ref_ptr c.start-from.result c.end-to.result c.start-from.ensures.1 c.end-to.ensures.2 (omega arith)
