-- `part_lengths::whole` meets its contract: what is left of the items gives the same part. Assumes nothing.
use Rattle.std.proofs.Common.{◌≡◌, arith, ◌+◌, ◌-◌}
use Rattle.part_lengths.proofs.Figures.{holds_small, own_small}
use Rattle.part_lengths.proofs.Backs.{gone_none, gone_more, whole_here, whole_first}
use Rattle.part_lengths.proofs.whole.Goals as goal

pub loop-i-init : goal.loop-i-init
loop-i-init c = gone_none _ _

pub returns-then-part-eq0 : goal.returns-then-part-eq0
returns-then-part-eq0 c =
    let e : c.loop-i.i - 1 + 1 ≡ c.loop-i.i = omega arith in
    rw (c.started.ensures, e) (whole_here c.args.tape.now c.args.end c.loop-i.i c.loop-i.part c.loop-i.invariant c.loop-i-test.true c.if-part-eq0.true)

pub loop-i-preserved : goal.loop-i-preserved
loop-i-preserved c =
    gone_more c.args.tape.now c.args.end c.loop-i.i c.loop-i.part c.loop-i.invariant c.loop-i-test.true c.if-part-eq0.false (holds_small _) (own_small _)
    c.over-part.ensures

pub returns : goal.returns
returns c = rw c.started-2.ensures (whole_first c.args.tape.now c.args.end c.loop-i.i c.loop-i.part c.loop-i.invariant (omega arith))
