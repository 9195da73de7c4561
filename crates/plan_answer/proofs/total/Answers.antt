-- `total` meets its contract: what is summed and what is left are all. Assumes nothing.
use native.Mathlib.Omega.{arith}
use Rattle.plan_answer.proofs.Sums.{sums_next, sums_end}
use Rattle.plan_answer.proofs.total.Goals as goal

pub loop-n-init : goal.loop-n-init
loop-n-init c = (omega arith, omega arith)

pub loop-n-preserved : goal.loop-n-preserved
loop-n-preserved c = (omega (arith, c.place-sum.ensures.1, c.loop-n.invariant.0), rw c.place-sum.ensures.0 (sums_next c.args.lengths.now c.loop-n.n-index c.loop-n.sum _ (omega arith) c.loop-n.invariant.1))

pub returns : goal.returns
returns c = sums_end c.args.lengths.now c.loop-n.n-index c.loop-n.sum _ (omega arith) c.loop-n.invariant.1
