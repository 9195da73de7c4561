-- `row08_types::logs_before` meets its contract: the count so far, and the items left, come to the same. Assumes nothing.
use Rattle.std.proofs.Common.{arith, sym, ◌∙◌}
use Rattle.row08_types.specs.Walk.{nodes_before}
use Rattle.row08_types.proofs.Turns.{logs_stop, logs_end, logs_more}
use Rattle.row08_types.proofs.logs_before.Goals as goal

pub returns-then-is_done : goal.returns-then-is_done
returns-then-is_done c = logs_stop c.loop-i.s (nodes_before c.args.tape.now c.loop-i.i) (sym c.is_done.ensures ∙ c.if-is_done.true) ∙ c.loop-i.invariant.1

pub loop-i-preserved : goal.loop-i-preserved
loop-i-preserved c = (
  omega (arith, c.counted-s.ensures.1),
  logs_more c.loop-i.s c.args.tape.now c.loop-i.i c.loop-i-test.true (sym c.is_done.ensures ∙ c.if-is_done.false) c.node_of.ensures c.counted-s.ensures.0
      ∙ c.loop-i.invariant.1,
)

pub returns : goal.returns
returns c = logs_end c.loop-i.s c.args.tape.now (omega arith) ∙ c.loop-i.invariant.1
