-- `type_nodes::declared` meets its contract: the counts so far, and the items left, come to the same. Assumes nothing.
use Rattle.std.proofs.Common.{arith, sym, ◌∙◌}
use Rattle.type_nodes.proofs.Turns.{count_stop, count_more, count_end}
use Rattle.type_nodes.proofs.declared.Goals as goal

pub returns-then-is_over : goal.returns-then-is_over
returns-then-is_over c =
    count_stop c.args.tape.now c.args.n c.loop-i.i c.requires c.loop-i.c c.loop-i-test.true c.role_of-role.ensures (sym c.is_over.ensures ∙ c.if-is_over.true)
    ∙ c.loop-i.invariant.2

pub loop-i-preserved : goal.loop-i-preserved
loop-i-preserved c = (
  omega (arith, c.counted-c.ensures.1),
  omega (arith, c.counted-c.ensures.2),
  count_more c.args.tape.now c.args.n c.loop-i.i c.requires c.loop-i.c c.loop-i-test.true c.role_of-role.ensures (sym c.is_over.ensures ∙ c.if-is_over.false)
      c.counted-c.ensures.0
      ∙ c.loop-i.invariant.2,
)

pub returns : goal.returns
returns c = count_end c.args.tape.now c.args.n c.loop-i.i c.requires c.loop-i.c (omega arith) ∙ c.loop-i.invariant.2
