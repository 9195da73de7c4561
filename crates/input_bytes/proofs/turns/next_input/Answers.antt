-- `next_input` meets its contract: the ports passed are outputs. Assumes nothing.
use mathlib.Core.Path.{sym, ◌∙◌}
use native.Mathlib.Omega.{arith}
use Rattle.input_bytes.proofs.Counting.{input_first, input_here, input_past, input_none}
use Rattle.input_bytes.proofs.turns.next_input.Goals as goal

pub loop-i-init : goal.loop-i-init
loop-i-init c = (input_first _ _ _ c.ports-i-end.ensures.0, c.ports-i-end.ensures.1)

pub returns-then-port_at-lt-OUTPUT-clause-found : goal.returns-then-port_at-lt-OUTPUT-clause-found
returns-then-port_at-lt-OUTPUT-clause-found c = sym (input_here _ _ _ _ (omega arith) c.port_at.ensures c.if-port_at-lt-OUTPUT.true) ∙ c.loop-i.invariant.0

pub loop-i-preserved : goal.loop-i-preserved
loop-i-preserved c = (sym (input_past _ _ _ _ (omega arith) c.port_at.ensures c.if-port_at-lt-OUTPUT.false) ∙ c.loop-i.invariant.0, c.loop-i.invariant.1)

pub returns-clause-found : goal.returns-clause-found
returns-clause-found c = sym (input_none _ _ _ (omega arith)) ∙ c.loop-i.invariant.0
