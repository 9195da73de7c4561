-- `number_ends` meets its contract. Assumes nothing.
use mathlib.Core.Path.{sym}
use Rattle.input_bytes.proofs.Ends.{left_blank_wrong, left_end_wrong, left_blank, left_turn}
use Rattle.input_bytes.proofs.turns.number_ends.Goals as goal

pub returns-then-b-ne32 : goal.returns-then-b-ne32
returns-then-b-ne32 c = left_blank_wrong _ _ _ _ _ _ _ c.in-Some.i _ _ (sym c.in-Some.ensures.found) c.if-b-ne32.true c.wrong.ensures

pub returns-else-b-ne32 : goal.returns-else-b-ne32
returns-else-b-ne32 c = left_blank _ _ _ _ _ _ _ c.in-Some.i _ _ _ _ (sym c.in-Some.ensures.found) c.if-b-ne32.false c.at_port.ensures c.keep_value-mask.ensures.0 c.keep_value-mask.ensures.1

pub returns-then-b-ne10 : goal.returns-then-b-ne10
returns-then-b-ne10 c = left_end_wrong _ _ _ _ _ _ _ _ _ (sym c.in-None.ensures.found) c.if-b-ne10.true c.wrong-then-b-ne10.ensures

pub returns-else-b-ne10 : goal.returns-else-b-ne10
returns-else-b-ne10 c = left_turn _ _ _ _ _ _ _ _ _ _ _ _ (sym c.in-None.ensures.found) c.if-b-ne10.false c.keep_value-mask-in-None.ensures.0 c.keep_value-mask-in-None.ensures.1 c.turned.ensures
