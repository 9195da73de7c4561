-- `ran` meets its contract. Assumes nothing.
use Rattle.input_bytes.proofs.Ends.{ran_as}
use Rattle.input_bytes.proofs.turns.ran.Goals as goal

pub returns : goal.returns
returns c = ran_as _ _ _ _ _ _ _ _ _ _ c.ports-n.ensures.0 c.cells-m.ensures.0 c.cycle.ensures
