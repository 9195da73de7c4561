-- `step` meets its contract. Assumes nothing.
use Rattle.tipirun.proofs.Bytewise.{one_byte}
use Rattle.tipirun.proofs.steps.step.Goals as goal

pub returns : goal.returns
returns c = one_byte _ _ _ _ _ _ _ c.moved-t.ensures c.passed.ensures
