-- `slot` meets its contract. Assumes nothing.
use Rattle.item_steps.proofs.slot.Goals as goal

pub returns : goal.returns
returns c = rw c.place-q.ensures.0
