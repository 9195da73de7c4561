-- `holds` meets its contract. Assumes nothing.
use Rattle.item_steps.proofs.holds.Goals as goal

pub returns : goal.returns
returns c = rw (c.slot.ensures, c.from.ensures)
