-- `turned` meets its contract. Assumes nothing.
use Rattle.input_bytes.proofs.Ends.{turned_as}
use Rattle.input_bytes.proofs.turns.turned.Goals as goal

pub returns : goal.returns
returns c = turned_as _ _ _ _ _ _ _ _ _ _ _ _ _ c.ran-done.ensures c.show-k.ensures c.saturating_sub.ensures
