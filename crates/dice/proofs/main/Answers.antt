-- `main` meets its contract. Assumes nothing.
use Rattle.tipi.proofs.Finishing.{part_long}
use borrow.Author.Rules.{rules}
use Rattle.dice.proofs.main.Goals as goal

pub slice_bounds-roll-end : goal.slice_bounds-roll-end
slice_bounds-roll-end c = part_long _ _ (search rules)
