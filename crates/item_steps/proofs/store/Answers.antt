-- `store` meets its contract. Assumes nothing.
use mathlib.Core.Path.{refl}
use Rattle.item_steps.proofs.store.Goals as goal

pub returns : goal.returns
returns c = (refl, rw (c.place-q.ensures.0, c.last.ensures))
