-- `last` meets its contract. Assumes nothing.
use Rattle.plan.proofs.Waits.{top_at}
use Rattle.item_steps.proofs.last.Goals as goal

pub returns : goal.returns
returns c = top_at c.args.stack.now c.args.n c.args.k c.requires.0
