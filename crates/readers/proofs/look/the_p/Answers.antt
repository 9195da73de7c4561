-- `readers::look::the_p` meets its contract. Assumes nothing.
use Rattle.readers.specs.Marks.{marked, the_p, is_p}
use Rattle.readers.proofs.look.the_p.Goals as goal

pub returns : goal.returns
unfolding marked the_p is_p
returns c = c.marked.ensures
