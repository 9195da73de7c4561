-- `readers::look::the_type` meets its contract. Assumes nothing.
use Rattle.readers.specs.Marks.{marked, the_type, is_type}
use Rattle.readers.proofs.look.the_type.Goals as goal

pub returns : goal.returns
unfolding marked the_type is_type
returns c = c.marked.ensures
