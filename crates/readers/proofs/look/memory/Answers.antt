-- `readers::look::memory` meets its contract. Assumes nothing.
use Rattle.readers.specs.Marks.{is_memory}
use Rattle.readers.proofs.look.memory.Goals as goal

pub returns : goal.returns
unfolding is_memory
returns c = rw c.value.ensures
