-- `counts` meets its contract. Assumes nothing.
use Rattle.judged.specs.Tests.{counts}
use Rattle.judged.proofs.tests.counts.Goals as goal

pub returns : goal.returns
unfolding counts
returns c = simp (c.place-n.ensures.0, c.port_count.ensures, c.cells_before.ensures.0, c.memory_count.ensures)
