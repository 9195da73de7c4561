-- `tables_fit` meets its contract. Assumes nothing.
use Rattle.cycle.specs.Run.{tables_fit}
use Rattle.cycle.proofs.runs.tables_fit.Goals as goal

pub returns : goal.returns
unfolding tables_fit
returns c =
    simp (c.times.ensures, c.times-2.ensures, c.times-3.ensures, c.place-n.ensures.0, c.port_count.ensures, c.cells_before.ensures.0, c.memory_count.ensures)
