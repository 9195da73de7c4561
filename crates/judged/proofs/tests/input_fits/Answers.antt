-- `input_fits` meets its contract. Assumes nothing.
use Rattle.judged.specs.Tests.{input_fits}
use Rattle.judged.proofs.tests.input_fits.Goals as goal

pub returns : goal.returns
unfolding input_fits
returns c = simp (c.bit.ensures, c.port_at-w.ensures, c.within.ensures, c.slot.ensures)
