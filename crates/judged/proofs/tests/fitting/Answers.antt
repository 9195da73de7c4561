-- `fitting` meets its contract. Assumes nothing.
use native.Mathlib.Omega.{arith}
use Rattle.judged.specs.Tests.{fitting}
use Rattle.judged.proofs.tests.fitting.Goals as goal

pub memories_fit-requires : goal.memories_fit-requires
memories_fit-requires c = rw c.memory_count.ensures (omega (arith, c.requires.1))

pub returns : goal.returns
unfolding fitting
returns c =
    simp (c.within.ensures, c.from.ensures, c.port_count-n.ensures, c.inputs_fit.ensures, c.memories_fit.ensures, c.memory_count.ensures)
