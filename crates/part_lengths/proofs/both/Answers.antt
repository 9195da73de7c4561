-- `part_lengths::both` meets its contract. Assumes nothing.
use mathlib.Core.Path.{◌∙◌}
use Rattle.part_lengths.specs.Parts.{both_of}
use Rattle.part_lengths.proofs.both.Goals as goal

pub returns-in-Some : goal.returns-in-Some
unfolding both_of
returns-in-Some c = c.earlier.ensures ∙ rw c.in-Some.is

pub returns-in-None : goal.returns-in-None
unfolding both_of
returns-in-None c = rw c.in-None.is
