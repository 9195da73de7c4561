-- `outside` meets its contract. Assumes nothing.
use Rattle.type_nodes.specs.Codes.{outside_of}
use native.Mathlib.Omega.{arith}
use Rattle.std.proofs.lemmas.Grind.{common_steps}
use Rattle.type_nodes.proofs.outside.Goals as goal

pub returns-in-41 : goal.returns-in-41
unfolding outside_of
returns-in-41 c = rw c.in-41.is

pub returns-in-43 : goal.returns-in-43
unfolding outside_of
returns-in-43 c = rw c.in-43.is

pub returns-in-44 : goal.returns-in-44
unfolding outside_of
returns-in-44 c = rw c.in-44.is

pub returns-in-45 : goal.returns-in-45
unfolding outside_of
returns-in-45 c = rw c.in-45.is

pub returns-in-46 : goal.returns-in-46
unfolding outside_of
returns-in-46 c = rw c.in-46.is

pub returns-in_default : goal.returns-in_default
unfolding outside_of
returns-in_default c = grind (arith, common_steps)
