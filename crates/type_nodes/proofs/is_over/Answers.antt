-- `type_nodes::is_over` meets its contract. Assumes nothing.
use Rattle.type_nodes.specs.Codes.{is_over}
use Rattle.type_nodes.proofs.Turns.{not_over_law}
use Rattle.type_nodes.proofs.is_over.Goals as goal

pub returns-in-Over : goal.returns-in-Over
unfolding is_over
returns-in-Over c = rw c.in-Over.is

pub returns-in_default : goal.returns-in_default
returns-in_default c = not_over_law _ c.in_default.not-Over
