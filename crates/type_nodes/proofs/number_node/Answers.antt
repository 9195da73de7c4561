-- `row10_widths::codes::number_node` meets its contract. Assumes nothing.
use mathlib.Core.Path.{refl}
use Rattle.type_nodes.specs.Codes.{number_node}
use Rattle.type_nodes.proofs.number_node.Goals as goal

pub returns : goal.returns
unfolding number_node
returns c = refl
