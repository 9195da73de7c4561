-- `row10_widths::codes::grown` meets its contract. Assumes nothing.
use native.Mathlib.Omega.{arith}
use Rattle.type_codes.proofs.Slots.{grown_node, grown_keep, nothing_in}
use Rattle.type_nodes.proofs.Turns.{not_in_type_law}
use Rattle.type_codes.proofs.grown.Goals as goal

pub returns-in-Node : goal.returns-in-Node
returns-in-Node c = grown_node _ c.in-Node.is c.node.ensures c.append.ensures

pub returns-in-Keep : goal.returns-in-Keep
returns-in-Keep c = grown_keep _ _ c.in-Keep.is _ _ (omega arith)

pub returns-in_default : goal.returns-in_default
returns-in_default c = nothing_in _ _ (not_in_type_law _ _ _ c.in_default.not-Node c.in_default.not-Keep)
