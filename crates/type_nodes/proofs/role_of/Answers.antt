-- `type_nodes::role_of` meets its contract: by what the item is in a type. Assumes nothing.
use Rattle.std.proofs.Common.{sym, ap, ◌∙◌}
use Rattle.tape.specs.declared.Node.{Node}
use Rattle.type_nodes.specs.Codes.{role_in}
use Rattle.type_nodes.proofs.Turns.{kept_node, a_node}
use Rattle.type_nodes.proofs.role_of.Goals as goal

pub returns-in-Most : goal.returns-in-Most
returns-in-Most c = kept_node _ c.node_of.ensures c.in-Most.is

pub returns-in-Other : goal.returns-in-Other
unfolding role_in
returns-in-Other c = c.outside.ensures ∙ ap (λ (k : Node). role_in k c.args.op) (sym c.in-Other.is ∙ c.node_of.ensures)

pub returns-in_default : goal.returns-in_default
returns-in_default c = a_node _ c.node_of.ensures c.in_default.not-Most c.in_default.not-Within c.in_default.not-Other
