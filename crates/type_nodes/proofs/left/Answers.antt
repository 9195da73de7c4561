-- `type_nodes::left` meets its contract. Assumes nothing.
use Rattle.std.proofs.Common.{◌∙◌}
use Rattle.type_nodes.proofs.Turns.{left_port, left_memory, not_memory_law}
use Rattle.type_nodes.proofs.left.Goals as goal

pub returns-in-Memory-Memory : goal.returns-in-Memory-Memory
returns-in-Memory-Memory c = left_memory c.in-Memory-Memory.is-0 c.in-Memory-Memory.is-1 c.saturating_sub.ensures

pub returns-in_default : goal.returns-in_default
returns-in_default c = c.in_default.is-1 ∙ left_port c.in_default.is-0 c.in_default.is-1

pub returns-in_default-2 : goal.returns-in_default-2
returns-in_default-2 c = not_memory_law _ _ c.in_default.not-Memory-0
