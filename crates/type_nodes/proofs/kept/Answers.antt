-- `type_nodes::kept` meets its contract. Assumes nothing.
use Rattle.std.proofs.Common.{sym, ◌∙◌}
use Rattle.type_nodes.proofs.Turns.{kept_over, kept_before}
use Rattle.type_nodes.proofs.kept.Goals as goal

pub returns-then-is_over : goal.returns-then-is_over
returns-then-is_over c = kept_over _ _ (sym c.is_over.ensures ∙ c.if-is_over.true)

pub returns-else-is_over : goal.returns-else-is_over
returns-else-is_over c = kept_before _ _ (sym c.is_over.ensures ∙ c.if-is_over.false)
