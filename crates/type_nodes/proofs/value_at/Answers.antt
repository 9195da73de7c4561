-- `row10_widths::codes::value_at` meets its contract. Assumes nothing.
use mathlib.Core.Path.{sym}
use borrow.Author.Tests.{lt-ltb, le-ltb}
use Rattle.type_nodes.specs.Codes.{value_or}
use Rattle.type_nodes.proofs.value_at.Goals as goal

pub returns-then-i-end : goal.returns-then-i-end
unfolding value_or
returns-then-i-end c = sym (simp (value_or, lt-ltb _ _ c.if-i-end.true))

pub returns-else-i-end : goal.returns-else-i-end
unfolding value_or
returns-else-i-end c = sym (simp (value_or, le-ltb _ _ c.if-i-end.false))
