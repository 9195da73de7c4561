-- `readers::look::marked` meets its contract. Assumes nothing.
use borrow.Author.Tests.{ne_eqb}
use mathlib.Core.Path.{sym, ◌∙◌}
use Rattle.readers.specs.Marks.{marked}
use Rattle.readers.proofs.Spells.{mark_yes, mark_no, mark_none}
use Rattle.readers.proofs.look.marked.Goals as goal

pub returns-then-value-mark : goal.returns-then-value-mark
unfolding marked
returns-then-value-mark c = mark_yes _ _ _ _ _ (sym c.kind.ensures.is ∙ c.if-kind-eq-NAME.true) c.value.ensures c.if-value-mark.true

pub returns-else-value-mark : goal.returns-else-value-mark
unfolding marked
returns-else-value-mark c = mark_no _ _ _ _ _ (sym c.kind.ensures.is ∙ c.if-kind-eq-NAME.true) c.value-else-value-mark.ensures
    (λ q. c.if-value-mark.false (c.value.ensures ∙ sym c.value-else-value-mark.ensures ∙ q))

pub returns-else-kind-eq-NAME : goal.returns-else-kind-eq-NAME
unfolding marked
returns-else-kind-eq-NAME c = ne_eqb _ _ c.if-kind-eq-NAME.false ∙ mark_none _ _ _ _ (λ q. c.if-kind-eq-NAME.false (c.kind.ensures.is ∙ q))
