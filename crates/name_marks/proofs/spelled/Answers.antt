-- `name_marks::spelled` meets its contract. Assumes nothing.
use mathlib.Core.Path.{sym, ◌∙◌}
use Rattle.language.specs.Words.{bytes}
use Rattle.name_marks.proofs.Marked.{same_std, same_back, spelled_p, spelled_type, spelled_other}
use Rattle.name_marks.proofs.spelled.Goals as goal

pub returns-then-eq : goal.returns-then-eq
unfolding bytes
returns-then-eq c = spelled_p (same_back _ _ ∙ sym (same_std _ _) ∙ sym c.eq.ensures ∙ c.if-eq.true)

pub returns-then-eq-2 : goal.returns-then-eq-2
unfolding bytes
returns-then-eq-2 c = spelled_type (same_back _ _ ∙ sym (same_std _ _) ∙ sym c.eq.ensures ∙ c.if-eq.false) (same_back _ _ ∙ sym (same_std _ _) ∙ sym c.eq-else-eq.ensures ∙ c.if-eq-2.true)

pub returns-else-eq-2 : goal.returns-else-eq-2
unfolding bytes
returns-else-eq-2 c = spelled_other (same_back _ _ ∙ sym (same_std _ _) ∙ sym c.eq.ensures ∙ c.if-eq.false) (same_back _ _ ∙ sym (same_std _ _) ∙ sym c.eq-else-eq.ensures ∙ c.if-eq-2.false)
