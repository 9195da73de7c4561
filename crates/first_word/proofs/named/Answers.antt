-- `first_word::named` meets its contract. Assumes nothing.
use native.Mathlib.Omega.{arith}
use mathlib.Core.Path.{sym, ◌∙◌}
use Rattle.std.proofs.lemmas.Bool.Decides.{nat_tests}
use Rattle.first_word.proofs.Spelled.{named_none, named_end, named_here}
use Rattle.first_word.proofs.named.Goals as goal

pub returns-then-gap-eq0 : goal.returns-then-gap-eq0
returns-then-gap-eq0 c = sym (named_none _ (sym c.gap.ensures.is ∙ c.if-gap-eq0.true))

pub returns-then-not-is_digit : goal.returns-then-not-is_digit
returns-then-not-is_digit c = let w = c.after_gaps-p.ensures in grind (arith, nat_tests, named_end _ _ _ w, named_here _ _ _ w)

pub returns-else-not-is_digit : goal.returns-else-not-is_digit
returns-else-not-is_digit c = let w = c.after_gaps-p.ensures in grind (arith, nat_tests, named_end _ _ _ w, named_here _ _ _ w)
