-- `plain_numbers::number` meets its contract: the digits that are left, after the value so far, give what all give. Assumes nothing.
use mathlib.Core.Path.{sym, ◌∙◌}
use Rattle.plain_numbers.proofs.Amounts.{counted_more}
use Rattle.plain_numbers.proofs.number.Goals as goal

pub loop-n-preserved : goal.loop-n-preserved
loop-n-preserved c = counted_more _ _ _ _ c.loop-n-test.true (sym c.is_digit.ensures ∙ c.if-not-is_digit.false) c.loop-n.invariant c.grown-v.ensures
