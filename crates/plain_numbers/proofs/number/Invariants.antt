-- `plain_numbers::number` meets its contract: the digits that are left, after the value so far, give what all give. Assumes nothing.
use Rattle.plain_numbers.proofs.Amounts.{Counted}
use Rattle.plain_numbers.proofs.number.Given as goal

abbrev pub invariant-loop-n : goal.invariant-loop-n
invariant-loop-n l = Counted l.b-items l.n l.v
