-- `binding_numbers::grown` meets its contract. Assumes nothing.
use native.Mathlib.Omega.{arith}
use mathlib.Core.Path.{sym, ◌∙◌}
use Rattle.binding_numbers.proofs.Numbers.{grown_digit}
use Rattle.spelling.proofs.Laws.{digit_low}
use Rattle.binding_numbers.proofs.grown.Goals as goal

pub overflow_sub-b : goal.overflow_sub-b
overflow_sub-b c = digit_low _ (sym c.is_digit.ensures ∙ c.if-not-is_digit.false)

pub returns : goal.returns
returns c = rw c.then_some.ensures (rw c.from.ensures (grown_digit _ _ _ (sym c.is_digit.ensures ∙ c.if-not-is_digit.false) (omega arith)))
