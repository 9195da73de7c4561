-- `binding_numbers::number` meets its contract. Assumes nothing.
use native.Mathlib.Omega.{arith}
use mathlib.Core.Path.{sym, ◌∙◌}
use Rattle.binding_numbers.specs.Steps.{number_told}
use Rattle.binding_numbers.proofs.Numbers.{number_over, number_letter, number_digit}
use Rattle.spelling.proofs.Laws.{digit_low, digit_high}
use Rattle.binding_numbers.proofs.number.Goals as goal
use Rattle.binding_numbers.proofs.number.Goals.{else-from-text-via-then-from-text+else-is_digit, else-from-text-via-else-from-text}

pub overflow_sub-text : goal.overflow_sub-text
overflow_sub-text c = digit_low _ (sym c.is_digit.ensures ∙ c.if-is_digit.true)

pub digits-requires : goal.digits-requires
digits-requires c = omega (arith, digit_high _ (sym c.is_digit.ensures ∙ c.if-is_digit.true))

pub returns-then-is_digit : goal.returns-then-is_digit
returns-then-is_digit c =
    let d = c.digits.ensures in
    record {
      tells = number_digit _ _ c.if-from-text.true _ (sym c.is_digit.ensures ∙ c.if-is_digit.true) ∙ rw c.from.ensures at d.tells;
      inside = d.inside;
      small = d.small;
    }

pub returns-else-from-text : goal.returns-else-from-text
unfolding number_told
returns-else-from-text c =
    record {
      tells = elim c.else-from-text.branch [
        | else-from-text-via-then-from-text+else-is_digit w ↦ number_letter _ _ w.if-from-text.true _ (sym w.is_digit.ensures ∙ w.if-is_digit.false)
        | else-from-text-via-else-from-text w ↦ number_over _ _ _ w.if-from-text.false
      ];
      inside = omega arith;
      small = omega arith;
    }
