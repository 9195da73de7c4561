-- `binding_numbers::past` meets its contract. Assumes nothing.
use mathlib.Core.Path.{sym}
use Rattle.binding_numbers.proofs.Numbers.{passed_here, passed_over, passed_other}
use Rattle.binding_numbers.proofs.past.Goals as goal
use Rattle.binding_numbers.proofs.past.Goals.{else-at-text-via-then-at-text+else-text-at, else-at-text-via-else-at-text}

pub returns-then-text-at : goal.returns-then-text-at
returns-then-text-at c = sym (passed_here _ _ _ c.if-at-text.true c.if-text-at.true)

pub returns-else-at-text : goal.returns-else-at-text
returns-else-at-text c =
    sym
    (elim c.else-at-text.branch [
      | else-at-text-via-then-at-text+else-text-at w ↦ passed_other _ _ _ w.if-text-at.false
      | else-at-text-via-else-at-text w ↦ passed_over _ _ _ w.if-at-text.false
    ])
