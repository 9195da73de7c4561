-- `readers::look::arm_ends` meets its contract. Assumes nothing.
use native.Mathlib.Omega.{arith}
use mathlib.Core.Path.{sym, ◌∙◌}
use Rattle.std.proofs.lemmas.Bool.{eqb-true, eqb-false, false≢true}
use Rattle.readers.proofs.Arms.{ends_off, ends_no, ends_number, ends_default}
use Rattle.readers.proofs.look.arm_ends.Goals as goal
use Rattle.readers.proofs.look.arm_ends.Goals.{then-arm, else-arm}

pub returns-in-1 : goal.returns-in-1
returns-in-1 c = elim c.if-arm.branch [
  | then-arm w ↦ record { is = λ M. ends_number M _ _ _ w.if-arm.true (sym w.kind.ensures.is ∙ eqb-true _ _ (sym w.value-is ∙ c.if-kind-eq-BAR.true)) (sym c.kind-then-kind-eq-BAR.ensures.is ∙ c.in-1.is) c.kind-in-1.ensures.is }
  | else-arm w ↦ absurd (false≢true (sym w.if-arm.false ∙ sym w.value-is ∙ c.if-kind-eq-BAR.true))
]

pub returns-in_default : goal.returns-in_default
returns-in_default c = elim c.if-arm.branch [
  | then-arm w ↦ record { is = λ M. ends_default M _ _ _ w.if-arm.true (sym w.kind.ensures.is ∙ eqb-true _ _ (sym w.value-is ∙ c.if-kind-eq-BAR.true)) (λ q. omega (arith, c.kind-then-kind-eq-BAR.ensures.is ∙ q)) c.kind-then-kind-eq-BAR.ensures.is }
  | else-arm w ↦ absurd (false≢true (sym w.if-arm.false ∙ sym w.value-is ∙ c.if-kind-eq-BAR.true))
]

pub returns-else-kind-eq-BAR : goal.returns-else-kind-eq-BAR
returns-else-kind-eq-BAR c = rw c.if-kind-eq-BAR.false (elim c.if-arm.branch [
  | then-arm w ↦ record { is = λ M. ends_no M _ _ w.if-arm.true (λ q. eqb-false _ _ (sym w.value-is ∙ c.if-kind-eq-BAR.false) (w.kind.ensures.is ∙ q)) }
  | else-arm w ↦ record { is = λ M. ends_off _ _ w.if-arm.false }
])
