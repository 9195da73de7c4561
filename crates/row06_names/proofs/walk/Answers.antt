-- `row06_names::walk` meets its contract: the place is the earliest of the items passed. Assumes nothing.
use Rattle.std.proofs.Common.{arith, sym, ap₂, ◌∙◌, ℕ}
use Rattle.tape.specs.Tape.{END, RULED}
use Rattle.tape.specs.Walk.{after}
use Rattle.row06_names.specs.Walk.{faulty}
use Rattle.tape.proofs.Walks.{fault_more, fault_same, no_fault, after_here, after_same, after_start}
use Rattle.row06_names.proofs.walk.Goals as goal
use Rattle.row06_names.proofs.walk.Goals.{then-at_fault, else-at_fault, then-rule_ends, else-rule_ends, then-lets_end, else-lets_end}

pub loop-i-init : goal.loop-i-init
loop-i-init c = (omega arith, omega arith, after_start _ _, after_start _ _, no_fault _ c.args.tape.now)

pub loop-i-preserved : goal.loop-i-preserved
loop-i-preserved c =
    let text = c.args.text.now in
    let t = c.args.tape.now in
    let many = c.args.many in
    let i = c.loop-i.i in
    let inv = c.loop-i.invariant in
    let fault_at = λ (k : ℕ). faulty text t many (after RULED t k) (after END t k) k in
    let tested = ap₂ (λ (x y : ℕ). faulty text t many x y i) (sym inv.2) (sym inv.3) ∙ sym c.at_fault.ensures in (
      elim c.if-rule_ends.branch [ then-rule_ends w ↦ omega arith | else-rule_ends w ↦ omega arith ],
      elim c.if-lets_end.branch [ then-lets_end w ↦ omega arith | else-lets_end w ↦ omega arith ],
      elim c.if-rule_ends.branch [
        | then-rule_ends w ↦ w.rule-is ∙ after_here RULED t i w.if-rule_ends.true
        | else-rule_ends w ↦ w.rule-is ∙ after_same RULED t i w.if-rule_ends.false inv.2
      ],
      elim c.if-lets_end.branch [
        | then-lets_end w ↦ w.lets-is ∙ after_here END t i w.if-lets_end.true
        | else-lets_end w ↦ w.lets-is ∙ after_same END t i w.if-lets_end.false inv.3
      ],
      elim c.if-at_fault.branch [
        | then-at_fault w ↦ w.first-is ∙ w.earlier-first.ensures ∙ fault_more fault_at t i inv.4 (tested ∙ w.if-at_fault.true)
        | else-at_fault w ↦ w.first-is ∙ fault_same fault_at t i inv.4 (tested ∙ w.if-at_fault.false)
      ],
    )
