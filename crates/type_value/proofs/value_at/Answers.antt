-- `type_value::value_at` meets its contract: midway, what is left of the code leads to the value of the whole. Assumes nothing.
use mathlib.Core.Path.{sym, ◌∙◌, subst}
use native.Mathlib.Nat.{not-le_of_lt}
use Rattle.language.specs.declared.Exact.{Exact}
use Rattle.exact.specs.Room.{Space}
use Rattle.type_value.proofs.Tested.{alone_space, begins, onward, stopped, ended, answers, answers_zero}
use Rattle.type_value.proofs.value_at.Goals as goal

pub returns-then-code-end : goal.returns-then-code-end
returns-then-code-end c =
    let s = c.args in
    let q = answers_zero s.ws.now s.code.now s.from s.end c.number.result c.number.ensures (λ h. absurd (not-le_of_lt c.if-code-end.true h)) in
    record { each_type = q.0; value = q.1.0; space = q.1.1 }

pub loop-i-init : goal.loop-i-init
loop-i-init c = begins c.args.ws.now c.args.code.now c.args.from c.args.end _ c.if-code-end.false

pub returns-in-None : goal.returns-in-None
returns-in-None c =
    let s = c.args in
    let l = c.loop-i in
    let q = answers_zero s.ws.now s.code.now s.from s.end c.number-in-None.result c.number-in-None.ensures
    (λ h. stopped s.ws.now s.code.now s.from s.end l.i _ l.invariant c.loop-i-test.true c.in-None.ensures) in
    record { each_type = q.0; value = q.1.0; space = q.1.1 }

pub loop-i-preserved : goal.loop-i-preserved
loop-i-preserved c =
    let s = c.args in
    let l = c.loop-i in
    onward s.ws.now s.code.now s.from s.end l.i _ l.invariant c.loop-i-test.true c.in-Some.ensures.0 _ c.in-Some.ensures.1

pub returns : goal.returns
returns c =
    let s = c.args in
    let l = c.loop-i in
    let q = answers s.ws.now s.code.now s.from s.end c.only.result (λ h. c.only.ensures ∙ sym (ended s.ws.now s.code.now s.from s.end l.i _ l.invariant c.loop-i-test.false))
    (subst (λ (x : Exact). Space x) (sym c.only.ensures) (alone_space _)) in
    record { each_type = q.0; value = q.1.0; space = q.1.1 }
