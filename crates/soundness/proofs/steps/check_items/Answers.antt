-- `check_items` meets its contract: midway, what is left of the items leads to the end of all. Assumes nothing.
use native.Mathlib.Omega.{arith}
use Prim.Native.Nat.{◌+◌, ◌-◌, ◌*◌}
use mathlib.Core.Path.{◌≡◌, sym, ap, ◌∙◌}
use Rattle.plan.specs.declared.Item.{Item}
use Rattle.plan.specs.Sound.{check1, end_of, rules_of}
use Rattle.plan.specs.Waits.{top}
use Rattle.soundness.proofs.Turns.{check_turn, check_stop, check_done, end_told, masked_told, end_broken}
use Rattle.soundness.proofs.steps.check_items.Goals as goal

pub loop-i-init : goal.loop-i-init
unfolding top
loop-i-init c =
    let e : c.args.items - 0 ≡ c.args.items = omega arith in
    let f : c.args.from + 4 * 0 ≡ c.args.from = omega arith in
    (c.requires.1, c.requires.2, record { few = omega arith; mask = omega arith; wide = λ k j. absurd (omega arith) }, rw (e, f))

pub returns-in_err-state : goal.returns-in_err-state
returns-in_err-state c =
    let a = c.args in
    let l = c.loop-i in
    let t = rules_of a.plan.now a.present a.taken in
    let e = c.in_err-state.ensures.same ∙ ap (λ (i : Item). check1 t i (top l.ws l.state.waits) l.ls l.state.assigned) c.fetch-item.ensures in
    rw c.from_residual.ensures (tt, end_broken ∙ ap end_of (sym (check_stop t a.plan.now (a.from + 4 * l.i) a.items l.i (top l.ws l.state.waits) l.ls l.state.assigned c.loop-i-test.true (omega arith) e) ∙ l.invariant.3))

pub loop-i-preserved : goal.loop-i-preserved
loop-i-preserved c =
    let a = c.args in
    let l = c.loop-i in
    let t = rules_of a.plan.now a.present a.taken in
    let e = c.in_ok-state.ensures.same ∙ ap (λ (i : Item). check1 t i (top l.ws l.state.waits) l.ls l.state.assigned) c.fetch-item.ensures in
    let next : a.from + 4 * l.i + 4 ≡ a.from + 4 * (l.i + 1) = omega arith in (
      c.check_step.auto.ws ∙ l.invariant.0,
      c.check_step.auto.ls ∙ l.invariant.1,
      c.in_ok-state.ensures.stands,
      rw (← next) (sym (check_turn t a.plan.now (a.from + 4 * l.i) a.items l.i (top l.ws l.state.waits) l.ls l.state.assigned _ c.loop-i-test.true (omega arith) e) ∙ l.invariant.3),
    )

pub returns : goal.returns
returns c =
    let a = c.args in
    let l = c.loop-i in
    let t = rules_of a.plan.now a.present a.taken in
    rw c.then_some.ensures (
      masked_told l.state.waits l.state.assigned l.invariant.2.mask,
      end_told l.ws l.state.waits l.ls l.state.assigned ∙ ap end_of (sym (check_done t a.plan.now (a.from + 4 * l.i) a.items l.i _ c.loop-i-test.false) ∙ l.invariant.3),
    )
