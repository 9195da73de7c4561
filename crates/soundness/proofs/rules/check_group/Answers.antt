-- `check_group` meets its contract: midway, what is left of the rules leads to what all assign. Assumes nothing.
use native.Mathlib.Omega.{arith}
use Prim.Native.Nat.{suc, ◌+◌, ◌-◌, ◌<◌}
use mathlib.Core.Path.{◌≡◌, sym, ◌∙◌}
use Rattle.bits.proofs.Digits.{or_bits}
use Rattle.ranges.proofs.Fits.{or_fits}
use Rattle.plan.specs.Layout.{rule_count}
use Rattle.plan_sections.proofs.Parts.{ports_few, rules_few, rule_whole, rule_inside, code_next}
use Rattle.soundness.proofs.Groups.{group_turn, group_stop, group_done}
use Rattle.soundness.proofs.rules.check_group.Goals as goal

pub overflow_add-from-2 : goal.overflow_add-from-2
overflow_add-from-2 c = let k = rules_few c.args.plan.now c.requires.0 in omega arith

pub loop-i-init : goal.loop-i-init
loop-i-init c =
    let e : c.args.first + 0 ≡ c.args.first = omega arith in
    let f : c.args.count - 0 ≡ c.args.count = omega arith in
    (c.requires.2, c.requires.3, rw (e, f), rw (e, c.code_from.ensures.0, c.code_before.ensures.0))

pub overflow_add-first : goal.overflow_add-first
overflow_add-first c = let k = rules_few c.args.plan.now c.requires.0 in omega arith

pub check_rule-requires : goal.check_rule-requires
check_rule-requires c =
    let p = c.args.plan.now in
    let r = c.args.first + c.loop-i.i in
    let l : r < rule_count p = omega arith in
    record {
      from_value = (c.loop-i.invariant.3, rw c.loop-i.invariant.3 (rule_inside p c.requires.0 r l), rule_whole p c.requires.0 r l);
      ws_len = (c.loop-i.invariant.1, ports_few p c.requires.0);
    }

pub returns-in_err-mask : goal.returns-in_err-mask
returns-in_err-mask c =
    let a = c.args in
    let l = c.loop-i in
    let e = c.in_err-mask.ensures.1 in
    rw c.from_residual.ensures (tt, sym (group_stop a.plan.now a.taken l.mine a.first a.count l.i c.loop-i-test.true e) ∙ l.invariant.2)

pub overflow_add-first-in-loop-i : goal.overflow_add-first-in-loop-i
overflow_add-first-in-loop-i c = let k = rules_few c.args.plan.now c.requires.0 in omega arith

pub overflow_add-from-in-loop-i : goal.overflow_add-from-in-loop-i
overflow_add-from-in-loop-i c =
    let p = c.args.plan.now in
    let r = c.args.first + c.loop-i.i in
    let l : r < rule_count p = omega arith in
    let h = rule_inside p c.requires.0 r l in
    let e = c.loop-i.invariant.3 in
    let f = c.place-from.ensures.0 ∙ c.length_at.ensures in
    omega arith

pub loop-i-preserved : goal.loop-i-preserved
loop-i-preserved c =
    let a = c.args in
    let l = c.loop-i in
    let e : suc (a.first + l.i) ≡ a.first + (l.i + 1) = omega arith in
    let small = c.in_ok-mask.ensures.0 in
    let same = c.in_ok-mask.ensures.1 in
    let both = or_bits 16 l.mine _ l.invariant.0 small in
    let g = l.invariant.3 in
    let h = code_next a.plan.now (a.first + l.i) (c.place-from.ensures.0 ∙ c.length_at.ensures) in (
      rw both (or_fits 16 l.mine _),
      c.check_rule.auto.ws ∙ l.invariant.1,
      rw both (sym (group_turn a.plan.now a.taken l.mine a.first a.count l.i c.loop-i-test.true _ same) ∙ l.invariant.2),
      rw (← e) (omega arith),
    )

pub returns : goal.returns
returns c =
    let a = c.args in
    let l = c.loop-i in
    (l.invariant.0, sym (group_done a.plan.now a.taken l.mine (a.first + l.i) a.count l.i c.loop-i-test.false) ∙ l.invariant.2)
