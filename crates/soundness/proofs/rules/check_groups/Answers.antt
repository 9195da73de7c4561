-- `check_groups` meets its contract: midway, the groups that are left lead to the test of all. Assumes nothing.
use native.Mathlib.Omega.{arith}
use native.Mathlib.Numerals.{add-one}
use Prim.Native.Nat.{◌+◌, ◌-◌}
use mathlib.Core.Path.{◌≡◌, refl, sym, ap, ap₂, ◌∙◌}
use Rattle.plan.specs.Layout.{rules_before}
use Rattle.plan.specs.Sound.{group_check, groups_check}
use Rattle.plan_sections.proofs.Parts.{rules_few, group_rules}
use Rattle.soundness.proofs.Groups.{groups_turn, groups_stop, groups_done}
use Rattle.soundness.proofs.rules.check_groups.Goals as goal

pub loop-g-init : goal.loop-g-init
unfolding rules_before
loop-g-init c = let e : c.group_count-groups.result - 0 ≡ c.group_count-groups.result = omega arith in (omega arith, refl, c.requires.1, rw e)

pub check_group-requires : goal.check_group-requires
check_group-requires c =
    let p = c.args.plan.now in
    let l = c.loop-g in
    let h = group_rules p c.requires.0 l.g (rw c.group_count-groups.ensures at c.loop-g-test.true) in
    (c.requires.0, omega (arith, c.group_at-count.ensures), l.invariant.0, l.invariant.2)

pub returns-in_default : goal.returns-in_default
returns-in_default c =
    let a = c.args in
    let l = c.loop-g in
    let f = ap₂ (group_check a.plan.now l.taken l.taken) l.invariant.1 c.group_at-count.ensures in
    let e = (rw c.in_default.is at c.check_group.ensures.1) ∙ f in
    sym (groups_stop a.plan.now l.taken l.g c.group_count-groups.result c.loop-g-test.true e) ∙ l.invariant.3 ∙ ap (groups_check a.plan.now 0 0) c.group_count-groups.ensures

pub overflow_add-first : goal.overflow_add-first
overflow_add-first c =
    let p = c.args.plan.now in
    let l = c.loop-g in
    let k = rules_few p c.requires.0 in
    let h = group_rules p c.requires.0 l.g (rw c.group_count-groups.ensures at c.loop-g-test.true) in
    omega (arith, c.group_at-count.ensures)

pub loop-g-preserved : goal.loop-g-preserved
unfolding rules_before
loop-g-preserved c =
    let a = c.args in
    let l = c.loop-g in
    let f = ap₂ (group_check a.plan.now l.taken l.taken) l.invariant.1 c.group_at-count.ensures in
    let e = (rw c.in-Some.is at c.check_group.ensures.1) ∙ f in (
      rw c.in-Some.is at c.check_group.ensures.0,
      rw (add-one l.g) (ap₂ ◌+◌ l.invariant.1 c.group_at-count.ensures),
      c.check_group.auto.ws ∙ l.invariant.2,
      sym (groups_turn a.plan.now l.taken l.g c.group_count-groups.result c.loop-g-test.true _ e) ∙ l.invariant.3,
    )

pub returns : goal.returns
returns c =
    let a = c.args in
    let l = c.loop-g in
    sym (groups_done a.plan.now l.taken l.g c.group_count-groups.result c.loop-g-test.false) ∙ l.invariant.3 ∙ ap (groups_check a.plan.now 0 0) c.group_count-groups.ensures
