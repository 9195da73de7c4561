-- `fire` meets its contract. Assumes nothing.
use native.Mathlib.Omega.{arith}
use native.Mathlib.Numerals.{add-one}
use Prim.Native.Nat.{ℕ, ◌+◌, ◌<◌}
use mathlib.Core.Path.{refl, sym, ap, ap₂, ◌∙◌}
use lib.ListN.{length}
use Rattle.std.proofs.lemmas.Result.{err_from_is_err_and}
use Rattle.plan.specs.Layout.{rules_before, rules_from}
use Rattle.plan_sections.proofs.Parts.{rules_few, groups_few, group_rules}
use Rattle.judged.specs.Groups.{matching, firing}
use Rattle.judged.specs.Judged.{only_of}
use Rattle.judged.proofs.Firing.{fire_start, fire_next, fire_stop, fire_end}
use Rattle.judged.proofs.groups.fire.Goals as goal

pub overflow_add-rules : goal.overflow_add-rules
overflow_add-rules c = omega (arith, c.groups_from-from.ensures.1)

pub overflow_add-rules-2 : goal.overflow_add-rules-2
overflow_add-rules-2 c = omega (arith, c.groups_from-from.ensures.1, c.place.ensures.0, c.place.ensures.1)

pub loop-g-init : goal.loop-g-init
unfolding rules_before
loop-g-init c = record { before = refl; fired = fire_start c.args.plan.now c.args.mask c.groups_in-groups.result c.args.fired.now }

pub only-requires : goal.only-requires
unfolding rules_from
only-requires c =
    let args = c.args in
    let loop = c.loop-g in
    let k = rules_few args.plan.now c.requires in
    let l = group_rules args.plan.now c.requires loop.g (rw c.groups_in-groups.ensures at c.loop-g-test.true) in
    let rules = ap₂ (λ (f n : ℕ). f + 1 + n) c.groups_from-from.ensures.0 (c.place.ensures.0 ∙ c.groups_in-groups.ensures) in
    (rules, omega (arith, c.groups_from-from.ensures.1, c.place.ensures.0), omega (arith, c.group_in-n.ensures, loop.invariant.before))

pub bounds-fired-place : goal.bounds-fired-place
bounds-fired-place c = omega (arith, groups_few c.args.plan.now c.requires, c.place-in-loop-g.ensures.0, c.groups_in-groups.ensures)

pub returns-in_err-fired : goal.returns-in_err-fired
returns-in_err-fired c =
    let p = c.args.plan.now in
    let loop = c.loop-g in
    let e = err_from_is_err_and c.from_residual.result c.from_residual.ensures.1 in
    let one = c.only.ensures ∙ ap₂ (λ (f n : ℕ). only_of (matching p c.args.mask f n)) loop.invariant.before c.group_in-n.ensures in
    rw (e.1, e.2) (fire_stop p c.args.mask loop.g c.groups_in-groups.result c.loop-g-test.true loop.fired c.in_err-fired.field-0.0 loop.invariant.fired (sym one ∙ c.in_err-fired.was)
    ∙ ap (firing p c.args.mask 0) c.groups_in-groups.ensures)

pub overflow_add-first : goal.overflow_add-first
overflow_add-first c =
    let args = c.args in
    let loop = c.loop-g in
    let k = rules_few args.plan.now c.requires in
    let l = group_rules args.plan.now c.requires loop.g (rw c.groups_in-groups.ensures at c.loop-g-test.true) in
    omega (arith, c.group_in-n.ensures, loop.invariant.before)

pub loop-g-preserved : goal.loop-g-preserved
unfolding rules_before
loop-g-preserved c =
    let p = c.args.plan.now in
    let loop = c.loop-g in
    let few = groups_few p c.requires in
    let q : loop.g < length loop.fired = omega (arith, c.groups_in-groups.ensures) in
    let one = c.only.ensures ∙ ap₂ (λ (f n : ℕ). only_of (matching p c.args.mask f n)) loop.invariant.before c.group_in-n.ensures in
    record {
      before = rw (add-one loop.g) (ap₂ ◌+◌ loop.invariant.before c.group_in-n.ensures);
      fired = rw c.place-in-loop-g.ensures.0 (fire_next p c.args.mask loop.g c.groups_in-groups.result c.loop-g-test.true loop.fired c.in_ok-fired.field-0 q loop.invariant.fired (sym one ∙ c.in_ok-fired.was));
    }

pub returns : goal.returns
returns c = rw (← c.groups_in-groups.ensures) (fire_end c.args.plan.now c.args.mask c.loop-g.g c.groups_in-groups.result c.loop-g.fired c.loop-g-test.false (omega arith) c.loop-g.invariant.fired)
