-- `turn` meets its contract. Assumes nothing.
use native.Mathlib.Omega.{arith}
use Prim.Native.Nat.{ℕ}
use mathlib.Core.Path.{refl, ap, ◌∙◌}
use lib.ListN.{take}
use Rattle.std.proofs.lemmas.Result.{err_from_is_err_and}
use Rattle.plan.specs.Layout.{group_count}
use Rattle.plan_sections.proofs.Parts.{ports_few, groups_few}
use Rattle.judged.proofs.Fired.{sound_sections, judged_fires}
use Rattle.turn.proofs.Outcomes.{counts_told, turn_refused, turn_clash, turn_ran}
use borrow.Author.Rules.{rules}
use Rattle.turn.proofs.turn.Goals as goal

pub judge-requires : goal.judge-requires
judge-requires g c =
    let args = c.args in
    let p = args.plan.now in
    let t = counts_told p args.values.now args.memory.now args.outputs.now c.requires.outputs_value in record {
      plan_value = (sound_sections p c.requires.plan_value).0;
      values_len = (t.0, t.2);
    }

pub returns-in_err-judge : goal.returns-in_err-judge
returns-in_err-judge g c =
    let args = c.args in
    let e = err_from_is_err_and c.from_residual.result c.from_residual.ensures.1 in
    rw (e.1, e.2) (turn_refused args.plan.now args.mask args.values.now args.memory.now args.outputs.now c.requires.outputs_value c.requires.plan_value c.in_err-judge.field-0.0 c.in_err-judge.ensures)

-- first that memory has room for a value of the type of the tables, then each clause
pub act-requires : goal.act-requires
act-requires g c =
    let args = c.args in
    let p = args.plan.now in
    let t = counts_told p args.values.now args.memory.now args.outputs.now c.requires.outputs_value in
    let s = (sound_sections p c.requires.plan_value).0 in (
      search rules,
      (
        (ports_few p s, omega (arith, groups_few p s)),
        (refl, (c.requires.tables, judged_fires p args.mask args.values.now args.memory.now c.judge.new.fired c.requires.plan_value t.0 t.2 c.in_ok-judge.ensures)),
      ),
    )

pub returns-then-tables : goal.returns-then-tables
returns-then-tables g c =
    let args = c.args in
    let p = args.plan.now in
    turn_clash p args.mask args.values.now args.memory.now args.outputs.now c.requires.outputs_value c.requires.plan_value
    (take (group_count p) c.judge.new.fired) c.in_ok-judge.ensures c.act.ensures c.if-tables.true

pub commit-requires : goal.commit-requires
commit-requires g c =
    let args = c.args in
    let p = args.plan.now in
    let t = counts_told p args.values.now args.memory.now args.outputs.now c.requires.outputs_value in
    (omega (arith, c.requires.tables), omega (arith, c.act.auto.outputs, ports_few p (sound_sections p c.requires.plan_value).0, t.1))

pub returns : goal.returns
returns g c =
    let args = c.args in
    let p = args.plan.now in
    let t = counts_told p args.values.now args.memory.now args.outputs.now c.requires.outputs_value in
    turn_ran p args.mask args.values.now args.memory.now args.outputs.now c.requires.outputs_value c.requires.plan_value (take (group_count p) c.judge.new.fired) c.in_ok-judge.ensures c.act.ensures
    c.if-tables.false c.present.ensures (c.commit.ensures.outputs_after ∙ ap (λ (k : ℕ). take k c.act.new.outputs) t.1) c.commit.ensures.memory_after
