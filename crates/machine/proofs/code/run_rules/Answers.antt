-- `run_rules` meets its contract. Assumes nothing.
use native.Mathlib.Omega.{arith}
use Prim.Native.Nat.{ℕ}
use mathlib.Core.Path.{refl, sym, ap, ◌∙◌}
use mathlib.Core.List.{List, []}
use lib.ListN.{get_or}
use Rattle.item_steps.specs.Machine.{state}
use Rattle.machine.specs.Fires.{rule_run}
use Rattle.machine.proofs.Rules.{rules_next, rules_done, ran_as}
use borrow.Author.Rules.{rules}
use Rattle.machine.proofs.code.run_rules.Goals as goal

pub loop-r-init : goal.loop-r-init
loop-r-init g c =
    (state [] [] c.args.outputs.now [], record { output = refl; write = c.requires.tables.1 }, refl)

-- first that memory has room for a value of the type of the tables, then each clause
pub run_rule-requires : goal.run_rule-requires
run_rule-requires g c =
    let u = c.loop-r.invariant in (
      search rules,
      (
        (c.requires.by_index c.loop-r.r-index (omega arith), omega arith),
        (c.requires.tables.0, (u.0.writes, u.1.write)),
      ),
    )

pub loop-r-preserved : goal.loop-r-preserved
loop-r-preserved g c =
    let u = c.loop-r.invariant in
    let run = rule_run c.args.plan.now c.args.values.now c.args.memory.now (get_or c.args.fired.now c.loop-r.r-index 0) in (
      run u.0.outputs u.0.writes,
      ran_as (c.run_rule.ensures u.0.writes u.1.write) (ap (λ (o : List ℕ). run o u.0.writes) u.1.output),
      sym (rules_next c.args.plan.now c.args.values.now c.args.memory.now c.args.fired.now c.loop-r.r-index (omega arith) u.0) ∙ u.2,
    )

pub returns : goal.returns
returns g c =
    let u = c.loop-r.invariant in
    ran_as u.1 (sym (rules_done c.args.plan.now c.args.values.now c.args.memory.now c.args.fired.now c.loop-r.r-index u.0 (omega arith)) ∙ u.2)
