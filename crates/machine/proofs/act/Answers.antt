-- `act` meets its contract. Assumes nothing.
use mathlib.Core.Path.{◌∙◌}
use Rattle.plan.specs.Layout.{port_count}
use Rattle.machine.proofs.Rules.{part_fires, part_long, acted}
use borrow.Author.Rules.{rules}
use Rattle.machine.proofs.act.Goals as goal

-- first that memory has room for a value of the type of the tables, then each clause
pub run_rules-requires : goal.run_rules-requires
run_rules-requires g c =
    let k = c.place-groups.ensures.0 ∙ c.group_count.ensures in
    let n = c.place-ports.ensures.0 ∙ c.port_count.ensures in (
      search rules,
      (
        part_fires c.args.plan.now c.args.values.now c.args.memory.now c.args.fired.now c.place-groups.result k c.requires.plan_bound.1 c.requires.by_index,
        (part_long c.args.outputs.now c.place-ports.result (port_count c.args.plan.now) 16 c.requires.outputs_value n c.requires.plan_bound.0, (c.requires.tables, c.begin.ensures.after)),
      ),
    )

pub returns : goal.returns
returns g c =
    let k = c.place-groups.ensures.0 ∙ c.group_count.ensures in
    let n = c.place-ports.ensures.0 ∙ c.port_count.ensures in
    acted c.args.plan.now c.args.values.now c.args.memory.now c.args.fired.now c.args.outputs.now c.place-groups.result c.place-ports.result k n
    c.requires.plan_bound.0 c.requires.outputs_value c.run_rules.new.outputs _ c.run_rules.auto.outputs c.run_rules.ensures
