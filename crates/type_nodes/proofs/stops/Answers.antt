-- `type_nodes::stops` meets its contract. Assumes nothing.
use Rattle.std.proofs.Common.{◌∙◌}
use Rattle.type_nodes.proofs.Turns.{stops_over, stops_port, stops_not_port, stops_not_memory, stops_memory, not_holding_law}
use Rattle.type_nodes.proofs.stops.Goals as goal

pub returns-in-Over-default : goal.returns-in-Over-default
returns-in-Over-default c = stops_over c.args.text.now c.args.goal c.args.place c.in-Over-default.is-0

pub returns-in-Declared-Port : goal.returns-in-Declared-Port
returns-in-Declared-Port c = c.same_name.ensures ∙ stops_port c.args.text.now c.args.goal c.args.place c.in-Declared-Port.is-0 c.in-Declared-Port.is-1

pub returns-in-Memory-Memory : goal.returns-in-Memory-Memory
returns-in-Memory-Memory c = stops_memory c.args.text.now c.args.goal c.args.place c.in-Memory-Memory.is-0 _ c.in-Memory-Memory.is-1

pub returns-in_default : goal.returns-in_default
returns-in_default c = stops_not_port c.args.text.now c.args.goal c.args.place c.in_default.is-0 c.in_default.is-1

pub returns-in_default-2 : goal.returns-in_default-2
returns-in_default-2 c = stops_not_memory c.args.text.now c.args.goal c.args.place c.in_default.is-0 c.in_default.is-1

pub returns-in_default-3 : goal.returns-in_default-3
returns-in_default-3 c = not_holding_law c.args.text.now _ _ c.args.place c.in_default.not-Over-0 c.in_default.not-Declared-0 c.in_default.not-Memory-0
