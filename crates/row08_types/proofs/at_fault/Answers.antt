-- `row08_types::at_fault` meets its contract: by its node, the test of the item. Assumes nothing.
use Rattle.row08_types.proofs.Turns.{number_test, port_test, most_test, log_test, no_test}
use Rattle.row08_types.proofs.at_fault.Goals as goal

pub returns-in-Number : goal.returns-in-Number
returns-in-Number c = number_test c.args.tape.now c.args.n c.args.i c.node_of.ensures c.in-Number.is

pub returns-in-Port : goal.returns-in-Port
returns-in-Port c = port_test c.args.tape.now c.args.n c.args.i c.node_of.ensures c.in-Port.is c.seen_around.ensures.0

pub returns-in-Most : goal.returns-in-Most
returns-in-Most c = most_test c.args.tape.now c.args.n c.args.i c.node_of.ensures c.in-Most.is c.seen_around-in-Most.ensures.0

pub returns-in-Log : goal.returns-in-Log
returns-in-Log c = log_test c.args.tape.now c.args.n c.args.i c.node_of.ensures c.in-Log.is c.log_at_fault.ensures

pub returns-in_default : goal.returns-in_default
returns-in_default c = no_test c.args.tape.now c.args.n c.args.i c.node_of.ensures c.in_default.not-Number c.in_default.not-Port c.in_default.not-Most c.in_default.not-Log
