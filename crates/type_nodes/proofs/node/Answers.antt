-- `row10_widths::codes::node` meets its contract: by its operation, the node of the item. Assumes nothing.
use native.Mathlib.Omega.{arith}
use mathlib.Core.Path.{refl}
use Rattle.std.proofs.lemmas.Grind.{common_steps}
use Rattle.tape.specs.Walk.{op_at, place_at, value_at}
use Rattle.type_nodes.specs.Codes.{env_in, node_of}
use Rattle.type_nodes.proofs.Turns.{node_number, node_value, node_port}
use Rattle.type_nodes.proofs.node.Goals as goal

pub overflow_cast-result : goal.overflow_cast-result
overflow_cast-result c = omega (arith, c.port_index.ensures.1)

pub overflow_mul-result : goal.overflow_mul-result
overflow_mul-result c = omega (arith, c.port_index.ensures.1)

pub overflow_add-result : goal.overflow_add-result
overflow_add-result c = omega (arith, c.port_index.ensures.1)

pub returns-in-1 : goal.returns-in-1
returns-in-1 c =
    let args = c.args in
    node_number (env_in args.text.now args.tape.now args.bound args.ports)
    (op_at args.tape.now args.i) (place_at args.tape.now args.i) (value_at args.tape.now args.i) c.in-1.is
    c.number_node.ensures

pub returns-in-2 : goal.returns-in-2
returns-in-2 c =
    let args = c.args in
    let match = c.in-2 in
    node_value (env_in args.text.now args.tape.now args.bound args.ports)
    (op_at args.tape.now args.i) (place_at args.tape.now args.i) (value_at args.tape.now args.i) match.is c.end-end.ensures refl
    c.number_node-in-2.ensures c.value_at.ensures c.found-line.ensures

pub returns-in-3 : goal.returns-in-3
returns-in-3 c =
    let args = c.args in
    node_port (env_in args.text.now args.tape.now args.bound args.ports)
    (op_at args.tape.now args.i) (place_at args.tape.now args.i) (value_at args.tape.now args.i) c.in-3.is
    refl c.port_index.ensures.0

pub returns-in-6 : goal.returns-in-6
unfolding node_of
returns-in-6 c = rw c.in-6.is

pub returns-in-8 : goal.returns-in-8
unfolding node_of
returns-in-8 c = rw c.in-8.is

pub returns-in-7 : goal.returns-in-7
unfolding node_of
returns-in-7 c = rw c.in-7.is

pub returns-in-4 : goal.returns-in-4
unfolding node_of
returns-in-4 c = rw c.in-4.is

pub returns-in-5 : goal.returns-in-5
unfolding node_of
returns-in-5 c = rw c.in-5.is

pub returns-in_default : goal.returns-in_default
unfolding node_of
returns-in_default c = grind (arith, common_steps)
