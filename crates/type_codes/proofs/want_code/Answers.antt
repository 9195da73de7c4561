-- `row10_widths::codes::want_code` meets its contract: a port's width, or a memory's. Assumes nothing.
use native.Mathlib.Omega.{arith}
use mathlib.Core.Path.{refl}
use Rattle.type_nodes.specs.Codes.{env_in}
use Rattle.type_codes.proofs.Slots.{filled_as, filled_some, port_nodes_law, memory_nodes}
use Rattle.type_codes.proofs.want_code.Goals as goal

pub returns-then-i-ports : goal.returns-then-i-ports
returns-then-i-ports c =
    let args = c.args in
    let if1 = c.if-i-ports in
    filled_as
    (port_nodes_law (env_in args.text.now args.tape.now args.bound args.ports) args.n args.i
    if1.true refl)
    c.port_code.ensures

pub returns : goal.returns
returns c =
    let args = c.args in
    let type-code = c.type_code-len in
    filled_some type-code.ensures c.some.ensures
    (memory_nodes (env_in args.text.now args.tape.now args.bound args.ports) args.n
    args.i (omega arith))
