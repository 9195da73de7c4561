-- `row10_widths::codes::port_code` meets its contract: a bound width, or the declared type. Assumes nothing.
use native.Mathlib.Omega.{arith}
use Rattle.type_nodes.specs.Codes.{env_in}
use Rattle.type_codes.proofs.Slots.{filled_as, filled_some, bound_nodes, typed_nodes}
use Rattle.type_codes.proofs.port_code.Goals as goal

pub returns-then-j-widths : goal.returns-then-j-widths
returns-then-j-widths c =
    let args = c.args in
    let found = c.found-j in
    let if1 = c.if-j-widths in
    filled_as
    (bound_nodes (env_in args.text.now args.tape.now args.bound args.ports) args.n
    args.place _ found.ensures if1.true)
    c.single.ensures

pub returns : goal.returns
returns c =
    let args = c.args in
    let found = c.found-j in
    let type-code = c.type_code-len in
    filled_some type-code.ensures c.some.ensures
    (typed_nodes (env_in args.text.now args.tape.now args.bound args.ports) args.n
    args.place _ found.ensures (omega arith))
