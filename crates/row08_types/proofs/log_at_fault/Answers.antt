-- `row08_types::log_at_fault` meets its contract. Assumes nothing.
use Rattle.std.proofs.Common.{◌∙◌}
use Rattle.row08_types.specs.Walk.{nodes_before}
use Rattle.row08_types.proofs.Turns.{log_in, log_third}
use Rattle.row08_types.proofs.log_at_fault.Goals as goal

pub returns-then-s : goal.returns-then-s
returns-then-s c = c.if-s.true ∙ log_in (nodes_before c.args.tape.now c.args.i) c.seen_around-s.ensures.0 c.if-s.true

pub returns-else-s : goal.returns-else-s
returns-else-s c = log_third (nodes_before c.args.tape.now c.args.i) c.seen_around-s.ensures.0 c.if-s.false c.logs_before.ensures
