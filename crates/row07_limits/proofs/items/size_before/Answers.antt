-- `row07_limits::items::size_before` meets its contract: the item before is a size, or not. Assumes nothing.
use Rattle.std.proofs.Common.{arith, refl}
use Rattle.row07_limits.proofs.Walking.{sized_none, sized_here}
use Rattle.row07_limits.proofs.items.size_before.Goals as goal

pub returns-in_err-j : goal.returns-in_err-j
returns-in_err-j c = λ p. let under = c.in_err-j.ensures in rw c.from_residual.ensures (sized_none c.args.tape.now c.args.i p (omega arith))

pub returns : goal.returns
returns c = λ p. let less = c.in_ok-j.ensures in rw c.then_some.ensures (sized_here c.args.tape.now c.args.i c.in_ok-j.j p (omega arith) _ refl)
