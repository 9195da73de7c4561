-- `type_value::Waiting::pop` meets its contract. Assumes nothing.
use native.Mathlib.Nat.{pos_of_ne-zero}
use Rattle.type_value.proofs.Cells.{taken_off, none_left}
use Rattle.type_value.proofs.Waiting.pop.Goals as goal

pub returns-then-self-eq0 : goal.returns-then-self-eq0
returns-then-self-eq0 c = none_left c.args.self.now.values c.args.self.now.n c.if-self-eq0.true

pub returns : goal.returns
returns c = taken_off c.args.self.now.values c.args.self.now.n (pos_of_ne-zero c.if-self-eq0.false)
