-- `value::operators::left` meets its contract. Assumes nothing.
use Rattle.std.proofs.Common.{◌*◌, ◌^◌, sym, ◌∙◌, arith}
use Rattle.bits.proofs.Laws.{again}
use Rattle.bits.proofs.Cases.{left_within}
use Rattle.value.proofs.operators.left.Goals as goal

pub returns-else-from-amount : goal.returns-else-from-amount
returns-else-from-amount c = c.low.ensures ∙ again (c.args.a * 2 ^ c.args.amount) 64 c.args.w c.requires ∙ sym (left_within c.args.w c.args.a c.args.amount (omega arith))
