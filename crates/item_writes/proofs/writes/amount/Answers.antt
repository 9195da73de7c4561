-- `item_writes::writes::amount` meets its contract. Assumes nothing.
use mathlib.Core.Path.{sym, ◌∙◌}
use Rattle.item_writes.specs.Tables.{numbers_of}
use Rattle.item_writes.proofs.Writing.{exact_amount, big_amount}
use Rattle.item_writes.proofs.writes.amount.Goals as goal

pub returns-in-Some : goal.returns-in-Some
unfolding numbers_of
returns-in-Some c = λ n e. exact_amount c.args.place n c.in-Some.n (sym c.in-Some.is ∙ e)

pub returns-in-None : goal.returns-in-None
unfolding numbers_of
returns-in-None c = λ n e. big_amount c.args.place n (sym c.in-None.is ∙ e)
