-- `item_writes::writes::port` meets its contract. Assumes nothing.
use Rattle.item_writes.specs.Walk.{around_of}
use Rattle.item_writes.specs.Tables.{numbers_of}
use Rattle.item_writes.proofs.Writing.{port_looked}
use Rattle.item_writes.proofs.writes.port.Goals as goal

pub returns : goal.returns
unfolding numbers_of around_of
returns c =
    let t = c.args in
    record { is = λ btext table lines s. port_looked (around_of t.given.text.now t.given.tape.now t.given.many btext table lines t.given.widths.now) s t.op t.place _ _ _ c.numbered-k.ensures.0 c.narrow.ensures c.width_of.ensures }
