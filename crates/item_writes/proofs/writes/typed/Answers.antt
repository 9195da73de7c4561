-- `item_writes::writes::typed` meets its contract: each operation that holds a type, and the plain ones. Assumes nothing.
use mathlib.Core.Path.{sym, ◌∙◌}
use native.Mathlib.Omega.{arith}
use Rattle.item_writes.specs.Tables.{numbers_of}
use Rattle.item_writes.proofs.Writing.{written_plain, typed_out, bit_out, range_out}
use Rattle.item_writes.proofs.writes.typed.Goals as goal

pub returns-in-37 : goal.returns-in-37
returns-in-37 c = rw c.in-37.is c.val.ensures

pub returns-in-13 : goal.returns-in-13
unfolding numbers_of
returns-in-13 c = let args = c.args in λ a s ew et ev u. typed_out a s args.op args.place args.value args.widths.now ew _ et c.in-13.is _ c.width-x.ensures

pub returns-in-20 : goal.returns-in-20
unfolding numbers_of
returns-in-20 c = let args = c.args in λ a s ew et ev u. bit_out a s args.op args.place args.value args.widths.now ew _ et c.in-20.is _ c.position-q.ensures

pub returns-in-21 : goal.returns-in-21
unfolding numbers_of
returns-in-21 c =
    let args = c.args in
    λ a s ew et ev u.
    range_out a s args.op args.place args.value args.widths.now ew _ et c.in-21.is _ _ _ (c.without.ensures.1 args.code.now) c.position-low.ensures c.position-high.ensures

pub returns-in_default : goal.returns-in_default
returns-in_default c = λ a s ew et ev u. c.plain.ensures ∙ sym (written_plain a s c.args.op c.args.place c.args.value u (omega arith) (omega arith) (omega arith) (omega arith))
