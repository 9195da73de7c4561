-- `item_writes::writes::val` meets its contract: a `val` with a type, and one without. Assumes nothing.
use Rattle.tape.specs.Tape.{VAL}
use mathlib.Core.Path.{refl}
use Rattle.item_writes.specs.Tables.{numbers_of}
use Rattle.item_writes.proofs.Writing.{kept_out, val_out}
use Rattle.item_writes.proofs.writes.val.Goals as goal

pub returns-then-value-eq1 : goal.returns-then-value-eq1
unfolding numbers_of
returns-then-value-eq1 c =
    let args = c.args in
    λ a s ew et ev u.
    kept_out a s VAL args.place args.value args.widths.now ew _ et refl c.if-value-eq1.true args.vals _ _ ev c.narrow.ensures c.width-x.ensures

pub returns-else-value-eq1 : goal.returns-else-value-eq1
unfolding numbers_of
returns-else-value-eq1 c =
    let args = c.args in
    λ a s ew et ev u. val_out a s VAL args.place args.value refl c.if-value-eq1.false args.vals _ ev c.narrow-else-value-eq1.ensures
