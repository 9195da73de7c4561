-- `type_reader::constants::typed` meets its contract. Assumes nothing.
use native.Mathlib.Omega.{arith}
use Prim.Native.Nat.{◌-◌}
use Rattle.tape.specs.Tape.{flat_b}
use Rattle.readers.proofs.Laws.{suc_of, on_more, moved_more, same_err}
use Rattle.readers.proofs.Spells.{until_ok, until_missed, until_err, found_at}
use Rattle.readers.proofs.Fixed.{s_greater}
use Rattle.type_reader.proofs.Operands.{operand_typed}
use Rattle.type_reader.proofs.constants.typed.Goals as goal

pub returns-in_err-x : goal.returns-in_err-x
returns-in_err-x c = rw (same_err c.from_residual.ensures.1) (record {
  moved = record { to = c.in_err-x.ensures.moved.to };
  agrees = λ M f h. rw (suc_of f (omega (arith, c.requires))) (rw (operand_typed M (f - 1) _ c.requires.kind) (until_err M s_greater _ _ (c.in_err-x.ensures.agrees M (f - 1) (omega (arith, c.requires)))));
})

pub returns-in_err-y : goal.returns-in_err-y
returns-in_err-y c = rw (same_err c.from_residual-in_err-y.ensures.1) (record {
  moved = omega (arith, c.in_ok-x.ensures.moved.to, c.in_err-y.ensures);
  agrees = λ M f h. rw (suc_of f (omega (arith, c.requires))) (rw (operand_typed M (f - 1) _ c.requires.kind) (until_missed M s_greater _ _ (c.in_ok-x.ensures.agrees M (f - 1) (omega (arith, c.requires))) c.in_err-y.ensures));
})

pub amount-requires : goal.amount-requires
amount-requires c = omega (arith, c.requires, c.in_ok-x.ensures.moved.to, c.in_ok-y.ensures, found_at (omega arith) c.in_ok-y.ensures, c.put.ensures)

pub returns : goal.returns
unfolding flat_b
returns c = let w = c.in_ok-x.ensures.moved.to in record {
  moved = moved_more (omega (arith, c.requires, c.in_ok-y.ensures, found_at (omega arith) c.in_ok-y.ensures, c.put.ensures)) c.amount.ensures.moved;
  agrees = λ M f h. rw (suc_of f (omega (arith, c.requires)))
      (rw (operand_typed M (f - 1) _ c.requires.kind)
      (until_ok M s_greater _ _ (c.in_ok-x.ensures.agrees M (f - 1) (omega (arith, c.requires))) c.in_ok-y.ensures
      (λ a p on. c.amount.ensures.agrees M _ (on_more on c.put.ensures))));
}
