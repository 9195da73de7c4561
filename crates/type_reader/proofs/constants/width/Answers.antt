-- `type_reader::constants::width` meets its contract. Assumes nothing.
use native.Mathlib.Omega.{arith}
use Prim.Native.Nat.{◌-◌}
use Rattle.tape.specs.Tape.{flat_b}
use Rattle.readers.proofs.Laws.{suc_of2, moved_more}
use Rattle.type_reader.proofs.Operands.{operand_width}
use Rattle.type_reader.proofs.constants.width.Goals as goal

pub returns : goal.returns
unfolding flat_b
returns c = record {
  moved = moved_more (omega (arith, c.requires)) c.amount.ensures.moved;
  agrees = λ M f h. rw (suc_of2 f (omega (arith, c.requires))) (rw (operand_width M (f - 2) _ c.requires.starts.kind c.requires.valued) (c.amount.ensures.agrees M _ (rw c.value.ensures at c.put.ensures)));
}
