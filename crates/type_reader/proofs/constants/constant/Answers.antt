-- `type_reader::constants::constant` meets its contract. Assumes nothing.
use native.Mathlib.Omega.{arith}
use mathlib.Core.Path.{◌∙◌}
use Prim.Native.Nat.{◌-◌}
use Rattle.tape.specs.Tape.{flat}
use Rattle.readers.specs.Meets.{read}
use Rattle.readers.proofs.Laws.{suc_of2}
use Rattle.type_reader.proofs.Operands.{operand_plain}
use Rattle.type_reader.proofs.constants.constant.Goals as goal

pub returns-in_default : goal.returns-in_default
unfolding flat
returns-in_default c = record {
  moved = omega (arith, c.requires);
  agrees = λ M f h. rw (suc_of2 f (omega (arith, c.requires)))
      (rw (operand_plain M (f - 2) _ c.requires.starts.kind (λ q. grind (arith, c.kind.ensures.is ∙ q)) (λ q. grind (arith, c.kind.ensures.is ∙ q)) c.requires.fact)
      (read (rw c.value.ensures at c.put.ensures)));
}
