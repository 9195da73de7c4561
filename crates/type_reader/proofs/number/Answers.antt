-- `type_reader::number` meets its contract. Assumes nothing.
use native.Mathlib.Omega.{arith}
use Prim.Native.Nat.{◌-◌}
use Rattle.tape.specs.Tape.{flat_t}
use Rattle.readers.specs.Meets.{read}
use Rattle.readers.proofs.Laws.{suc_of}
use Rattle.type_reader.proofs.Grammar.{term_number}
use Rattle.type_reader.proofs.number.Goals as goal

pub returns : goal.returns
unfolding flat_t
returns c = record {
  moved = omega arith;
  agrees = λ M f h. rw (suc_of f (omega arith)) (rw (term_number M (f - 1) _ c.requires.kind) (read (rw c.value.ensures at c.put.ensures)));
}
