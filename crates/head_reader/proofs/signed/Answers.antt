-- `head_reader::signed` meets its contract. Assumes nothing.
use native.Mathlib.Omega.{arith}
use Rattle.readers.proofs.Laws.{same_err}
use Rattle.readers.proofs.Spells.{found_at}
use Rattle.readers.specs.Meets.{read, fault}
use Rattle.tape.specs.Tape.{flat_signed}
use Rattle.head_reader.proofs.Laws.{signed_name, signed_none}
use Rattle.head_reader.proofs.signed.Goals as goal

pub returns-in_err-x : goal.returns-in_err-x
returns-in_err-x c = rw (same_err c.from_residual.ensures.1) (record {
  moved = omega (arith, c.requires, c.in_err-x.ensures);
  agrees = λ M f h. rw (signed_none M _ f c.in_err-x.ensures) fault;
})

pub put-requires-clause-n_bound : goal.put-requires-clause-n_bound
put-requires-clause-n_bound c = omega (arith, c.requires, c.in_ok-x.ensures, found_at (omega arith) c.in_ok-x.ensures)

pub put-requires-clause-within : goal.put-requires-clause-within
put-requires-clause-within c = omega (arith, c.requires, c.in_ok-x.ensures, found_at (omega arith) c.in_ok-x.ensures)

pub returns : goal.returns
unfolding flat_signed
returns c = record {
  moved = omega (arith, c.requires, c.in_ok-x.ensures, found_at (omega arith) c.in_ok-x.ensures, c.put.ensures);
  agrees = λ M f h. rw (signed_name M _ f c.in_ok-x.ensures)
      (read c.put.ensures);
}
