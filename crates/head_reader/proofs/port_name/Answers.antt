-- `head_reader::port_name` meets its contract. Assumes nothing.
use mathlib.Core.Path.{sym}
use native.Mathlib.Omega.{arith}
use Rattle.readers.proofs.Fixed.{s_semicolon}
use Rattle.readers.proofs.Laws.{on_more, on_value, same_err}
use Rattle.readers.proofs.Spells.{expect_found, expect_missed, found_at}
use Rattle.readers.specs.Meets.{read, fault}
use Rattle.tape.specs.Tape.{flat_port}
use Rattle.head_reader.proofs.Laws.{port_name, port_none}
use Rattle.head_reader.proofs.port_name.Goals as goal

pub returns-in_err-x : goal.returns-in_err-x
returns-in_err-x c = rw (same_err c.from_residual.ensures.1) (record {
  moved = omega (arith, c.requires, c.in_err-x.ensures);
  agrees = λ M i d e on. rw (port_none M _ d i c.in_err-x.ensures) fault;
})

pub returns-in_err-y : goal.returns-in_err-y
returns-in_err-y c = rw (same_err c.from_residual-in_err-y.ensures.1) (record {
  moved = omega (arith, c.requires, c.in_ok-x.ensures, found_at (omega arith) c.in_ok-x.ensures, c.in_err-y.ensures);
  agrees = λ M i d e on. rw (port_name M _ d i c.in_ok-x.ensures)
      (expect_missed M s_semicolon _ c.in_err-y.ensures);
})

pub expect-requires-2 : goal.expect-requires-2
expect-requires-2 c = omega (arith, c.requires, c.in_ok-x.ensures, found_at (omega arith) c.in_ok-x.ensures)

pub put-requires-clause-n_bound : goal.put-requires-clause-n_bound
put-requires-clause-n_bound c = omega (arith, c.requires, c.in_ok-x.ensures, found_at (omega arith) c.in_ok-x.ensures, c.in_ok-y.ensures, found_at (omega arith) c.in_ok-y.ensures)

pub put-requires-clause-within : goal.put-requires-clause-within
put-requires-clause-within c = omega (arith, c.requires, c.in_ok-x.ensures, found_at (omega arith) c.in_ok-x.ensures, c.in_ok-y.ensures, found_at (omega arith) c.in_ok-y.ensures)

pub returns : goal.returns
unfolding flat_port
returns c = record {
  moved = omega (arith, c.requires, c.in_ok-x.ensures, found_at (omega arith) c.in_ok-x.ensures, c.in_ok-y.ensures, found_at (omega arith) c.in_ok-y.ensures, c.put.ensures);
  agrees = λ M i d e on. rw (port_name M _ d i c.in_ok-x.ensures)
      (rw (expect_found M s_semicolon _ c.in_ok-y.ensures)
      (read (on_more on (on_value (sym e) c.put.ensures))));
}
