-- `head_reader::port` meets its contract. Assumes nothing.
use native.Mathlib.Omega.{arith}
use Rattle.language.specs.Parser.{port_p}
use Rattle.readers.proofs.Laws.{moved_more, same_err}
use Rattle.type_reader.proofs.Grammar.{one_byte, tells_ok, tells_err}
use Rattle.head_reader.specs.Declares.{port_name_p}
use Rattle.head_reader.proofs.port.Goals as goal

pub returns-in_err-x : goal.returns-in_err-x
unfolding port_p
returns-in_err-x c = rw (same_err c.from_residual.ensures.1) (record {
  moved = record { to = c.in_err-x.ensures.moved.to };
  agrees = λ M f h. tells_err _ _ (c.in_err-x.ensures.agrees M f (omega (arith, c.requires)));
})

pub returns : goal.returns
unfolding port_p port_name_p
returns c = record {
  moved = moved_more c.in_ok-x.ensures.moved.to c.port_name.ensures.moved;
  agrees = λ M f h. tells_ok _ _ (c.in_ok-x.ensures.agrees M f (omega (arith, c.requires)))
      (λ d e o. c.port_name.ensures.agrees M c.args.input d (omega (arith, e, c.from.ensures, c.from-2.ensures, one_byte c.args.input, one_byte c.in_ok-x.typed)) o);
}
