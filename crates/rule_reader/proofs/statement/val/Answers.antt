-- `rule_reader::statement::val` meets its contract. Assumes nothing.
use native.Mathlib.Omega.{arith}
use mathlib.Core.Path.{sym, ◌∙◌}
use Rattle.language.specs.Parser.{val_p}
use Rattle.readers.proofs.Laws.{moved_more, same_err}
use Rattle.type_reader.proofs.Grammar.{one_byte, tells_ok, tells_err}
use Rattle.rule_reader.specs.States.{binding_p}
use Rattle.rule_reader.proofs.statement.val.Goals as goal

pub returns-in_err-x : goal.returns-in_err-x
unfolding val_p
returns-in_err-x c = rw (same_err c.from_residual.ensures.1) (record {
  moved = record { to = c.in_err-x.ensures.moved.to };
  agrees = λ M f h. tells_err _ _ (c.in_err-x.ensures.agrees M f (omega (arith, c.requires)));
})

pub returns : goal.returns
unfolding val_p binding_p
returns c = record {
  moved = moved_more c.in_ok-x.ensures.moved.to c.binding.ensures.moved;
  agrees = λ M f h. tells_ok _ _ (c.in_ok-x.ensures.agrees M f (omega (arith, c.requires)))
      (λ d e o. c.binding.ensures.agrees M f (omega (arith, c.requires, c.in_ok-x.ensures.moved.to)) d (e ∙ one_byte _ ∙ sym c.from.ensures) o);
}
