-- `type_reader::constants::amount` meets its contract. Assumes nothing.
use native.Mathlib.Omega.{arith}
use mathlib.Core.Path.{sym, ◌∙◌}
use Rattle.tape.specs.Tape.{flat_a, flat}
use Rattle.readers.specs.Meets.{read, fault}
use Rattle.readers.proofs.Laws.{on_more, same_err}
use Rattle.readers.proofs.Spells.{kind_inside, found_at}
use Rattle.type_reader.proofs.Operands.{amount_given, amount_none, amount_value, amount_bad}
use Rattle.type_reader.proofs.constants.amount.Goals as goal

pub returns-then-kind-eq-DIGITS : goal.returns-then-kind-eq-DIGITS
unfolding flat flat_a
returns-then-kind-eq-DIGITS c = record { moved = omega arith; agrees = λ M e on. rw (amount_given M e _ (sym c.kind.ensures.is ∙ c.if-kind-eq-DIGITS.true)) (read (on_more on c.put.ensures)) }

pub returns-in_err-x : goal.returns-in_err-x
returns-in_err-x c = rw (same_err c.from_residual.ensures.1) (record {
  moved = omega (arith, c.requires, c.in_err-x.ensures);
  agrees = λ M e on. rw (amount_none M e _ (λ q. c.if-kind-eq-DIGITS.false (c.kind.ensures.is ∙ q)) c.in_err-x.ensures) fault;
})

pub returns-in_err-y : goal.returns-in_err-y
returns-in_err-y c = rw (same_err c.from_residual-in_err-y.ensures.1) (record {
  moved = omega (arith, c.requires, c.in_ok-x.ensures, found_at (omega arith) c.in_ok-x.ensures, c.in_err-y.ensures);
  agrees = λ M e on. rw (amount_bad M e _ c.in_ok-x.ensures c.in_err-y.ensures) fault;
})

pub put-requires-2-clause-within : goal.put-requires-2-clause-within
put-requires-2-clause-within c = omega (arith, c.requires, kind_inside _ _ 2 (omega arith) c.in_ok-y.ensures.kind)

pub returns : goal.returns
unfolding flat flat_a
returns c = record {
  moved = omega (arith, c.requires, c.in_ok-x.ensures, c.in_ok-y.ensures, found_at (omega arith) c.in_ok-y.ensures, c.put-2.ensures);
  agrees = λ M e on. rw (amount_value M e _ c.in_ok-x.ensures c.in_ok-y.ensures) (read (on_more on c.put-2.ensures));
}
