-- `type_reader::constants::positions` meets its contract. Assumes nothing.
use native.Mathlib.Omega.{arith}
use mathlib.Core.Path.{sym, ◌∙◌}
use Rattle.tape.specs.Tape.{flat}
use Rattle.readers.specs.Meets.{read, fault}
use Rattle.readers.proofs.Laws.{on_more, same_err}
use Rattle.readers.proofs.Spells.{until_ok, until_missed, until_err, found_at}
use Rattle.readers.proofs.Fixed.{s_unbracket}
use Rattle.type_reader.proofs.Operands.{positions_range, positions_bit, positions_none}
use Rattle.type_reader.proofs.constants.positions.Goals as goal

pub returns-then-kind-eq-UNBRACKET : goal.returns-then-kind-eq-UNBRACKET
unfolding flat
returns-then-kind-eq-UNBRACKET c = record { moved = omega (arith, c.requires); agrees = λ M f h e i on. rw (positions_bit M f _ e _ i (sym c.kind.ensures.is ∙ c.if-kind-eq-UNBRACKET.true)) (read (on_more on c.put.ensures)) }

pub returns-in_err-x : goal.returns-in_err-x
returns-in_err-x c = rw (same_err c.from_residual.ensures.1) (record {
  moved = omega (arith, c.requires, c.in_err-x.ensures);
  agrees = λ M f h e i on. rw (positions_none M f _ e _ i c.in_err-x.ensures (λ q. c.if-kind-eq-UNBRACKET.false (c.kind.ensures.is ∙ q))) fault;
})

pub returns-in_err-y : goal.returns-in_err-y
returns-in_err-y c = rw (same_err c.from_residual-in_err-y.ensures.1) (record {
  moved = record { to = c.in_err-y.ensures.moved.to };
  agrees = λ M f h e i on. rw (positions_range M f _ e _ i c.in_ok-x.ensures) (until_err M s_unbracket _ _ (c.in_err-y.ensures.agrees M f (omega (arith, c.requires, c.in_ok-x.ensures))));
})

pub returns-in_err-z : goal.returns-in_err-z
returns-in_err-z c = rw (same_err c.from_residual-in_err-z.ensures.1) (record {
  moved = omega (arith, c.in_ok-y.ensures.moved.to, c.in_err-z.ensures);
  agrees = λ M f h e i on. rw (positions_range M f _ e _ i c.in_ok-x.ensures) (until_missed M s_unbracket _ _ (c.in_ok-y.ensures.agrees M f (omega (arith, c.requires, c.in_ok-x.ensures))) c.in_err-z.ensures);
})

pub returns : goal.returns
unfolding flat
returns c = record {
  moved = omega (arith, c.requires, c.in_ok-x.ensures, c.in_ok-y.ensures.moved.to, c.in_ok-z.ensures, found_at (omega arith) c.in_ok-z.ensures, c.put-2.ensures);
  agrees = λ M f h e i on. rw (positions_range M f _ e _ i c.in_ok-x.ensures)
      (until_ok M s_unbracket _ _ (c.in_ok-y.ensures.agrees M f (omega (arith, c.requires, c.in_ok-x.ensures))) c.in_ok-z.ensures
      (λ j p on₁. read (on_more (on_more on on₁) c.put-2.ensures)));
}
