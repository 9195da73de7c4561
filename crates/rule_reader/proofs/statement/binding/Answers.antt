-- `rule_reader::statement::binding` meets its contract. Assumes nothing.
use mathlib.Core.Path.{sym}
use native.Mathlib.Omega.{arith}
use Rattle.readers.proofs.Fixed.{s_semicolon, s_equals}
use Rattle.readers.proofs.Laws.{on_more, on_value, same_err}
use Rattle.readers.proofs.Spells.{expect_found, expect_missed, until_ok, until_missed, until_err, found_at}
use Rattle.readers.specs.Meets.{read, fault}
use Rattle.tape.specs.Tape.{flat_val}
use Rattle.rule_reader.proofs.Stated.{binding_name, binding_none}
use Rattle.rule_reader.proofs.statement.binding.Goals as goal

pub returns-in_err-x : goal.returns-in_err-x
returns-in_err-x c = rw (same_err c.from_residual.ensures.1) (record {
  moved = omega (arith, c.requires, c.in_err-x.ensures);
  agrees = λ M f h d e on. rw (binding_none M f _ d c.in_err-x.ensures) fault;
})

pub returns-in_err-y : goal.returns-in_err-y
returns-in_err-y c = rw (same_err c.from_residual-in_err-y.ensures.1) (record {
  moved = omega (arith, c.requires, c.in_ok-x.ensures, found_at (omega arith) c.in_ok-x.ensures, c.in_err-y.ensures);
  agrees = λ M f h d e on. rw (binding_name M f _ d c.in_ok-x.ensures)
      (expect_missed M s_equals _ c.in_err-y.ensures);
})

pub returns-in_err-z : goal.returns-in_err-z
returns-in_err-z c = rw (same_err c.from_residual-in_err-z.ensures.1) (record {
  moved = record { to = c.in_err-z.ensures.moved.to };
  agrees = λ M f h d e on. rw (binding_name M f _ d c.in_ok-x.ensures)
      (rw (expect_found M s_equals _ c.in_ok-y.ensures)
      (until_err M s_semicolon _ _ (c.in_err-z.ensures.agrees M f (omega (arith, c.requires, c.in_ok-x.ensures, found_at (omega arith) c.in_ok-x.ensures, c.in_ok-y.ensures, found_at (omega arith) c.in_ok-y.ensures)))));
})

pub returns-in_err-end : goal.returns-in_err-end
returns-in_err-end c = rw (same_err c.from_residual-in_err-end.ensures.1) (record {
  moved = omega (arith, c.requires, c.in_ok-x.ensures, found_at (omega arith) c.in_ok-x.ensures, c.in_ok-y.ensures, found_at (omega arith) c.in_ok-y.ensures, c.in_ok-z.ensures.moved.to, c.in_err-end.ensures);
  agrees = λ M f h d e on. rw (binding_name M f _ d c.in_ok-x.ensures)
      (rw (expect_found M s_equals _ c.in_ok-y.ensures)
      (until_missed M s_semicolon _ _ (c.in_ok-z.ensures.agrees M f (omega (arith, c.requires, c.in_ok-x.ensures, found_at (omega arith) c.in_ok-x.ensures, c.in_ok-y.ensures, found_at (omega arith) c.in_ok-y.ensures))) c.in_err-end.ensures));
})

pub expect-requires-2 : goal.expect-requires-2
expect-requires-2 c = omega (arith, c.requires, c.in_ok-x.ensures, found_at (omega arith) c.in_ok-x.ensures)

pub expr-requires : goal.expr-requires
expr-requires c = omega (arith, c.requires, c.in_ok-x.ensures, found_at (omega arith) c.in_ok-x.ensures, c.in_ok-y.ensures, found_at (omega arith) c.in_ok-y.ensures)

pub returns : goal.returns
unfolding flat_val
returns c = record {
  moved = omega (arith, c.requires, c.in_ok-x.ensures, found_at (omega arith) c.in_ok-x.ensures, c.in_ok-y.ensures, found_at (omega arith) c.in_ok-y.ensures, c.in_ok-z.ensures.moved.to, c.in_ok-end.ensures, found_at (omega arith) c.in_ok-end.ensures, c.put.ensures);
  agrees = λ M f h d e on. rw (binding_name M f _ d c.in_ok-x.ensures)
      (rw (expect_found M s_equals _ c.in_ok-y.ensures)
      (until_ok M s_semicolon _ _ (c.in_ok-z.ensures.agrees M f (omega (arith, c.requires, c.in_ok-x.ensures, found_at (omega arith) c.in_ok-x.ensures, c.in_ok-y.ensures, found_at (omega arith) c.in_ok-y.ensures))) c.in_ok-end.ensures (λ a p on₁.
      read (on_more (on_more on on₁) (on_value (sym e) c.put.ensures)))));
}
