-- `rule_reader::statement::assignment` meets its contract. Assumes nothing.
use mathlib.Core.Path.{sym, ◌∙◌}
use native.Mathlib.Omega.{arith}
use Rattle.readers.proofs.Fixed.{s_semicolon, s_equals}
use Rattle.readers.proofs.Laws.{on_more, same_err}
use Rattle.readers.proofs.Spells.{expect_found, expect_missed, until_ok, until_missed, until_err, found_at}
use Rattle.readers.specs.Meets.{read}
use Rattle.tape.specs.Tape.{flat_assignment}
use Rattle.rule_reader.proofs.Stated.{assignment_plain}
use Rattle.rule_reader.proofs.statement.assignment.Goals as goal

pub returns-in_err-x : goal.returns-in_err-x
returns-in_err-x c = rw (same_err c.from_residual.ensures.1) (record {
  moved = omega (arith, c.requires, c.in_err-x.ensures);
  agrees = λ M f h. rw (assignment_plain M f _ c.requires.kind (sym c.memory.ensures ∙ c.if-memory.false))
      (expect_missed M s_equals _ c.in_err-x.ensures);
})

pub returns-in_err-y : goal.returns-in_err-y
returns-in_err-y c = rw (same_err c.from_residual-in_err-y.ensures.1) (record {
  moved = record { to = c.in_err-y.ensures.moved.to };
  agrees = λ M f h. rw (assignment_plain M f _ c.requires.kind (sym c.memory.ensures ∙ c.if-memory.false))
      (rw (expect_found M s_equals _ c.in_ok-x.ensures)
      (until_err M s_semicolon _ _ (c.in_err-y.ensures.agrees M f (omega (arith, c.requires, c.in_ok-x.ensures, found_at (omega arith) c.in_ok-x.ensures)))));
})

pub returns-in_err-z : goal.returns-in_err-z
returns-in_err-z c = rw (same_err c.from_residual-in_err-z.ensures.1) (record {
  moved = omega (arith, c.requires, c.in_ok-x.ensures, found_at (omega arith) c.in_ok-x.ensures, c.in_ok-y.ensures.moved.to, c.in_err-z.ensures);
  agrees = λ M f h. rw (assignment_plain M f _ c.requires.kind (sym c.memory.ensures ∙ c.if-memory.false))
      (rw (expect_found M s_equals _ c.in_ok-x.ensures)
      (until_missed M s_semicolon _ _ (c.in_ok-y.ensures.agrees M f (omega (arith, c.requires, c.in_ok-x.ensures, found_at (omega arith) c.in_ok-x.ensures))) c.in_err-z.ensures));
})

pub expr-requires : goal.expr-requires
expr-requires c = omega (arith, c.requires, c.in_ok-x.ensures, found_at (omega arith) c.in_ok-x.ensures)

pub returns : goal.returns
unfolding flat_assignment
returns c = record {
  moved = omega (arith, c.requires, c.in_ok-x.ensures, found_at (omega arith) c.in_ok-x.ensures, c.in_ok-y.ensures.moved.to, c.in_ok-z.ensures, found_at (omega arith) c.in_ok-z.ensures, c.put.ensures);
  agrees = λ M f h. rw (assignment_plain M f _ c.requires.kind (sym c.memory.ensures ∙ c.if-memory.false))
      (rw (expect_found M s_equals _ c.in_ok-x.ensures)
      (until_ok M s_semicolon _ _ (c.in_ok-y.ensures.agrees M f (omega (arith, c.requires, c.in_ok-x.ensures, found_at (omega arith) c.in_ok-x.ensures))) c.in_ok-z.ensures (λ a p on₁.
      read (on_more on₁ c.put.ensures))));
}
