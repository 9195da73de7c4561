-- `rule_reader::statement::write` meets its contract. Assumes nothing.
use native.Mathlib.Omega.{arith}
use Rattle.readers.proofs.Fixed.{s_bracket, s_unbracket, s_semicolon, s_equals}
use Rattle.readers.proofs.Laws.{on_more, same_err}
use Rattle.readers.proofs.Spells.{expect_found, expect_missed, until_ok, until_missed, until_err, found_at}
use Rattle.readers.specs.Meets.{read}
use Rattle.tape.specs.Tape.{flat_assignment}
use Rattle.rule_reader.proofs.Stated.{assignment_memory}
use Rattle.rule_reader.proofs.statement.write.Goals as goal

pub returns-in_err-x : goal.returns-in_err-x
returns-in_err-x c = rw (same_err c.from_residual.ensures.1) (record {
  moved = omega (arith, c.requires, c.in_err-x.ensures);
  agrees = λ M f h. rw (assignment_memory M f _ c.requires.starts.kind c.requires.at_value)
      (expect_missed M s_bracket _ c.in_err-x.ensures);
})

pub returns-in_err-y : goal.returns-in_err-y
returns-in_err-y c = rw (same_err c.from_residual-in_err-y.ensures.1) (record {
  moved = record { to = c.in_err-y.ensures.moved.to };
  agrees = λ M f h. rw (assignment_memory M f _ c.requires.starts.kind c.requires.at_value)
      (rw (expect_found M s_bracket _ c.in_ok-x.ensures)
      (until_err M s_unbracket _ _ (c.in_err-y.ensures.agrees M f (omega (arith, c.requires, c.in_ok-x.ensures, found_at (omega arith) c.in_ok-x.ensures)))));
})

pub returns-in_err-z : goal.returns-in_err-z
returns-in_err-z c = rw (same_err c.from_residual-in_err-z.ensures.1) (record {
  moved = omega (arith, c.requires, c.in_ok-x.ensures, found_at (omega arith) c.in_ok-x.ensures, c.in_ok-y.ensures.moved.to, c.in_err-z.ensures);
  agrees = λ M f h. rw (assignment_memory M f _ c.requires.starts.kind c.requires.at_value)
      (rw (expect_found M s_bracket _ c.in_ok-x.ensures)
      (until_missed M s_unbracket _ _ (c.in_ok-y.ensures.agrees M f (omega (arith, c.requires, c.in_ok-x.ensures, found_at (omega arith) c.in_ok-x.ensures))) c.in_err-z.ensures));
})

pub returns-in_err-value : goal.returns-in_err-value
returns-in_err-value c = rw (same_err c.from_residual-in_err-value.ensures.1) (record {
  moved = omega (arith, c.requires, c.in_ok-x.ensures, found_at (omega arith) c.in_ok-x.ensures, c.in_ok-y.ensures.moved.to, c.in_ok-z.ensures, found_at (omega arith) c.in_ok-z.ensures, c.in_err-value.ensures);
  agrees = λ M f h. rw (assignment_memory M f _ c.requires.starts.kind c.requires.at_value)
      (rw (expect_found M s_bracket _ c.in_ok-x.ensures)
      (until_ok M s_unbracket _ _ (c.in_ok-y.ensures.agrees M f (omega (arith, c.requires, c.in_ok-x.ensures, found_at (omega arith) c.in_ok-x.ensures))) c.in_ok-z.ensures (λ a p on₁.
      expect_missed M s_equals _ c.in_err-value.ensures)));
})

pub returns-in_err-past : goal.returns-in_err-past
returns-in_err-past c = rw (same_err c.from_residual-in_err-past.ensures.1) (record {
  moved = record { to = c.in_err-past.ensures.moved.to };
  agrees = λ M f h. rw (assignment_memory M f _ c.requires.starts.kind c.requires.at_value)
      (rw (expect_found M s_bracket _ c.in_ok-x.ensures)
      (until_ok M s_unbracket _ _ (c.in_ok-y.ensures.agrees M f (omega (arith, c.requires, c.in_ok-x.ensures, found_at (omega arith) c.in_ok-x.ensures))) c.in_ok-z.ensures (λ a p on₁.
      rw (expect_found M s_equals _ c.in_ok-value.ensures)
      (until_err M s_semicolon _ _ (c.in_err-past.ensures.agrees M f (omega (arith, c.requires, c.in_ok-x.ensures, found_at (omega arith) c.in_ok-x.ensures, c.in_ok-y.ensures.moved.to, c.in_ok-z.ensures, found_at (omega arith) c.in_ok-z.ensures, c.in_ok-value.ensures, found_at (omega arith) c.in_ok-value.ensures)))))));
})

pub returns-in_err-end : goal.returns-in_err-end
returns-in_err-end c = rw (same_err c.from_residual-in_err-end.ensures.1) (record {
  moved = omega (arith, c.requires, c.in_ok-x.ensures, found_at (omega arith) c.in_ok-x.ensures, c.in_ok-y.ensures.moved.to, c.in_ok-z.ensures, found_at (omega arith) c.in_ok-z.ensures, c.in_ok-value.ensures, found_at (omega arith) c.in_ok-value.ensures, c.in_ok-past.ensures.moved.to, c.in_err-end.ensures);
  agrees = λ M f h. rw (assignment_memory M f _ c.requires.starts.kind c.requires.at_value)
      (rw (expect_found M s_bracket _ c.in_ok-x.ensures)
      (until_ok M s_unbracket _ _ (c.in_ok-y.ensures.agrees M f (omega (arith, c.requires, c.in_ok-x.ensures, found_at (omega arith) c.in_ok-x.ensures))) c.in_ok-z.ensures (λ a p on₁.
      rw (expect_found M s_equals _ c.in_ok-value.ensures)
      (until_missed M s_semicolon _ _ (c.in_ok-past.ensures.agrees M f (omega (arith, c.requires, c.in_ok-x.ensures, found_at (omega arith) c.in_ok-x.ensures, c.in_ok-y.ensures.moved.to, c.in_ok-z.ensures, found_at (omega arith) c.in_ok-z.ensures, c.in_ok-value.ensures, found_at (omega arith) c.in_ok-value.ensures))) c.in_err-end.ensures))));
})

pub expr-requires : goal.expr-requires
expr-requires c = omega (arith, c.requires, c.in_ok-x.ensures, found_at (omega arith) c.in_ok-x.ensures)

pub expect-requires-3 : goal.expect-requires-3
expect-requires-3 c = omega (arith, c.requires, c.in_ok-x.ensures, found_at (omega arith) c.in_ok-x.ensures, c.in_ok-y.ensures.moved.to, c.in_ok-z.ensures, found_at (omega arith) c.in_ok-z.ensures)

pub expr-requires-2 : goal.expr-requires-2
expr-requires-2 c = omega (arith, c.requires, c.in_ok-x.ensures, found_at (omega arith) c.in_ok-x.ensures, c.in_ok-y.ensures.moved.to, c.in_ok-z.ensures, found_at (omega arith) c.in_ok-z.ensures, c.in_ok-value.ensures, found_at (omega arith) c.in_ok-value.ensures)

pub returns : goal.returns
unfolding flat_assignment
returns c = record {
  moved = omega (arith, c.requires, c.in_ok-x.ensures, found_at (omega arith) c.in_ok-x.ensures, c.in_ok-y.ensures.moved.to, c.in_ok-z.ensures, found_at (omega arith) c.in_ok-z.ensures, c.in_ok-value.ensures, found_at (omega arith) c.in_ok-value.ensures, c.in_ok-past.ensures.moved.to, c.in_ok-end.ensures, found_at (omega arith) c.in_ok-end.ensures, c.put.ensures);
  agrees = λ M f h. rw (assignment_memory M f _ c.requires.starts.kind c.requires.at_value)
      (rw (expect_found M s_bracket _ c.in_ok-x.ensures)
      (until_ok M s_unbracket _ _ (c.in_ok-y.ensures.agrees M f (omega (arith, c.requires, c.in_ok-x.ensures, found_at (omega arith) c.in_ok-x.ensures))) c.in_ok-z.ensures (λ a p on₁.
      rw (expect_found M s_equals _ c.in_ok-value.ensures)
      (until_ok M s_semicolon _ _ (c.in_ok-past.ensures.agrees M f (omega (arith, c.requires, c.in_ok-x.ensures, found_at (omega arith) c.in_ok-x.ensures, c.in_ok-y.ensures.moved.to, c.in_ok-z.ensures, found_at (omega arith) c.in_ok-z.ensures, c.in_ok-value.ensures, found_at (omega arith) c.in_ok-value.ensures))) c.in_ok-end.ensures (λ b p on₂.
      read (on_more (on_more on₁ on₂) c.put.ensures))))));
}
