-- `rule_reader::rule` meets its contract. Assumes nothing.
use native.Mathlib.Omega.{arith}
use Rattle.readers.proofs.Fixed.{s_open, s_close, s_brace}
use Rattle.readers.proofs.Laws.{on_more, moved_more, same_err}
use Rattle.readers.proofs.Spells.{expect_found, expect_missed, until_ok, until_missed, until_err, found_at}
use Rattle.rule_reader.proofs.Ruled.{rule_law}
use Rattle.rule_reader.proofs.rule.Goals as goal

pub returns-in_err-x : goal.returns-in_err-x
returns-in_err-x c = rw (same_err c.from_residual.ensures.1) (record {
  moved = omega (arith, c.requires, c.in_err-x.ensures);
  agrees = λ M f h. rw (rule_law _ f _ _)
      (expect_missed M s_open _ c.in_err-x.ensures);
})

pub returns-in_err-y : goal.returns-in_err-y
returns-in_err-y c = rw (same_err c.from_residual-in_err-y.ensures.1) (record {
  moved = record { to = c.in_err-y.ensures.moved.to };
  agrees = λ M f h. rw (rule_law _ f _ _)
      (rw (expect_found M s_open _ c.in_ok-x.ensures)
      (until_err M s_close _ _ (c.in_err-y.ensures.agrees M f (omega (arith, c.requires, c.in_ok-x.ensures, found_at (omega arith) c.in_ok-x.ensures)))));
})

pub returns-in_err-z : goal.returns-in_err-z
returns-in_err-z c = rw (same_err c.from_residual-in_err-z.ensures.1) (record {
  moved = omega (arith, c.requires, c.in_ok-x.ensures, found_at (omega arith) c.in_ok-x.ensures, c.in_ok-y.ensures.moved.to, c.in_err-z.ensures);
  agrees = λ M f h. rw (rule_law _ f _ _)
      (rw (expect_found M s_open _ c.in_ok-x.ensures)
      (until_missed M s_close _ _ (c.in_ok-y.ensures.agrees M f (omega (arith, c.requires, c.in_ok-x.ensures, found_at (omega arith) c.in_ok-x.ensures))) c.in_err-z.ensures));
})

pub returns-in_err-first : goal.returns-in_err-first
returns-in_err-first c = rw (same_err c.from_residual-in_err-first.ensures.1) (record {
  moved = omega (arith, c.requires, c.in_ok-x.ensures, found_at (omega arith) c.in_ok-x.ensures, c.in_ok-y.ensures.moved.to, c.in_ok-z.ensures, found_at (omega arith) c.in_ok-z.ensures, c.in_err-first.ensures);
  agrees = λ M f h. rw (rule_law _ f _ _)
      (rw (expect_found M s_open _ c.in_ok-x.ensures)
      (until_ok M s_close _ _ (c.in_ok-y.ensures.agrees M f (omega (arith, c.requires, c.in_ok-x.ensures, found_at (omega arith) c.in_ok-x.ensures))) c.in_ok-z.ensures (λ a p on₁.
      expect_missed M s_brace _ c.in_err-first.ensures)));
})

pub entries-requires : goal.entries-requires
entries-requires c = omega (arith, c.requires, c.in_ok-x.ensures, found_at (omega arith) c.in_ok-x.ensures, c.put.ensures)

pub expect-requires-3 : goal.expect-requires-3
expect-requires-3 c = omega (arith, c.requires, c.in_ok-x.ensures, found_at (omega arith) c.in_ok-x.ensures, c.in_ok-y.ensures.moved.to, c.in_ok-z.ensures, found_at (omega arith) c.in_ok-z.ensures)

pub body-requires : goal.body-requires
body-requires c = omega (arith, c.requires, c.in_ok-x.ensures, found_at (omega arith) c.in_ok-x.ensures, c.in_ok-y.ensures.moved.to, c.in_ok-z.ensures, found_at (omega arith) c.in_ok-z.ensures, c.in_ok-first.ensures, found_at (omega arith) c.in_ok-first.ensures, c.put.ensures)

pub returns : goal.returns
returns c = record {
  moved = moved_more (omega (arith, c.requires, c.in_ok-x.ensures, found_at (omega arith) c.in_ok-x.ensures, c.in_ok-y.ensures.moved.to, c.in_ok-z.ensures, found_at (omega arith) c.in_ok-z.ensures, c.in_ok-first.ensures, found_at (omega arith) c.in_ok-first.ensures, c.put.ensures)) c.body.ensures.moved;
  agrees = λ M f h. rw (rule_law _ f _ _)
      (rw (expect_found M s_open _ c.in_ok-x.ensures)
      (until_ok M s_close _ _ (c.in_ok-y.ensures.agrees M f (omega (arith, c.requires, c.in_ok-x.ensures, found_at (omega arith) c.in_ok-x.ensures))) c.in_ok-z.ensures (λ a p on₁.
      rw (expect_found M s_brace _ c.in_ok-first.ensures)
      (c.body.ensures.agrees M f (omega (arith, c.requires, c.in_ok-x.ensures, found_at (omega arith) c.in_ok-x.ensures, c.in_ok-y.ensures.moved.to, c.in_ok-z.ensures, found_at (omega arith) c.in_ok-z.ensures, c.in_ok-first.ensures, found_at (omega arith) c.in_ok-first.ensures)) _ a (on_more c.put.ensures on₁)))));
}
