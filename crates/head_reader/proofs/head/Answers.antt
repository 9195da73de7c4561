-- `head_reader::head` meets its contract. Assumes nothing.
use native.Mathlib.Omega.{arith}
use Rattle.readers.proofs.Fixed.{s_open, s_close, s_brace}
use Rattle.readers.proofs.Laws.{on_more, moved_more, same_err}
use Rattle.readers.proofs.Spells.{expect_found, expect_missed, until_ok, until_missed, until_err, found_at}
use Rattle.readers.specs.Meets.{fault}
use Rattle.head_reader.proofs.Laws.{head_name, head_none}
use Rattle.head_reader.proofs.head.Goals as goal

pub returns-in_err-x : goal.returns-in_err-x
returns-in_err-x c = rw (same_err c.from_residual.ensures.1) (record {
  moved = omega (arith, c.requires, c.in_err-x.ensures);
  agrees = λ M f h. rw (head_none M _ f c.in_err-x.ensures) fault;
})

pub returns-in_err-y : goal.returns-in_err-y
returns-in_err-y c = rw (same_err c.from_residual-in_err-y.ensures.1) (record {
  moved = omega (arith, c.requires, c.in_ok-x.ensures, found_at (omega arith) c.in_ok-x.ensures, c.in_err-y.ensures);
  agrees = λ M f h. rw (head_name M _ f c.in_ok-x.ensures)
      (expect_missed M s_open _ c.in_err-y.ensures);
})

pub returns-in_err-z : goal.returns-in_err-z
returns-in_err-z c = rw (same_err c.from_residual-in_err-z.ensures.1) (record {
  moved = record { to = c.in_err-z.ensures.moved.to };
  agrees = λ M f h. rw (head_name M _ f c.in_ok-x.ensures)
      (rw (expect_found M s_open _ c.in_ok-y.ensures)
      (until_err M s_close _ _ (c.in_err-z.ensures.agrees M f (omega (arith, c.requires, c.in_ok-x.ensures, found_at (omega arith) c.in_ok-x.ensures, c.in_ok-y.ensures, found_at (omega arith) c.in_ok-y.ensures)))));
})

pub returns-in_err-end : goal.returns-in_err-end
returns-in_err-end c = rw (same_err c.from_residual-in_err-end.ensures.1) (record {
  moved = omega (arith, c.requires, c.in_ok-x.ensures, found_at (omega arith) c.in_ok-x.ensures, c.in_ok-y.ensures, found_at (omega arith) c.in_ok-y.ensures, c.in_ok-z.ensures.moved.to, c.in_err-end.ensures);
  agrees = λ M f h. rw (head_name M _ f c.in_ok-x.ensures)
      (rw (expect_found M s_open _ c.in_ok-y.ensures)
      (until_missed M s_close _ _ (c.in_ok-z.ensures.agrees M f (omega (arith, c.requires, c.in_ok-x.ensures, found_at (omega arith) c.in_ok-x.ensures, c.in_ok-y.ensures, found_at (omega arith) c.in_ok-y.ensures))) c.in_err-end.ensures));
})

pub returns-in_err-first : goal.returns-in_err-first
returns-in_err-first c = rw (same_err c.from_residual-in_err-first.ensures.1) (record {
  moved = omega (arith, c.requires, c.in_ok-x.ensures, found_at (omega arith) c.in_ok-x.ensures, c.in_ok-y.ensures, found_at (omega arith) c.in_ok-y.ensures, c.in_ok-z.ensures.moved.to, c.in_ok-end.ensures, found_at (omega arith) c.in_ok-end.ensures, c.in_err-first.ensures);
  agrees = λ M f h. rw (head_name M _ f c.in_ok-x.ensures)
      (rw (expect_found M s_open _ c.in_ok-y.ensures)
      (until_ok M s_close _ _ (c.in_ok-z.ensures.agrees M f (omega (arith, c.requires, c.in_ok-x.ensures, found_at (omega arith) c.in_ok-x.ensures, c.in_ok-y.ensures, found_at (omega arith) c.in_ok-y.ensures))) c.in_ok-end.ensures (λ a p on₁.
      expect_missed M s_brace _ c.in_err-first.ensures)));
})

pub expect-requires-2 : goal.expect-requires-2
expect-requires-2 c = omega (arith, c.requires, c.in_ok-x.ensures, found_at (omega arith) c.in_ok-x.ensures)

pub put-requires-clause-n_bound : goal.put-requires-clause-n_bound
put-requires-clause-n_bound c = omega (arith, c.requires, c.in_ok-x.ensures, found_at (omega arith) c.in_ok-x.ensures, c.in_ok-y.ensures, found_at (omega arith) c.in_ok-y.ensures)

pub put-requires-clause-within : goal.put-requires-clause-within
put-requires-clause-within c = omega (arith, c.requires, c.in_ok-x.ensures, found_at (omega arith) c.in_ok-x.ensures, c.in_ok-y.ensures, found_at (omega arith) c.in_ok-y.ensures)

pub signature-requires : goal.signature-requires
signature-requires c = omega (arith, c.requires, c.in_ok-x.ensures, found_at (omega arith) c.in_ok-x.ensures, c.in_ok-y.ensures, found_at (omega arith) c.in_ok-y.ensures, c.put.ensures)

pub expect-requires-4 : goal.expect-requires-4
expect-requires-4 c = omega (arith, c.requires, c.in_ok-x.ensures, found_at (omega arith) c.in_ok-x.ensures, c.in_ok-y.ensures, found_at (omega arith) c.in_ok-y.ensures, c.in_ok-z.ensures.moved.to, c.in_ok-end.ensures, found_at (omega arith) c.in_ok-end.ensures)

pub declarations-requires : goal.declarations-requires
declarations-requires c = omega (arith, c.requires, c.in_ok-x.ensures, found_at (omega arith) c.in_ok-x.ensures, c.in_ok-y.ensures, found_at (omega arith) c.in_ok-y.ensures, c.in_ok-z.ensures.moved.to, c.in_ok-end.ensures, found_at (omega arith) c.in_ok-end.ensures, c.in_ok-first.ensures, found_at (omega arith) c.in_ok-first.ensures, c.put.ensures)

pub returns : goal.returns
returns c = record {
  moved = moved_more (omega (arith, c.requires, c.in_ok-x.ensures, found_at (omega arith) c.in_ok-x.ensures, c.in_ok-y.ensures, found_at (omega arith) c.in_ok-y.ensures, c.in_ok-z.ensures.moved.to, c.in_ok-end.ensures, found_at (omega arith) c.in_ok-end.ensures, c.in_ok-first.ensures, found_at (omega arith) c.in_ok-first.ensures, c.put.ensures)) c.declarations.ensures.moved;
  agrees = λ M f h. rw (head_name M _ f c.in_ok-x.ensures)
      (rw (expect_found M s_open _ c.in_ok-y.ensures)
      (until_ok M s_close _ _ (c.in_ok-z.ensures.agrees M f (omega (arith, c.requires, c.in_ok-x.ensures, found_at (omega arith) c.in_ok-x.ensures, c.in_ok-y.ensures, found_at (omega arith) c.in_ok-y.ensures))) c.in_ok-end.ensures (λ a p on₁.
      rw (expect_found M s_brace _ c.in_ok-first.ensures)
      (c.declarations.ensures.agrees M f (omega (arith, c.requires, c.in_ok-x.ensures, found_at (omega arith) c.in_ok-x.ensures, c.in_ok-y.ensures, found_at (omega arith) c.in_ok-y.ensures, c.in_ok-z.ensures.moved.to, c.in_ok-end.ensures, found_at (omega arith) c.in_ok-end.ensures, c.in_ok-first.ensures, found_at (omega arith) c.in_ok-first.ensures)) _ a (on_more c.put.ensures on₁)))));
}
