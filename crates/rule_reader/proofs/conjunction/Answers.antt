-- `rule_reader::conjunction` meets its contract. Assumes nothing.
use Prim.Native.Nat.{suc}
use native.Mathlib.Omega.{arith}
use Rattle.readers.proofs.Fixed.{s_close}
use Rattle.readers.proofs.Laws.{same_err}
use Rattle.readers.proofs.Spells.{until_err, found_at}
use Rattle.readers.specs.Meets.{read, fault}
use Rattle.rule_reader.proofs.Ruled.{and_open, and_some, and_none, moved_shut, until_shut}
use Rattle.rule_reader.proofs.conjunction.Goals as goal

pub returns-in_err-x : goal.returns-in_err-x
returns-in_err-x c = rw (same_err c.from_residual.ensures.1) (record {
  moved = omega (arith, c.requires, c.in_err-x.ensures);
  agrees = λ M f h. rw (and_open M f _ c.requires.kind c.in_err-x.ensures) fault;
})

pub returns-in_err-expect : goal.returns-in_err-expect
returns-in_err-expect c = rw (same_err c.from_residual-in_err-expect.ensures.1) (record {
  moved = omega (arith, c.requires, c.in_ok-x.ensures, found_at (omega arith) c.in_ok-x.ensures, c.in_err-expect.ensures);
  agrees = λ M f h. rw (and_none M f c.args.at c.requires.kind c.in_ok-x.ensures c.in_err-expect.ensures) fault;
})

pub returns-in_err-y : goal.returns-in_err-y
returns-in_err-y c = rw (same_err c.from_residual-in_err-y.ensures.1) (record {
  moved = record { to = c.in_err-y.ensures.moved.to };
  agrees = λ M f h. rw (and_some M f c.args.at c.requires.kind c.in_ok-x.ensures c.in_ok-expect.ensures.kind)
      (until_err M s_close _ _ (c.in_err-y.ensures.agrees M (suc f) (omega (arith, c.requires, c.in_ok-x.ensures, found_at (omega arith) c.in_ok-x.ensures, c.in_ok-expect.ensures, found_at (omega arith) c.in_ok-expect.ensures))));
})

pub expect-requires-2 : goal.expect-requires-2
expect-requires-2 c = omega (arith, c.requires, c.in_ok-x.ensures, found_at (omega arith) c.in_ok-x.ensures)

pub groups-requires : goal.groups-requires
groups-requires c = omega (arith, c.requires, c.in_ok-x.ensures, found_at (omega arith) c.in_ok-x.ensures, c.in_ok-expect.ensures, found_at (omega arith) c.in_ok-expect.ensures)

pub returns : goal.returns
returns c = record {
  moved = moved_shut _ c.expect-3.result (omega arith) (omega (arith, c.requires, c.in_ok-x.ensures, found_at (omega arith) c.in_ok-x.ensures, c.in_ok-expect.ensures, found_at (omega arith) c.in_ok-expect.ensures, c.in_ok-y.ensures.moved.to)) c.expect-3.ensures;
  agrees = λ M f h. rw (and_some M f c.args.at c.requires.kind c.in_ok-x.ensures c.in_ok-expect.ensures.kind)
      (until_shut M s_close _ _ c.expect-3.result (c.in_ok-y.ensures.agrees M (suc f) (omega (arith, c.requires, c.in_ok-x.ensures, found_at (omega arith) c.in_ok-x.ensures, c.in_ok-expect.ensures, found_at (omega arith) c.in_ok-expect.ensures))) c.expect-3.ensures (λ y a p on₁. read on₁));
}
