-- `rule_reader::group` meets its contract. Assumes nothing.
use Prim.Native.Nat.{suc}
use native.Mathlib.Omega.{arith}
use Rattle.readers.proofs.Fixed.{s_close}
use Rattle.readers.proofs.Laws.{on_more, same_err}
use Rattle.readers.proofs.Spells.{until_ok, until_missed, until_err, found_at}
use Rattle.readers.specs.Meets.{read, fault}
use Rattle.tape.specs.Tape.{flat_group}
use Rattle.rule_reader.proofs.Ruled.{group_open, group_some, group_none}
use Rattle.rule_reader.proofs.group.Goals as goal

pub returns-in_err-x : goal.returns-in_err-x
returns-in_err-x c = rw (same_err c.from_residual.ensures.1) (record {
  moved = omega (arith, c.requires, c.in_err-x.ensures);
  agrees = λ M f h. rw (group_open M f _ _ c.in_err-x.ensures) fault;
})

pub returns-in_err-expect : goal.returns-in_err-expect
returns-in_err-expect c = rw (same_err c.from_residual-in_err-expect.ensures.1) (record {
  moved = omega (arith, c.requires, c.in_ok-x.ensures, found_at (omega arith) c.in_ok-x.ensures, c.in_err-expect.ensures);
  agrees = λ M f h. rw (group_none M f c.args.at _ c.in_ok-x.ensures c.in_err-expect.ensures) fault;
})

pub returns-in_err-y : goal.returns-in_err-y
returns-in_err-y c = rw (same_err c.from_residual-in_err-y.ensures.1) (record {
  moved = record { to = c.in_err-y.ensures.moved.to };
  agrees = λ M f h. rw (group_some M f c.args.at _ c.in_ok-x.ensures c.in_ok-expect.ensures.kind)
      (until_err M s_close _ _ (c.in_err-y.ensures.agrees M (suc f) (omega (arith, c.requires, c.in_ok-x.ensures, found_at (omega arith) c.in_ok-x.ensures, c.in_ok-expect.ensures, found_at (omega arith) c.in_ok-expect.ensures))));
})

pub returns-in_err-z : goal.returns-in_err-z
returns-in_err-z c = rw (same_err c.from_residual-in_err-z.ensures.1) (record {
  moved = omega (arith, c.requires, c.in_ok-x.ensures, found_at (omega arith) c.in_ok-x.ensures, c.in_ok-expect.ensures, found_at (omega arith) c.in_ok-expect.ensures, c.in_ok-y.ensures.moved.to, c.in_err-z.ensures);
  agrees = λ M f h. rw (group_some M f c.args.at _ c.in_ok-x.ensures c.in_ok-expect.ensures.kind)
      (until_missed M s_close _ _ (c.in_ok-y.ensures.agrees M (suc f) (omega (arith, c.requires, c.in_ok-x.ensures, found_at (omega arith) c.in_ok-x.ensures, c.in_ok-expect.ensures, found_at (omega arith) c.in_ok-expect.ensures))) c.in_err-z.ensures);
})

pub expect-requires-2 : goal.expect-requires-2
expect-requires-2 c = omega (arith, c.requires, c.in_ok-x.ensures, found_at (omega arith) c.in_ok-x.ensures)

pub rules-requires : goal.rules-requires
rules-requires c = omega (arith, c.requires, c.in_ok-x.ensures, found_at (omega arith) c.in_ok-x.ensures, c.in_ok-expect.ensures, found_at (omega arith) c.in_ok-expect.ensures, c.put.ensures)

pub returns : goal.returns
unfolding flat_group
returns c = record {
  moved = omega (arith, c.requires, c.in_ok-x.ensures, found_at (omega arith) c.in_ok-x.ensures, c.in_ok-expect.ensures, found_at (omega arith) c.in_ok-expect.ensures, c.in_ok-y.ensures.moved.to, c.in_ok-z.ensures, found_at (omega arith) c.in_ok-z.ensures, c.put.ensures, c.emit.ensures);
  agrees = λ M f h. rw (group_some M f c.args.at _ c.in_ok-x.ensures c.in_ok-expect.ensures.kind)
      (until_ok M s_close _ _ (c.in_ok-y.ensures.agrees M (suc f) (omega (arith, c.requires, c.in_ok-x.ensures, found_at (omega arith) c.in_ok-x.ensures, c.in_ok-expect.ensures, found_at (omega arith) c.in_ok-expect.ensures))) c.in_ok-z.ensures (λ a p on₁.
      read (on_more (on_more c.put.ensures on₁) c.emit.ensures)));
}
