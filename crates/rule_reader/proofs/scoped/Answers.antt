-- `rule_reader::scoped` meets its contract. Assumes nothing.
use Prim.Native.Nat.{suc}
use native.Mathlib.Omega.{arith}
use Rattle.readers.proofs.Fixed.{s_in}
use Rattle.readers.proofs.Laws.{on_more, moved_more, same_err}
use Rattle.readers.proofs.Spells.{until_ok, until_missed, until_err, found_at}
use Rattle.readers.specs.Meets.{fault}
use Rattle.rule_reader.proofs.Ruled.{scoped_some, scoped_none}
use Rattle.rule_reader.proofs.scoped.Goals as goal

pub returns-in_err-expect : goal.returns-in_err-expect
returns-in_err-expect c = rw (same_err c.from_residual.ensures.1) (record {
  moved = omega (arith, c.requires, c.in_err-expect.ensures);
  agrees = λ M f h. rw (scoped_none M f _ _ c.in_err-expect.ensures) fault;
})

pub returns-in_err-x : goal.returns-in_err-x
returns-in_err-x c = rw (same_err c.from_residual-in_err-x.ensures.1) (record {
  moved = record { to = c.in_err-x.ensures.moved.to };
  agrees = λ M f h. rw (scoped_some M f _ _ c.in_ok-expect.ensures.kind)
      (until_err M s_in _ _ (c.in_err-x.ensures.agrees M (suc f) (omega (arith, c.requires, c.in_ok-expect.ensures, found_at (omega arith) c.in_ok-expect.ensures))));
})

pub returns-in_err-y : goal.returns-in_err-y
returns-in_err-y c = rw (same_err c.from_residual-in_err-y.ensures.1) (record {
  moved = omega (arith, c.requires, c.in_ok-expect.ensures, found_at (omega arith) c.in_ok-expect.ensures, c.in_ok-x.ensures.moved.to, c.in_err-y.ensures);
  agrees = λ M f h. rw (scoped_some M f _ _ c.in_ok-expect.ensures.kind)
      (until_missed M s_in _ _ (c.in_ok-x.ensures.agrees M (suc f) (omega (arith, c.requires, c.in_ok-expect.ensures, found_at (omega arith) c.in_ok-expect.ensures))) c.in_err-y.ensures);
})

pub emit-requires : goal.emit-requires
emit-requires c = omega (arith, c.requires, c.in_ok-expect.ensures, found_at (omega arith) c.in_ok-expect.ensures)

pub vals-requires : goal.vals-requires
vals-requires c = omega (arith, c.requires, c.in_ok-expect.ensures, found_at (omega arith) c.in_ok-expect.ensures, c.emit.ensures)

pub written-requires : goal.written-requires
written-requires c = omega (arith, c.requires, c.in_ok-expect.ensures, found_at (omega arith) c.in_ok-expect.ensures, c.in_ok-x.ensures.moved.to, c.in_ok-y.ensures, found_at (omega arith) c.in_ok-y.ensures, c.emit.ensures)

pub returns : goal.returns
returns c = record {
  moved = moved_more (omega (arith, c.requires, c.in_ok-expect.ensures, found_at (omega arith) c.in_ok-expect.ensures, c.in_ok-x.ensures.moved.to, c.in_ok-y.ensures, found_at (omega arith) c.in_ok-y.ensures, c.emit.ensures)) c.written.ensures.moved;
  agrees = λ M f h. rw (scoped_some M f _ _ c.in_ok-expect.ensures.kind)
      (until_ok M s_in _ _ (c.in_ok-x.ensures.agrees M (suc f) (omega (arith, c.requires, c.in_ok-expect.ensures, found_at (omega arith) c.in_ok-expect.ensures))) c.in_ok-y.ensures (λ a p on₁.
      c.written.ensures.agrees M f (omega (arith, c.requires, c.in_ok-expect.ensures, found_at (omega arith) c.in_ok-expect.ensures, c.in_ok-x.ensures.moved.to, c.in_ok-y.ensures, found_at (omega arith) c.in_ok-y.ensures)) a (on_more c.emit.ensures on₁)));
}
