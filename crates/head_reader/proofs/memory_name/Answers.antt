-- `head_reader::memory_name` meets its contract. Assumes nothing.
use Prim.Native.Nat.{◌+◌, ◌*◌}
use mathlib.Core.Path.{sym}
use native.Mathlib.Omega.{arith}
use Rattle.readers.proofs.Fixed.{s_semicolon}
use Rattle.readers.proofs.Laws.{on_more, on_value, same_err}
use Rattle.readers.proofs.Spells.{until_ok, until_missed, until_err, found_at}
use Rattle.readers.specs.Marks.{count}
use Rattle.readers.specs.Meets.{read, fault}
use Rattle.tape.specs.Tape.{flat_memory}
use Rattle.head_reader.proofs.Laws.{memory_name, memory_none}
use Rattle.head_reader.proofs.memory_name.Goals as goal

pub returns-in_err-x : goal.returns-in_err-x
returns-in_err-x c = rw (same_err c.from_residual.ensures.1) (record {
  moved = omega (arith, c.requires, c.in_err-x.ensures);
  agrees = λ M d e on. rw (memory_none M _ d c.in_err-x.ensures) fault;
})

pub returns-in_err-y : goal.returns-in_err-y
returns-in_err-y c = rw (same_err c.from_residual-in_err-y.ensures.1) (record {
  moved = record { to = c.in_err-y.ensures.moved.to };
  agrees = λ M d e on. rw (memory_name M _ d c.in_ok-x.ensures)
      (until_err M s_semicolon _ _ (c.in_err-y.ensures.agrees M (8 * count c.args.words.now + 1) (omega (arith, c.requires, c.in_ok-x.ensures, found_at (omega arith) c.in_ok-x.ensures))));
})

pub returns-in_err-z : goal.returns-in_err-z
returns-in_err-z c = rw (same_err c.from_residual-in_err-z.ensures.1) (record {
  moved = omega (arith, c.requires, c.in_ok-x.ensures, found_at (omega arith) c.in_ok-x.ensures, c.in_ok-y.ensures.moved.to, c.in_err-z.ensures);
  agrees = λ M d e on. rw (memory_name M _ d c.in_ok-x.ensures)
      (until_missed M s_semicolon _ _ (c.in_ok-y.ensures.agrees M (8 * count c.args.words.now + 1) (omega (arith, c.requires, c.in_ok-x.ensures, found_at (omega arith) c.in_ok-x.ensures))) c.in_err-z.ensures);
})

pub size-requires : goal.size-requires
size-requires c = omega (arith, c.requires, c.in_ok-x.ensures, found_at (omega arith) c.in_ok-x.ensures)

pub returns : goal.returns
unfolding flat_memory
returns c = record {
  moved = omega (arith, c.requires, c.in_ok-x.ensures, found_at (omega arith) c.in_ok-x.ensures, c.in_ok-y.ensures.moved.to, c.in_ok-z.ensures, found_at (omega arith) c.in_ok-z.ensures, c.put.ensures);
  agrees = λ M d e on. rw (memory_name M _ d c.in_ok-x.ensures)
      (until_ok M s_semicolon _ _ (c.in_ok-y.ensures.agrees M (8 * count c.args.words.now + 1) (omega (arith, c.requires, c.in_ok-x.ensures, found_at (omega arith) c.in_ok-x.ensures))) c.in_ok-z.ensures (λ a p on₁.
      read (on_more (on_more on on₁) (on_value (sym e) c.put.ensures))));
}
