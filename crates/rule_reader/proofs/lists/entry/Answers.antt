-- `rule_reader::lists::entry` meets its contract. Assumes nothing.
use mathlib.Core.Path.{sym, ◌∙◌}
use native.Mathlib.Omega.{arith}
use Rattle.readers.proofs.Laws.{same_err}
use Rattle.readers.proofs.Spells.{found_at, p_inside}
use Rattle.readers.specs.Meets.{fault}
use Rattle.rule_reader.proofs.Listed.{entry_none, entry_dot, entry_p_law, entry_second, entry_figure}
use Rattle.rule_reader.proofs.lists.entry.Goals as goal

pub returns-in_err-x : goal.returns-in_err-x
returns-in_err-x c = rw (same_err c.from_residual.ensures.1) (record {
  moved = omega (arith, c.requires, c.in_err-x.ensures);
  agrees = λ M f h. rw (entry_none M f _ c.in_err-x.ensures) fault;
})

pub returns-in_err-y : goal.returns-in_err-y
returns-in_err-y c = rw (same_err c.from_residual-in_err-y.ensures.1) (record {
  moved = omega (arith, c.requires, c.in_ok-x.ensures, found_at (omega arith) c.in_ok-x.ensures, c.in_err-y.ensures);
  agrees = λ M f h. rw (entry_dot M f _ c.in_ok-x.ensures c.in_err-y.ensures) fault;
})

pub returns-in_err-expect : goal.returns-in_err-expect
returns-in_err-expect c = rw (same_err c.from_residual-in_err-expect.ensures.1) (record {
  moved = omega (arith, c.requires, c.in_ok-x.ensures, found_at (omega arith) c.in_ok-x.ensures, c.in_ok-y.ensures, found_at (omega arith) c.in_ok-y.ensures, p_inside _ _ (sym c.the_p.ensures ∙ c.if-not-the_p.false), c.in_err-expect.ensures);
  agrees = λ M f h. rw (entry_second M f _ c.in_ok-x.ensures c.in_ok-y.ensures (sym c.the_p.ensures ∙ c.if-not-the_p.false) c.in_err-expect.ensures) fault;
})

pub expect-requires-2 : goal.expect-requires-2
expect-requires-2 c = omega (arith, c.requires, c.in_ok-x.ensures, found_at (omega arith) c.in_ok-x.ensures)

pub the_p-requires : goal.the_p-requires
the_p-requires c = omega (arith, c.requires, c.in_ok-x.ensures, found_at (omega arith) c.in_ok-x.ensures, c.in_ok-y.ensures, found_at (omega arith) c.in_ok-y.ensures)

pub returns-then-not-the_p : goal.returns-then-not-the_p
returns-then-not-the_p c = record {
  moved = omega (arith, c.requires, c.in_ok-x.ensures, found_at (omega arith) c.in_ok-x.ensures, c.in_ok-y.ensures, found_at (omega arith) c.in_ok-y.ensures);
  agrees = λ M f h. rw (entry_p_law M f _ c.in_ok-x.ensures c.in_ok-y.ensures (sym c.the_p.ensures ∙ c.if-not-the_p.true)) fault;
}

pub expect-requires-3 : goal.expect-requires-3
expect-requires-3 c = omega (arith, c.requires, c.in_ok-x.ensures, found_at (omega arith) c.in_ok-x.ensures, c.in_ok-y.ensures, found_at (omega arith) c.in_ok-y.ensures, p_inside _ _ (sym c.the_p.ensures ∙ c.if-not-the_p.false))

pub figure-requires-clause-inside : goal.figure-requires-clause-inside
figure-requires-clause-inside c = omega (arith, c.requires, c.in_ok-x.ensures, found_at (omega arith) c.in_ok-x.ensures, c.in_ok-y.ensures, found_at (omega arith) c.in_ok-y.ensures, c.in_ok-expect.ensures, found_at (omega arith) c.in_ok-expect.ensures)

pub returns : goal.returns
returns c = record {
  moved = c.figure.ensures.moved;
  agrees = λ M f h. rw (entry_figure M f _ c.in_ok-x.ensures c.in_ok-y.ensures (sym c.the_p.ensures ∙ c.if-not-the_p.false) c.in_ok-expect.ensures)
      (c.figure.ensures.agrees M f (omega (arith, c.requires)));
}
