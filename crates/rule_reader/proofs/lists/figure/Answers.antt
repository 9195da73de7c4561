-- `rule_reader::lists::figure` meets its contract. Assumes nothing.
use Prim.Native.Nat.{◌+◌, ◌≤◌}
use mathlib.Core.Path.{sym, ◌∙◌}
use native.Mathlib.Omega.{arith}
use Rattle.readers.proofs.Laws.{on_value, same_err}
use Rattle.readers.proofs.Spells.{found_at}
use Rattle.readers.specs.Marks.{value_at}
use Rattle.readers.specs.Meets.{read, fault}
use Rattle.tape.specs.Tape.{flat_entry}
use Rattle.rule_reader.proofs.Listed.{figure_kind, figure_long, figure_value, figure_read, value_if}
use Rattle.rule_reader.proofs.lists.figure.Goals as goal
use Rattle.rule_reader.proofs.lists.figure.Goals.{then-long-ne1-via-then-long-ne1, then-long-ne1-via-else-long-ne1+then-v-gt1}

pub returns-in_err-x : goal.returns-in_err-x
returns-in_err-x c = rw (same_err c.from_residual.ensures.1) (record {
  moved = omega (arith, c.requires, c.in_err-x.ensures);
  agrees = λ M f h. rw (figure_kind M _ _ c.in_err-x.ensures) fault;
})

pub value-v-requires : goal.value-v-requires
value-v-requires c = omega (arith, c.requires, c.in_ok-x.ensures, found_at (omega arith) c.in_ok-x.ensures)

pub long-requires : goal.long-requires
long-requires c = omega (arith, c.requires, c.in_ok-x.ensures, found_at (omega arith) c.in_ok-x.ensures)

pub returns-then-long-ne1 : goal.returns-then-long-ne1
returns-then-long-ne1 c = record {
  moved = omega (arith, c.requires);
  agrees = λ M f h. elim c.then-long-ne1.branch [
    | then-long-ne1-via-then-long-ne1 w ↦ rw (figure_long M _ _ c.in_ok-x.ensures.kind (λ q. w.if-long-ne1.true (c.long.ensures ∙ q))) fault
    | then-long-ne1-via-else-long-ne1+then-v-gt1 w ↦ rw (figure_value M _ _ c.in_ok-x.ensures.kind (omega (arith, c.value-v.ensures, w.if-v-gt1))) fault
  ];
}

pub returns : goal.returns
unfolding flat_entry
returns c = let v : value_at c.args.words.now (c.args.at + 4) ≤ 1 = omega (arith, c.value-v.ensures, c.if-v-gt1) in record {
  moved = omega (arith, c.requires, c.in_ok-x.ensures, found_at (omega arith) c.in_ok-x.ensures, c.put.ensures);
  agrees = λ M f h. rw (figure_read M (c.args.at + 4) _ _ c.in_ok-x.ensures.kind (sym c.long.ensures ∙ c.if-long-ne1.false) v c.in_ok-x.ensures.next) (read (on_value (c.value-v.ensures ∙ value_if _ v) c.put.ensures));
}
