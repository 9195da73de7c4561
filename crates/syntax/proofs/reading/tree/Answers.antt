-- `syntax::reading::tree` meets its contract. Assumes nothing.
use native.Mathlib.Omega.{arith}
use mathlib.Core.Path.{refl}
use Rattle.readers.proofs.Laws.{moved_more, same_err}
use Rattle.name_marks.proofs.Marked.{held_again, same_count}
use Rattle.syntax.proofs.Whole.{head_taped, judged_tree, judged_head, moved_same}
use Rattle.syntax.proofs.reading.tree.Goals as goal

pub head-requires : goal.head-requires
head-requires c = omega (arith, c.requires.none, c.requires.ready.table.few)

pub returns-in_err-x : goal.returns-in_err-x
returns-in_err-x c = rw (same_err c.from_residual.ensures.1) (record {
  moved = record { to = c.in_err-x.ensures.moved.to };
  counted = refl;
  held = λ H. H;
  judged = λ H M. judged_head H M c.requires.ready.table.few c.requires.taped.long _ (rw c.requires.none at c.in_err-x.ensures);
})

pub mark-requires : goal.mark-requires
mark-requires c = record {
  tabled = c.requires.ready.table;
  taped = let v = head_taped c.requires.ready.held c.requires.ready.marked c.requires.ready.table.few c.requires.taped.long (rw c.requires.none at c.in_ok-x.ensures) in record { few = omega arith; long = v.long };
}

pub ending-requires : goal.ending-requires
ending-requires c = let v = c.in_ok-x.ensures.moved.to in let e = same_count c.mark.ensures in omega (arith, c.requires.ready.table.few)

pub returns : goal.returns
returns c = record {
  moved = moved_more (rw c.requires.none at c.in_ok-x.ensures.moved.to) (moved_same (same_count c.mark.ensures) c.ending.ensures.moved);
  counted = same_count c.mark.ensures;
  held = λ H. held_again c.mark.ensures H;
  judged = λ H M. judged_tree H M c.requires.ready.table.few c.requires.taped.long (rw c.requires.none at c.in_ok-x.ensures) c.mark.ensures c.ending.ensures;
}
