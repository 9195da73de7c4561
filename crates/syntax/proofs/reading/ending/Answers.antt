-- `syntax::reading::ending` meets its contract. Assumes nothing.
use native.Mathlib.Omega.{arith}
use Rattle.readers.specs.Marks.{count}
use Rattle.readers.proofs.Laws.{same_err}
use Rattle.readers.proofs.Spells.{found_at}
use Rattle.syntax.proofs.Whole.{judged_end, judged_more, judged_bad, ending_at, ending_missed, ending_bad}
use Rattle.syntax.proofs.reading.ending.Goals as goal

pub returns-in_err-x : goal.returns-in_err-x
returns-in_err-x c = rw (same_err c.from_residual.ensures.1) (record {
  moved = record { to = c.in_err-x.ensures.moved.to };
  judged = λ M f h hd e on. judged_bad (ending_bad M f c.args.at hd e (c.in_err-x.ensures.agrees M f (omega (arith, h)))) (omega (arith, M.many, c.in_err-x.ensures.moved.to));
})

pub returns-in_err-end : goal.returns-in_err-end
returns-in_err-end c = rw (same_err c.from_residual-in_err-end.ensures.1) (record {
  moved = omega (arith, c.in_ok-x.ensures.moved.to, c.in_err-end.ensures);
  judged = λ M f h hd e on. judged_bad (ending_missed M f c.args.at hd e c.in_err-end.ensures (c.in_ok-x.ensures.agrees M f (omega (arith, h)))) (omega (arith, M.many, c.in_ok-x.ensures.moved.to, c.in_err-end.ensures));
})

pub returns-then-end-words : goal.returns-then-end-words
unfolding count
returns-then-end-words c = let v = found_at (omega arith) c.in_ok-end.ensures in record {
  moved = omega (arith, v, c.in_ok-x.ensures.moved.to);
  judged = λ M f h hd e on. judged_more (ending_at M f c.args.at hd e on c.in_ok-end.ensures (c.in_ok-x.ensures.agrees M f (omega (arith, h)))) (omega (arith, M.many, v, c.if-end-words.true));
}

pub returns : goal.returns
unfolding count
returns c = let v = found_at (omega arith) c.in_ok-end.ensures in record {
  moved = omega (arith, c.in_ok-x.ensures.moved.to, c.in_ok-end.ensures, v);
  judged = λ M f h hd e on. judged_end (ending_at M f c.args.at hd e on c.in_ok-end.ensures (c.in_ok-x.ensures.agrees M f (omega (arith, h)))) (omega (arith, M.many, c.if-end-words.false));
}
