-- `looked_up::count` meets its contract: the items counted and those of what is left are all. Assumes nothing.
use native.Mathlib.Omega.{arith}
use Rattle.looked_up.proofs.Numbers.{many_other, many_next, many_none, many_all}
use Rattle.looked_up.proofs.count.Goals as goal
use Rattle.looked_up.proofs.count.Goals.{then-tape-i, else-tape-i}

pub loop-i-init : goal.loop-i-init
loop-i-init c = (omega arith, λ text. omega arith)

pub loop-i-preserved : goal.loop-i-preserved
loop-i-preserved c =
    let a = c.args in
    let i = c.loop-i.i in
    elim c.if-tape-i.branch [
      | then-tape-i w ↦ (omega arith, λ text. omega (arith, many_next text a.tape.now a.op a.many i c.loop-i-test.true w.if-tape-i.true, c.loop-i.invariant.1 text))
      | else-tape-i w ↦ (omega arith, λ text. omega (arith, many_other text a.tape.now a.op a.many i c.loop-i-test.true w.if-tape-i.false, c.loop-i.invariant.1 text))
    ]

pub returns : goal.returns
returns c =
    let a = c.args in
    (omega arith, λ text. omega (arith, many_none text a.tape.now a.op a.many c.loop-i.i (omega arith), many_all text a.tape.now a.op a.many, c.loop-i.invariant.1 text))
