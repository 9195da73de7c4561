-- `looked_up::cells_before` meets its contract: the cells counted and those of what is left are those of all. Assumes nothing.
use mathlib.Core.Path.{ap}
use Prim.Native.Nat.{◌+◌}
use native.Mathlib.Omega.{arith}
use Rattle.looked_up.proofs.Numbers.{Cells, cells_all, cells_enough, cells_end, cells_other, cells_more}
use Rattle.looked_up.proofs.cells_before.Goals as goal
use Rattle.looked_up.proofs.cells_before.Goals.{then-tape-i-eq-MEMORY, else-tape-i-eq-MEMORY}

pub returns-then-left-eq0 : goal.returns-then-left-eq0
returns-then-left-eq0 c =
    let a = c.args in
    omega (arith, cells_enough a.tape.now a.many c.loop-i.i c.loop-i.left c.if-left-eq0.true, cells_all a.tape.now a.many a.k, c.loop-i.invariant.1)

pub loop-i-preserved : goal.loop-i-preserved
loop-i-preserved c =
    let a = c.args in
    let l = c.loop-i in
    elim c.if-tape-i-eq-MEMORY.branch [
      | then-tape-i-eq-MEMORY w ↦
          let e = cells_more a.tape.now a.many l.i c.loop-i-test.true l.left w.if-tape-i-eq-MEMORY.true c.if-left-eq0.false in
          (omega (arith, w.size_before.type_inv, l.invariant.0), omega (arith, e, w.size_before.ensures, ap (Cells a.tape.now a.many (l.i + 1)) w.left-is, l.invariant.1))
      | else-tape-i-eq-MEMORY w ↦ (omega arith, omega (arith, cells_other a.tape.now a.many l.i c.loop-i-test.true l.left w.if-tape-i-eq-MEMORY.false, ap (Cells a.tape.now a.many (l.i + 1)) w.left-is, l.invariant.1))
    ]

pub returns : goal.returns
returns c =
    let a = c.args in
    omega (arith, cells_end a.tape.now a.many c.loop-i.i c.loop-i.left (omega arith), cells_all a.tape.now a.many a.k, c.loop-i.invariant.1)
