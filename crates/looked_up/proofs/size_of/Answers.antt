-- `looked_up::size_of` meets its contract: what is left of the items answers as all of them. Assumes nothing.
use mathlib.Core.Path.{sym, ap, ◌∙◌}
use native.Mathlib.Omega.{arith}
use Prim.Native.Nat.{◌+◌}
use Rattle.looked_up.proofs.Numbers.{Size, size_all, size_end, size_other, size_here, size_next}
use Rattle.looked_up.proofs.size_of.Goals as goal
use Rattle.looked_up.proofs.size_of.Goals.{then-tape-i-eq-MEMORY+else-left-eq0, else-tape-i-eq-MEMORY}

pub returns-then-left-eq0 : goal.returns-then-left-eq0
returns-then-left-eq0 c =
    let a = c.args in
    let l = c.loop-i in
    c.size_before.ensures ∙ sym (size_here a.tape.now a.many l.i c.loop-i-test.true l.left c.if-tape-i-eq-MEMORY.true c.if-left-eq0.true) ∙ sym l.invariant ∙ size_all a.tape.now a.many a.k

pub loop-i-preserved : goal.loop-i-preserved
loop-i-preserved c =
    let a = c.args in
    let l = c.loop-i in
    elim c.if-tape-i-eq-MEMORY.branch [
      | then-tape-i-eq-MEMORY+else-left-eq0 w ↦ l.invariant ∙ size_next a.tape.now a.many l.i c.loop-i-test.true l.left w.if-tape-i-eq-MEMORY.true w.if-left-eq0.false ∙ ap (Size a.tape.now a.many (l.i + 1)) (sym w.left-is)
      | else-tape-i-eq-MEMORY w ↦ l.invariant ∙ size_other a.tape.now a.many l.i c.loop-i-test.true l.left w.if-tape-i-eq-MEMORY.false ∙ ap (Size a.tape.now a.many (l.i + 1)) (sym w.left-is)
    ]

pub returns : goal.returns
returns c = sym (size_end c.args.tape.now c.args.many c.loop-i.i c.loop-i.left (omega arith)) ∙ sym c.loop-i.invariant ∙ size_all c.args.tape.now c.args.many c.args.k
