-- `looked_up::number` meets its contract: what is left of the items answers as all of them. Assumes nothing.
use mathlib.Core.Path.{sym, ap, ◌∙◌}
use Prim.Native.Nat.{ℕ}
use mathlib.Core.List.{List}
use native.Mathlib.Omega.{arith}
use Rattle.language.specs.Text.{same}
use Rattle.looked_up.proofs.Numbers.{from_here, from_next, from_other, from_none, from_all}
use Rattle.looked_up.proofs.number.Goals as goal
use Rattle.looked_up.proofs.number.Goals.{then-tape-i+else-same_bytes, else-tape-i}

pub returns-then-same_bytes : goal.returns-then-same_bytes
returns-then-same_bytes c =
    let a = c.args in
    let is = ap (λ (l : List ℕ). same l a.called.now) (sym c.name.ensures) ∙ sym c.same_bytes.ensures ∙ c.if-same_bytes.true in
    let e = from_here a.text.now a.tape.now a.op a.many a.called.now c.loop-i.i c.loop-i-test.true c.if-tape-i.true is in
    omega (arith, e, from_all a.text.now a.tape.now a.op a.many a.called.now, c.loop-i.invariant.1)

pub loop-i-preserved : goal.loop-i-preserved
loop-i-preserved c =
    let a = c.args in
    let i = c.loop-i.i in
    elim c.if-tape-i.branch [
      | then-tape-i+else-same_bytes w ↦
          let is = ap (λ (l : List ℕ). same l a.called.now) (sym w.name.ensures) ∙ sym w.same_bytes.ensures ∙ w.if-same_bytes.false in
          (omega arith, omega (arith, from_next a.text.now a.tape.now a.op a.many a.called.now i c.loop-i-test.true w.if-tape-i.true is, c.loop-i.invariant.1))
      | else-tape-i w ↦ (omega arith, omega (arith, from_other a.text.now a.tape.now a.op a.many a.called.now i c.loop-i-test.true w.if-tape-i.false, c.loop-i.invariant.1))
    ]

pub returns : goal.returns
returns c =
    let a = c.args in
    omega (arith, from_none a.text.now a.tape.now a.op a.many a.called.now c.loop-i.i (omega arith), from_all a.text.now a.tape.now a.op a.many a.called.now, c.loop-i.invariant.1)
