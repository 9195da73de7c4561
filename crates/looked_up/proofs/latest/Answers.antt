-- `looked_up::latest` meets its contract: what is left of the items answers as all of them. Assumes nothing.
use mathlib.Core.Path.{sym, ap, ◌∙◌}
use Prim.Native.Nat.{ℕ}
use mathlib.Core.List.{List}
use native.Mathlib.Omega.{arith}
use Rattle.language.specs.Text.{same}
use Rattle.looked_up.proofs.Numbers.{before_here, before_next, before_other, before_none}
use Rattle.looked_up.proofs.latest.Goals as goal

pub loop-i-init : goal.loop-i-init
loop-i-init c = (omega arith, omega arith)

pub returns-then-same_bytes : goal.returns-then-same_bytes
returns-then-same_bytes c =
    let loop = c.loop-i in
    let loop-test = c.loop-i-test in
    let if1 = c.if-tape-i-eq-VAL in
    let s = c in
    let e = before_here s.args.text.now s.args.tape.now s.args.from s.args.called.now loop.i loop-test.true if1.true
    (ap (λ (l : List ℕ). same l s.args.called.now) (sym c.name.ensures)
    ∙ sym c.same_bytes.ensures ∙ c.if-same_bytes.true)
    in
    omega (arith, e, loop.invariant.1)

pub loop-i-preserved-then-tape-i-eq-VAL : goal.loop-i-preserved-then-tape-i-eq-VAL
loop-i-preserved-then-tape-i-eq-VAL c =
    let loop = c.loop-i in
    let loop-test = c.loop-i-test in
    let if1 = c.if-tape-i-eq-VAL in
    let s = c in
    let e = before_next s.args.text.now s.args.tape.now s.args.from s.args.called.now loop.i loop-test.true if1.true
    (ap (λ (l : List ℕ). same l s.args.called.now) (sym c.name.ensures)
    ∙ sym c.same_bytes.ensures ∙ c.if-same_bytes.false)
    in
    (omega arith, omega (arith, e, loop.invariant.1))

pub loop-i-preserved : goal.loop-i-preserved
loop-i-preserved c =
    let s = c in
    let e = before_other s.args.text.now s.args.tape.now s.args.from s.args.called.now c.loop-i.i c.loop-i-test.true c.if-tape-i-eq-VAL.false in
    (omega arith, omega (arith, e, c.loop-i.invariant.1))

pub returns : goal.returns
returns c =
    let s = c in
    let e = before_none s.args.text.now s.args.tape.now s.args.from s.args.called.now c.loop-i.i (omega arith) in
    omega (arith, e, c.loop-i.invariant.1)
