-- `tape::said_as` meets its contract: what is left of the items answers as all of them. Assumes nothing.
use Rattle.std.proofs.Common.{arith, sym, ap, ◌∙◌, List, ℕ}
use Rattle.language.specs.Text.{same}
use Rattle.tape.proofs.Walks.{said_here, said_next, said_other, said_none}
use Rattle.tape.proofs.said_as.Goals as goal
use Rattle.tape.proofs.said_as.Goals.{else-is-via-then-is+else-same_bytes, else-is-via-else-is}

pub returns-then-same_bytes : goal.returns-then-same_bytes
returns-then-same_bytes c =
    said_here c.args.text.now c.args.tape.now c.args.class c.args.from c.args.called.now c.loop-i.i c.loop-i-test.true
    (sym c.is.ensures ∙ c.if-is.true)
    (ap (λ (l : List ℕ). same l c.args.called.now) (sym c.name.ensures) ∙ sym c.same_bytes.ensures ∙ c.if-same_bytes.true)
    ∙ c.loop-i.invariant.1

pub loop-i-preserved : goal.loop-i-preserved
loop-i-preserved c =
    let here = c.is.ensures in (
      omega arith,
      elim c.else-is.branch [
        | else-is-via-then-is+else-same_bytes w ↦ said_next c.args.text.now c.args.tape.now c.args.class c.args.from c.args.called.now c.loop-i.i c.loop-i-test.true
            (sym here ∙ w.if-is.true)
            (ap (λ (l : List ℕ). same l c.args.called.now) (sym w.name.ensures) ∙ sym w.same_bytes.ensures ∙ w.if-same_bytes.false)
        | else-is-via-else-is w ↦ said_other c.args.text.now c.args.tape.now c.args.class c.args.from c.args.called.now c.loop-i.i
            c.loop-i-test.true (sym here ∙ w.if-is.false)
      ]
          ∙ c.loop-i.invariant.1,
    )

pub returns : goal.returns
returns c = said_none c.args.text.now c.args.tape.now c.args.class c.args.from c.args.called.now c.loop-i.i (omega arith) ∙ c.loop-i.invariant.1
